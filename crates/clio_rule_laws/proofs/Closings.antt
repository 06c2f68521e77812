-- The literals of a closing are those of the conclusion.
use Rattle.std.proofs.Common.{◌≡◌, ℕ, zero, suc, ◌+◌, Bool, true, false, List, [], ◌∷◌, Option, Some, None, cond, eqb, length, refl, subst, inl, inr}
use Rattle.std.specs.Prelude.{slice_get, slice_index_or, unwrap_or}
use Rattle.std.specs.List.{list_any}
use Rattle.std.proofs.lemmas.Str.{IsUtf8-nil}
use Rattle.dx_base.specs.Members.{◌∈◌, here, there, Each}
use Rattle.dx_base.proofs.Members.{from_append, from_map}
use Rattle.dx_model.specs.declared.rules.Cell.{Cell}
use Rattle.dx_model.specs.declared.rules.Cell.TheVariants.{Var, Ex, Lit}
use Rattle.dx_model.specs.declared.rules.Atom.{Atom}
use Rattle.dx_model.specs.declared.tables.Link.{Link}
use Rattle.dx_model.specs.Solutions.{cells_in}
use Rattle.dx_model.specs.Tables.{Table, table_of}
use Rattle.dx_logical.specs.Filled.{given_item, fresh_below, row_with_fresh}
use Rattle.dx_closing.specs.declared.growing.Growing.{Growing}
use Rattle.dx_closing.specs.Closing.{serves, supplied, through_link, through_links, through_atom, gone, begun}
use Rattle.clio_rule_laws.specs.ReadBack.{IsStringText, HasStringTexts}
use Rattle.clio_rule_laws.specs.Laws.{ClosingsAreWritable}

-- a literal can stand in a string
abbrev IsRightCell : Cell → Type 0
IsRightCell (Var x) = Unit {0}
IsRightCell (Ex v) = Unit {0}
IsRightCell (Lit t) = IsStringText t

right_cells : (a : Atom) → HasStringTexts a → Each a.cells IsRightCell
right_cells a h (Var x) m = tt
right_cells a h (Ex v) m = tt
right_cells a h (Lit t) m = h t m

string_texts : (a : Atom) → Each a.cells IsRightCell → HasStringTexts a
string_texts a h t m = h (Lit t) m

no_text : IsStringText []
no_text = (IsUtf8-nil, λ b m. elim m [ ])

right_at : (row : List Cell) (k : ℕ) → Each row IsRightCell → IsRightCell (slice_index_or row k (Lit []))
right_at [] k h = no_text
right_at (c ∷ row) zero h = h c (here refl)
right_at (c ∷ row) (suc k) h = right_at row k (λ d m. h d (there m))

right_in : (columns : List ℕ) (row : List Cell) → Each row IsRightCell → Each (cells_in columns row) IsRightCell
right_in columns row h c m = let k = from_map (λ k. slice_index_or row k (Lit [])) columns m in subst IsRightCell k.2 (right_at row k.0 h)

right_given : (ks : List ℕ) (xs : List Cell) (c : ℕ) (fresh : ℕ) → Each xs IsRightCell → IsRightCell (unwrap_or (given_item ks xs c) (Ex fresh))
right_given [] xs c fresh h = tt
right_given (k ∷ ks) [] c fresh h = tt
right_given (k ∷ ks) (x ∷ xs) c fresh h = go (eqb k c) (right_given ks xs c fresh (λ d m. h d (there m)))
  where
    go : (b : Bool) → IsRightCell (unwrap_or (given_item ks xs c) (Ex fresh)) → IsRightCell (unwrap_or (cond b (Some x) (given_item ks xs c)) (Ex fresh))
    go true later = h x (here refl)
    go false later = later

right_filled : (n : ℕ) (ks : List ℕ) (xs : List Cell) (w : ℕ) → Each xs IsRightCell → Each (row_with_fresh Ex n ks xs w) IsRightCell
right_filled n ks xs zero h c m = elim m [ ]
right_filled n ks xs (suc w) h c m = elim (from_append (row_with_fresh Ex n ks xs w) m) [
  | inl k ↦ right_filled n ks xs w h c k
  | inr k ↦ only k
]
  where
    only : c ∈ (unwrap_or (given_item ks xs w) (Ex (n + fresh_below ks xs w)) ∷ []) → IsRightCell c
    only (here e) = subst IsRightCell e (right_given ks xs w (n + fresh_below ks xs w) h)
    only (there k) = elim k [ ]

-- ---- closings

abbrev AreRightAtoms : List Atom → Type 0
AreRightAtoms atoms = Each atoms (λ a. Each a.cells IsRightCell)

right_link : (schema : List Table) (row : List Cell) (C : Growing) (l : Link) → Each row IsRightCell → AreRightAtoms C.atoms → AreRightAtoms (through_link schema row C l).atoms
right_link schema row C l r h = go (list_any (serves l (cells_in l.from row)) C.atoms)
  where
    only : (a : Atom) → a ∈ (record { table = l.table; cells = row_with_fresh Ex C.next l.to (cells_in l.from row) (table_of schema l.table).width } ∷ []) → Each a.cells IsRightCell
    only a (here e) = subst (λ (b : Atom). Each b.cells IsRightCell) e (right_filled C.next l.to (cells_in l.from row) (table_of schema l.table).width (right_in l.from row r))
    only a (there k) = elim k [ ]

    go : (b : Bool) → AreRightAtoms (cond b C (supplied schema C l (cells_in l.from row))).atoms
    go true = h
    go false = λ a m. elim (from_append C.atoms m) [ inl k ↦ h a k | inr k ↦ only a k ]

right_links : (schema : List Table) (row : List Cell) (C : Growing) (ls : List Link) → Each row IsRightCell → AreRightAtoms C.atoms → AreRightAtoms (through_links schema row C ls).atoms
right_links schema row C [] r h = h
right_links schema row C (l ∷ ls) r h = right_links schema row (through_link schema row C l) ls r (right_link schema row C l r h)

found_in : (atoms : List Atom) (n : ℕ) (a : Atom) → slice_get atoms n ≡ Some a → a ∈ atoms
found_in [] n a e = absurd cc
found_in (b ∷ atoms) zero a e = here (cc e)
found_in (b ∷ atoms) (suc n) a e = there (found_in atoms n a e)

right_atom : (schema : List Table) (C : Growing) (n : ℕ) (o : Option Atom) → slice_get C.atoms n ≡ o → AreRightAtoms C.atoms → AreRightAtoms (through_atom schema C o).atoms
right_atom schema C n None e h = h
right_atom schema C n (Some a) e h = right_links schema a.cells C (table_of schema a.table).links (h a (found_in C.atoms n a e)) h

right_gone : (schema : List Table) (C : Growing) (n : ℕ) → AreRightAtoms C.atoms → AreRightAtoms (gone schema C n).atoms
right_gone schema C zero h = h
right_gone schema C (suc n) h = right_atom schema (gone schema C n) n (slice_get (gone schema C n).atoms n) refl (right_gone schema C n h)

pub closings_are_writable : ClosingsAreWritable
closings_are_writable schema list d e closing w = record {
  conversions = rw closing.derived w.conversions;
  literals = λ a m. string_texts a (right_gone schema (begun d.conclusion) (length e.conclusion) (λ b k. right_cells b (w.literals b k)) a (rw closing.conclusion m));
}

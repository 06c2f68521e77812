-- A conclusion whose links are served is its own closing.
use Rattle.std.proofs.Common.{◌≡◌, ℕ, zero, suc, Bool, true, Option, Some, None, List, [], ◌∷◌, length, refl, ap}
use Rattle.std.specs.Prelude.{slice_get, slice_index_or}
use Rattle.std.specs.List.{list_any}
use Rattle.std.proofs.lemmas.Bool.{cond-true, eq-eqb, or_right}
use Rattle.std.proofs.lemmas.Slice.Eq.{bytes_eq-Decides}
use Rattle.dx_base.specs.Members.{◌∈◌, here, there, Each}
use Rattle.dx_base.proofs.Lists.{get_in}
use Rattle.dx_model.specs.declared.rules.Cell.{Cell}
use Rattle.dx_model.specs.declared.rules.Cell.TheVariants.{Var, Ex, Lit}
use Rattle.dx_model.specs.declared.rules.Atom.{Atom}
use Rattle.dx_model.specs.declared.tables.Link.{Link}
use Rattle.dx_model.specs.Solutions.{cells_in}
use Rattle.dx_model.specs.Tables.{Table, table_of}
use Rattle.dx_closing.specs.declared.growing.Growing.{Growing}
use Rattle.dx_closing.specs.Closing.{cells_are_one, has_cells, serves, supplied, through_link, through_links, through_atom, gone, begun}
use Rattle.dx_closing.specs.Laws.{ServedIsClosing}
use Rattle.dx_closing.proofs.Served.{Has}

same_cell-refl : (a : Cell) → cells_are_one a a ≡ true
same_cell-refl (Var x) = eq-eqb x x refl
same_cell-refl (Ex v) = eq-eqb v v refl
same_cell-refl (Lit t) = (bytes_eq-Decides t t).1 refl

has_cells-itself : (row : List Cell) (cs : List ℕ) → has_cells row cs (cells_in cs row) ≡ true
has_cells-itself row [] = refl
has_cells-itself row (c ∷ cs) = rw (same_cell-refl (slice_index_or row c (Lit [])), has_cells-itself row cs) refl

serves_all : (l : Link) (cells : List Cell) (a : Atom) → a.table ≡ l.table → cells_in l.to a.cells ≡ cells → serves l cells a ≡ true
serves_all l cells a t e = rw (← e, t, eq-eqb l.table l.table refl) (has_cells-itself a.cells l.to)

any_so : {X : Type 0} (p : X → Bool) {x : X} {xs : List X} → x ∈ xs → p x ≡ true → list_any p xs ≡ true
any_so p {xs = []} m e = elim m [ ]
any_so p {x} {xs = y ∷ ys} (here d) e = rw (d, e) refl
any_so p {x} {xs = y ∷ ys} (there m) e = or_right (p y) (list_any p ys) (any_so p m e)

links_stay : (schema : List Table) (row : List Cell) (C : Growing) (ls : List Link) → Each ls (λ l. Has l (cells_in l.from row) C.atoms) → through_links schema row C ls ≡ C
links_stay schema row C [] h = refl
links_stay schema row C (l ∷ ls) h =
    let b = h l (here refl) in
    let cells = cells_in l.from row in
    let t = any_so (serves l cells) b.1 (serves_all l cells b.0 b.2 b.3) in
    let e : through_link schema row C l ≡ C = cond-true (list_any (serves l cells) C.atoms) C (supplied schema C l cells) t in
    rw e (links_stay schema row C ls (λ k m. h k (there m)))

abbrev Serve : List Table → List Atom → Type 0
Serve schema C = Each C (λ a. Each (table_of schema a.table).links (λ l. Has l (cells_in l.from a.cells) C))

atom_stays : (schema : List Table) (C : Growing) (o : Option Atom) → Serve schema C.atoms → ((a : Atom) → o ≡ Some a → a ∈ C.atoms) → through_atom schema C o ≡ C
atom_stays schema C None s h = refl
atom_stays schema C (Some a) s h = links_stay schema a.cells C (table_of schema a.table).links (s a (h a refl))

all_stay : (schema : List Table) (C : List Atom) (n : ℕ) → Serve schema C → gone schema (begun C) n ≡ begun C
all_stay schema C zero s = refl
all_stay schema C (suc n) s = rw (all_stay schema C n s) (atom_stays schema (begun C) (slice_get C n) s (λ a e. get_in C n a e))

pub served_is_closing : ServedIsClosing
served_is_closing schema d closed = record {
  premise = refl;
  derived = refl;
  conclusion = ap (λ (D : Growing). D.atoms) (all_stay schema d.conclusion (length d.conclusion) closed.links);
}

-- The closing of a conclusion along the links of a schema.
use Rattle.std.specs.Prelude.{◌≡◌, ℕ, zero, suc, ◌+◌, Bool, true, false, cond, ◌&&◌, nat_eq, max, length}
use Rattle.std.specs.Prelude.{Option, Some, None, slice_get, List, [], ◌∷◌, ◌++◌, slice_index_or}
use Rattle.std.specs.List.{list_any}
use Rattle.std.specs.Str.{bytes_eq}
use Rattle.dx_model.specs.declared.rules.Cell.{Cell}
use Rattle.dx_model.specs.declared.rules.Cell.TheVariants.{Var, Ex, Lit}
use Rattle.dx_model.specs.declared.rules.Atom.{Atom}
use Rattle.dx_model.specs.declared.rules.Rule.{Rule}
use Rattle.dx_model.specs.declared.tables.Link.{Link}
use Rattle.dx_model.specs.Rules.{existentials}
use Rattle.dx_model.specs.Solutions.{cells_in}
use Rattle.dx_model.specs.Tables.{Table, table_of}
use Rattle.dx_logical.specs.Filled.{fresh_below, row_with_fresh}
use Rattle.dx_closing.specs.declared.growing.Growing.{Growing}

-- ---- what serves a link

-- whether two cells are one
abbrev pub cells_are_one : Cell → Cell → Bool
cells_are_one (Var x) (Var y) = nat_eq x y
cells_are_one (Var x) (Ex w) = false
cells_are_one (Var x) (Lit t) = false
cells_are_one (Ex v) (Var y) = false
cells_are_one (Ex v) (Ex w) = nat_eq v w
cells_are_one (Ex v) (Lit t) = false
cells_are_one (Lit s) (Var y) = false
cells_are_one (Lit s) (Ex w) = false
cells_are_one (Lit s) (Lit t) = bytes_eq s t

-- whether a row has these cells in these columns
abbrev pub has_cells : List Cell → List ℕ → List Cell → Bool
has_cells row [] cells = true
has_cells row (c ∷ cs) [] = true
has_cells row (c ∷ cs) (x ∷ xs) = cells_are_one (slice_index_or row c (Lit [])) x && has_cells row cs xs

-- whether an atom is of the table that the link refers to, and has these cells in the referred columns
abbrev pub serves : Link → List Cell → Atom → Bool
serves l cells a = nat_eq a.table l.table && has_cells a.cells l.to cells

-- ---- what is appended

-- an atom more, of the table that the link refers to, with these cells in the
-- referred columns and fresh existential variables elsewhere
abbrev pub supplied : List Table → Growing → Link → List Cell → Growing
supplied schema C l cells = record {
  atoms = C.atoms ++ record {
    table = l.table;
    cells = row_with_fresh Ex C.next l.to cells (table_of schema l.table).width;
  } ∷ [];
  next = C.next + fresh_below l.to cells (table_of schema l.table).width;
}

-- going through a link of an atom that has this row: if no atom serves the link, one is appended
abbrev pub through_link : List Table → List Cell → Growing → Link → Growing
through_link schema row C l =
    cond (list_any (serves l (cells_in l.from row)) C.atoms) C (supplied schema C l (cells_in l.from row))

-- going through these links in order
abbrev pub through_links : List Table → List Cell → Growing → List Link → Growing
through_links schema row C [] = C
through_links schema row C (l ∷ ls) = through_links schema row (through_link schema row C l) ls

-- going through the links of an atom's table, if there is an atom
abbrev pub through_atom : List Table → Growing → Option Atom → Growing
through_atom schema C None = C
through_atom schema C (Some a) = through_links schema a.cells C (table_of schema a.table).links

-- going through the links of the atom at a place, if there is one
abbrev pub through_place : List Table → Growing → ℕ → Growing
through_place schema C n = through_atom schema C (slice_get C.atoms n)

-- going through the first n atoms, those included that are appended on the way
abbrev pub gone : List Table → Growing → ℕ → Growing
gone schema C zero = C
gone schema C (suc n) = through_place schema (gone schema C n) n

-- ---- existential variables

-- the least number from n on that is above all of these
abbrev pub above : ℕ → List ℕ → ℕ
above n [] = n
above n (v ∷ vs) = above (max n (suc v)) vs

-- ---- closings

-- a conclusion, and the number after those of its existential variables
abbrev pub begun : List Atom → Growing
begun C = record { atoms = C; next = above 0 (existentials C) }

-- the closing of the conclusion C is E: what C has become when all atoms of E were gone through
abbrev pub IsClosing : List Table → List Atom → List Atom → Type 0
IsClosing schema C E = (gone schema (begun C) (length E)).atoms ≡ E

-- e is the closing of the rule d: all of d, but for the closing of its conclusion
pub record IsClosingOf (schema : List Table) (d e : Rule) : Type 0 where
  pub premise : e.premise ≡ d.premise
  pub derived : e.derived ≡ d.derived
  pub conclusion : IsClosing schema d.conclusion e.conclusion

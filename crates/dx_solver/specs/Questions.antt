-- Questions to the solver: numbers for variables, so that each atom is a row that is there.
use Rattle.std.specs.Prelude.{◌≡◌, ℕ, ◌<◌, Bool, false, List, length, map, Option, None, Some, slice_index_or}
use Rattle.dx_base.specs.Members.{Each, ◌∈◌}
use Rattle.dx_instance.specs.Cells.{NumberTable, numbers_at}
use Rattle.dx_instance.specs.Shown.{numbers_of_table}
use Rattle.dx_solver.specs.declared.atom.Term.{Term}
use Rattle.dx_solver.specs.declared.atom.Term.TheVariants.{Number, Variable}
use Rattle.dx_solver.specs.declared.atom.PatternAtom.{PatternAtom}
use Rattle.dx_solver.specs.Marks.{is_out}

-- the number that a term has if each variable v has the number a v
abbrev pub number_under : (ℕ → ℕ) → Term → ℕ
number_under a (Number n) = n
number_under a (Variable v) = a v

-- the row that an atom becomes
abbrev pub row_under : (ℕ → ℕ) → PatternAtom → List ℕ
row_under a atom = map (number_under a) atom.terms

-- a row of the atom's table that is not taken out is what the atom becomes
abbrev pub HasImageRow : List NumberTable → List (List Bool) → (ℕ → ℕ) → PatternAtom → Type 0
HasImageRow tables out a atom =
    (p : ℕ) × (p < length (numbers_of_table tables atom.table).rows) × (is_out out atom.table p ≡ false)
    × (numbers_at (numbers_of_table tables atom.table).rows p ≡ row_under a atom)

-- each atom becomes such a row, and each variable that is known has its number
pub record Solves (tables : List NumberTable) (out : List (List Bool)) (atoms : List PatternAtom)
    (known : List (Option ℕ)) (a : ℕ → ℕ)
    : Type 0 where
  pub stands : Each atoms (HasImageRow tables out a)
  pub keeps : (v n : ℕ) → slice_index_or known v None ≡ Some n → a v ≡ n

-- the terms are as many as the table has columns, and each variable is below n
pub record FitsAtom (tables : List NumberTable) (n : ℕ) (atom : PatternAtom) : Type 0 where
  pub table : atom.table < length tables
  pub width : length atom.terms ≡ (numbers_of_table tables atom.table).width
  pub variables : (v : ℕ) → Variable v ∈ atom.terms → v < n

-- the number that an answer gives a variable
abbrev pub answered : List ℕ → ℕ → ℕ
answered xs v = slice_index_or xs v 0

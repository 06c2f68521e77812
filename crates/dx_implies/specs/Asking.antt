-- The conclusion of a rule as atoms of numbers, in which its existential variables stand.
use Rattle.std.specs.Prelude.{◌≡◌, ℕ, ◌<◌, List, length}
use Rattle.std.specs.List.{AllZip}
use Rattle.dx_base.specs.Members.{◌∈◌}
use Rattle.dx_base.specs.Texts.{Text}
use Rattle.dx_model.specs.declared.values.Value.{Value}
use Rattle.dx_model.specs.declared.values.Value.TheVariants.{Const}
use Rattle.dx_model.specs.declared.rules.Cell.{Cell}
use Rattle.dx_model.specs.declared.rules.Cell.TheVariants.{Var, Ex, Lit}
use Rattle.dx_model.specs.declared.rules.Atom.{Atom}
use Rattle.dx_instance.specs.Numbers.{value_of}
use Rattle.dx_instance.specs.Cells.{NumberTable}
use Rattle.dx_instance.specs.Shown.{numbers_of_table}
use Rattle.dx_solver.specs.declared.atom.Term.{Term}
use Rattle.dx_solver.specs.declared.atom.Term.TheVariants.{Number, Variable}
use Rattle.dx_solver.specs.declared.atom.PatternAtom.{PatternAtom}

-- the term is the number of this text
abbrev pub SaysText : List Value → Text → Term → Type 0
SaysText symbols text t = (n : ℕ) × (t ≡ Number n) × (n < length symbols) × (value_of symbols n ≡ Const text)

-- the term says what the cell does: the number of its text, or the same variable
abbrev pub SaysCell : List Value → (ℕ → Text) → Cell → Term → Type 0
SaysCell symbols freeze (Var x) t = SaysText symbols (freeze x) t
SaysCell symbols freeze (Ex v) t = t ≡ Variable v
SaysCell symbols freeze (Lit s) t = SaysText symbols s t

-- the cell has a text that no number stands for
abbrev pub IsNowhere : List Value → (ℕ → Text) → Cell → Type 0
IsNowhere symbols freeze (Var x) = ¬ (Const (freeze x) ∈ symbols)
IsNowhere symbols freeze (Ex v) = ⊥
IsNowhere symbols freeze (Lit s) = ¬ (Const s ∈ symbols)

-- the atom of numbers says what the atom does
pub record SaysAtom (symbols : List Value) (freeze : ℕ → Text) (a : Atom) (p : PatternAtom) : Type 0 where
  pub table : p.table ≡ a.table
  pub cells : AllZip (SaysCell symbols freeze) a.cells p.terms

-- one of the cells has a text that no number stands for
abbrev pub HasNowhere : List Value → (ℕ → Text) → List Cell → Type 0
HasNowhere symbols freeze cells = (c : Cell) × (c ∈ cells) × IsNowhere symbols freeze c

-- the atom has a table, and its width
pub record AtomFitsTable (tables : List NumberTable) (p : PatternAtom) : Type 0 where
  pub table : p.table < length tables
  pub width : length p.terms ≡ (numbers_of_table tables p.table).width

-- Plans of conclusions.
use Rattle.std.specs.Prelude.{◌≡◌, ◌<◌, ℕ, List, [], length, map, Some, slice_get, slice_index, slice_index_or}
use Rattle.std.specs.List.{AllZip}
use Rattle.dx_base.specs.Members.{Each}
use Rattle.dx_model.specs.declared.values.Value.{Value}
use Rattle.dx_model.specs.declared.values.Value.TheVariants.{Const}
use Rattle.dx_model.specs.declared.facts.Fact.{Fact}
use Rattle.dx_model.specs.declared.rules.Cell.{Cell}
use Rattle.dx_model.specs.declared.rules.Cell.TheVariants.{Var, Ex, Lit}
use Rattle.dx_model.specs.declared.rules.Atom.{Atom}
use Rattle.dx_model.specs.Values.{Tuple}
use Rattle.dx_model.specs.Rules.{text_of}
use Rattle.dx_instance.specs.Numbers.{value_of}
use Rattle.dx_instance.specs.Shown.{NumberedInstance, shown_row, shown_tables}
use Rattle.dx_instance.specs.Stored.{TableRows}
use Rattle.dx_tgd.specs.Placed.{place_null}
use Rattle.dx_tgd.specs.declared.planned.PlannedCell.{PlannedCell}
use Rattle.dx_tgd.specs.declared.planned.PlannedCell.TheVariants.{Column, Fixed, Nulls}
use Rattle.dx_tgd.specs.declared.planned.PlannedAtom.{PlannedAtom}

-- the instance that numbered tables show
abbrev pub built : NumberedInstance → List TableRows
built b = shown_tables b.symbols b.tables

-- the number of a planned cell, for a row at a place
abbrev pub planned_number : List ℕ → ℕ → PlannedCell → ℕ
planned_number row place (Column j) = slice_index row j
planned_number row place (Fixed n) = n
planned_number row place (Nulls ns) = slice_index ns.items place

-- the row has the column, and the place has a null
abbrev pub HasNumber : List ℕ → ℕ → PlannedCell → Type 0
HasNumber row place (Column j) = j < length row
HasNumber row place (Fixed n) = Unit {0}
HasNumber row place (Nulls ns) = place < length ns.items

-- the fact that a planned atom says of a row at a place
abbrev pub planned_fact : List Value → List ℕ → ℕ → PlannedAtom → Fact
planned_fact symbols row place p =
    record { table = p.table; row = shown_row symbols (map (planned_number row place) p.cells.items) }

-- the atom is of a table with as many columns as it has cells, each with a number below n
pub record CanStand (widths : List ℕ) (n : ℕ) (row : List ℕ) (place : ℕ) (p : PlannedAtom) : Type 0 where
  pub wide : slice_get widths p.table ≡ Some (length p.cells.items)
  pub there : Each p.cells.items (HasNumber row place)
  pub below : Each p.cells.items (λ c. planned_number row place c < n)

-- the tuples have the text of x in this column
pub record IsVariableColumn (variables : List ℕ) (x j : ℕ) : Type 0 where
  pub within : j < length variables
  pub text : (t : Tuple) → length t ≡ length variables → text_of variables t x ≡ slice_index_or t j []

-- the value stands under the number
pub record StandsAs (symbols : List Value) (n : ℕ) (v : Value) : Type 0 where
  pub within : n < length symbols
  pub value : value_of symbols n ≡ v

-- the numbers of the nulls of an existential variable, by place
pub record NumbersOfNulls (symbols : List Value) (rule v places : ℕ) (numbers : List ℕ) : Type 0 where
  pub many : length numbers ≡ places
  pub each : (k : ℕ) → k < places → StandsAs symbols (slice_index numbers k) (place_null rule k v)

-- the plan of a cell
abbrev pub IsCellPlan : List Value → ℕ → List ℕ → ℕ → PlannedCell → Cell → Type 0
IsCellPlan symbols rule variables places (Column j) (Var x) = IsVariableColumn variables x j
IsCellPlan symbols rule variables places (Column j) (Ex v) = ⊥
IsCellPlan symbols rule variables places (Column j) (Lit t) = ⊥
IsCellPlan symbols rule variables places (Fixed n) (Var x) = ⊥
IsCellPlan symbols rule variables places (Fixed n) (Ex v) = ⊥
IsCellPlan symbols rule variables places (Fixed n) (Lit t) = StandsAs symbols n (Const t)
IsCellPlan symbols rule variables places (Nulls ns) (Var x) = ⊥
IsCellPlan symbols rule variables places (Nulls ns) (Ex v) = NumbersOfNulls symbols rule v places ns.items
IsCellPlan symbols rule variables places (Nulls ns) (Lit t) = ⊥

-- the plan of an atom
pub record IsPlannedAtom (symbols : List Value) (rule : ℕ) (variables : List ℕ) (places : ℕ)
    (p : PlannedAtom) (a : Atom) : Type 0 where
  pub table : p.table ≡ a.table
  pub cells : AllZip (IsCellPlan symbols rule variables places) p.cells.items a.cells

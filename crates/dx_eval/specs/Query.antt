-- A match step as a premise, derived variables and shown variables.
use Rattle.std.specs.Prelude.{◌≡◌, ◌<◌, ◌^◌, ℕ, suc, Option, None, Some, List, [], ◌∷◌, length, map, flat_map}
use Rattle.dx_base.specs.Texts.{Text}
use Rattle.dx_model.specs.declared.facts.Fact.{Fact}
use Rattle.dx_model.specs.declared.rules.Cell.TheVariants.{Var}
use Rattle.dx_model.specs.declared.rules.Atom.{Atom}
use Rattle.dx_model.specs.declared.rules.Derived.{Derived}
use Rattle.dx_model.specs.Values.{Tuple}
use Rattle.dx_model.specs.Covers.{below}
use Rattle.dx_schema.specs.Names.{TableNames}
use Rattle.dx_funcs.specs.declared.conversion.Conversion.{Conversion}
use Rattle.dx_funcs.specs.Names.{first_named}
use Rattle.dx_script.specs.declared.form.CellRef.{CellRef}
use Rattle.dx_script.specs.declared.form.Select.{Select}
use Rattle.dx_script.specs.declared.form.Select.TheVariants.{Cell, Call}
use Rattle.dx_script.specs.declared.form.Equal.{Equal}
use Rattle.dx_script.specs.Meaning.{IsAssignment, selected, table_of_alias}
use Rattle.dx_eval.specs.Variables.{AreVariables, alias_variables, variable_of}

-- an assignment selects the tuple
abbrev pub IsSelected : List TableNames → (Text → Tuple → Text) → List Fact → List Select → List Text
    → List Equal → Tuple
    → Type 0
IsSelected source call I select sources equal t =
    (rows : ℕ → Tuple) × IsAssignment source I sources equal rows × (t ≡ map (selected source call sources rows) select)

-- ---- the premise

-- the atom of an alias
abbrev pub alias_atom : List TableNames → List Text → List (List ℕ) → ℕ → Atom
alias_atom source sources vars alias =
    record { table = table_of_alias source sources alias; cells = map Var (alias_variables vars alias) }

-- an atom for each alias
abbrev pub alias_atoms : List TableNames → List Text → List (List ℕ) → List Atom
alias_atoms source sources vars = map (alias_atom source sources vars) (below (length sources))

-- ---- what is selected

-- the code of a conversion that was found
abbrev pub code_found : Option Conversion → ℕ
code_found None = 0
code_found (Some c) = c.code

-- the derived variable of what is selected, if it is a conversion
abbrev pub derived_in : List Conversion → (CellRef → ℕ) → Select → List Derived
derived_in list variable (Cell c) = []
derived_in list variable (Call name args) =
    record { code = code_found (first_named list name); args = map variable args } ∷ []

-- the derived variables
abbrev pub derived_of_selects : List Conversion → (CellRef → ℕ) → List Select → List Derived
derived_of_selects list variable select = flat_map (derived_in list variable) select

-- the variables that are shown, if the derived ones are counted from a number
abbrev pub shown_from : (CellRef → ℕ) → ℕ → List Select → List ℕ
shown_from variable next [] = []
shown_from variable next (Cell c ∷ select) = variable c ∷ shown_from variable next select
shown_from variable next (Call name args ∷ select) = next ∷ shown_from variable (suc next) select

-- the number after the derived variables
abbrev pub next_after : ℕ → List Select → ℕ
next_after next [] = next
next_after next (Cell c ∷ select) = next_after next select
next_after next (Call name args ∷ select) = next_after (suc next) select

-- ---- the whole

-- premise, derived variables and shown variables are those of the match step, with the variables of its cells
pub record IsQuery (source : List TableNames) (list : List Conversion) (select : List Select)
    (sources : List Text) (equal : List Equal)
    (premise : List Atom) (derived : List Derived) (shown : List ℕ) : Type 0 where
  pub vars : List (List ℕ)
  pub n : ℕ
  pub variables : AreVariables source sources equal vars n
  pub atoms : premise ≡ alias_atoms source sources vars
  pub derives : derived ≡ derived_of_selects list (variable_of source sources vars) select
  pub shows : shown ≡ shown_from (variable_of source sources vars) n select
  pub few : next_after n select < 2 ^ 32

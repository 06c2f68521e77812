-- The first cells of variables, and derived variables that are selected by calls.
use Rattle.std.specs.Prelude.{◌<◌, ℕ, List, length, map}
use Rattle.dx_base.specs.Members.{Each}
use Rattle.dx_model.specs.declared.rules.Derived.{Derived}
use Rattle.dx_model.specs.declared.rules.Rule.{Rule}
use Rattle.dx_model.specs.Covers.{below}
use Rattle.dx_model.specs.Fitting.{premise_variables}
use Rattle.dx_funcs.specs.declared.conversion.Conversion.{Conversion}
use Rattle.dx_funcs.specs.Offers.{IsListed}
use Rattle.dx_script.specs.declared.form.CellRef.{CellRef}
use Rattle.dx_script.specs.Generated.{Spot, first_spot, shows}

-- the first cells of the variables of a premise, among all its cells
abbrev pub firsts_of : List Spot → Rule → List CellRef
firsts_of all d = map (λ y. shows (first_spot y all)) (below (premise_variables d))

-- what a call that is selected asks: the conversion of its derived variable is listed,
-- and takes variables below a number
pub record IsSelectable (list : List Conversion) (variables : ℕ) (e : Derived) : Type 0 where
  pub listed : IsListed list e.code (length e.args)
  pub within : Each e.args (λ y. y < variables)

-- The steps of one kind, of all rules, and what they ask of the rules.
use Rattle.std.specs.Prelude.{ℕ, List, [], Bool, false, flat_map, length, slice_index_or}
use Rattle.dx_base.specs.Members.{Each}
use Rattle.dx_model.specs.declared.rules.Rule.{Rule}
use Rattle.dx_model.specs.Tables.{Table}
use Rattle.dx_model.specs.Solutions.{AtomFits}
use Rattle.dx_model.specs.Fitting.{IsRule, RuleFits}
use Rattle.dx_model.specs.Covers.{below, rule_at}
use Rattle.dx_funcs.specs.declared.conversion.Conversion.{Conversion}
use Rattle.dx_funcs.specs.Offers.{IsListed}
use Rattle.dx_schema.specs.Names.{TableNames}
use Rattle.dx_script.specs.declared.form.Step.{Step}
use Rattle.dx_script.specs.declared.form.Unless.{Unless}
use Rattle.dx_script.specs.Generated.{inserts_of, keep_step}

-- what a match step asks: the rule's premise fits the tables, and the conversions of its derived variables are listed
pub record HasMatchStep (source : List Table) (list : List Conversion) (d : Rule) : Type 0 where
  pub rule : IsRule d
  pub premise : Each d.premise (AtomFits source)
  pub listed : Each d.derived (λ e. IsListed list e.code (length e.args))

-- what insert steps ask: the rule's conclusion fits the tables
pub record HasInsertSteps (target : List Table) (d : Rule) : Type 0 where
  pub rule : IsRule d
  pub conclusion : Each d.conclusion (AtomFits target)

-- what a script asks: the rule fits the tables of both sides, and the conversions of its derived variables are listed
pub record HasScript (source target : List Table) (list : List Conversion) (d : Rule) : Type 0 where
  pub fits : RuleFits source target d
  pub listed : Each d.derived (λ e. IsListed list e.code (length e.args))

-- the parts of a rule, in a list of those of each rule
abbrev pub parts_in : List (List Unless) → ℕ → List Unless
parts_in parts r = slice_index_or parts r []

-- a keep step for each rule that has parts
abbrev pub keeps_by : List (List Unless) → List Step
keeps_by parts = flat_map (λ r. keep_step r (parts_in parts r)) (below (length parts))

-- the insert steps of all rules, of each from its keep table if it is told to have one
abbrev pub inserts_by : List TableNames → List Bool → List Rule → List Step
inserts_by target kept R =
    flat_map (λ r. inserts_of target (slice_index_or kept r false) r (rule_at R r)) (below (length R))

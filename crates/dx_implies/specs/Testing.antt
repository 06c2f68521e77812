-- Rules that are tested beside others.
use Rattle.std.specs.Prelude.{◌≡◌, ℕ, List, []}
use Rattle.dx_base.specs.Members.{Each}
use Rattle.dx_model.specs.declared.rules.Derived.{Derived}
use Rattle.dx_model.specs.declared.rules.Rule.{Rule}
use Rattle.dx_model.specs.Fitting.{AtomsFitWidths, IsRule, RuleFits}
use Rattle.dx_model.specs.Following.{IsClean}
use Rattle.dx_schema.specs.Tables.{model_tables}
use Rattle.dx_implies.specs.declared.between.Between.{Between}

-- the rule fits the two schemas, and none of its literals begins with the prefix
pub record IsTestable (b : Between) (d : Rule) : Type 0 where
  pub fits : RuleFits (model_tables b.source.now) (model_tables b.target.now) d
  pub clean : IsClean b.prefix.now d

-- the rule does so, and has no derived variables
pub record IsPlainTestable (b : Between) (d : Rule) : Type 0 where
  pub fits : RuleFits (model_tables b.source.now) (model_tables b.target.now) d
  pub clean : IsClean b.prefix.now d
  pub plain : d.derived ≡ []

-- the rule has no derived variables, and its atoms fit tables of these widths,
-- those of the source and those of the target
pub record PlainRuleFits (source target : List ℕ) (d : Rule) : Type 0 where
  pub rule : IsRule d
  pub underived : Each d.derived (λ (e : Derived). ⊥)
  pub premise : AtomsFitWidths source d.premise
  pub conclusion : AtomsFitWidths target d.conclusion

-- What holds of each printed rule.
use Rattle.std.specs.Prelude.{List}
use Rattle.dx_base.specs.Members.{◌∈◌, Each}
use Rattle.dx_base.specs.Texts.{Text}
use Rattle.dx_model.specs.declared.rules.Cell.TheVariants.{Lit}
use Rattle.dx_model.specs.declared.rules.Atom.{Atom}
use Rattle.dx_model.specs.declared.rules.Rule.{Rule}
use Rattle.dx_schema.specs.Forest.{Forest}
use Rattle.dx_funcs.specs.declared.conversion.Conversion.{Conversion}
use Rattle.dx_funcs.specs.Names.{conversion_name}
use Rattle.dx_rule_text.specs.Printed.{rule_text, table_name}

-- a text without a line feed
abbrev pub IsOneLine : Text → Type 0
IsOneLine text = ¬ (10 ∈ text)

-- the name of an atom's table, and each of its literals, has no line feed
pub record IsOneLineAtom (schema : Forest) (a : Atom) : Type 0 where
  pub name : IsOneLine (table_name schema a.table)
  pub literals : (text : Text) → Lit text ∈ a.cells → IsOneLine text

-- no name and no literal of a rule has a line feed
pub record IsOneLineRule (source target : Forest) (list : List Conversion) (r : Rule) : Type 0 where
  pub premise : Each r.premise (IsOneLineAtom source)
  pub derived : Each r.derived (λ d. IsOneLine (conversion_name list d.code))
  pub conclusion : Each r.conclusion (IsOneLineAtom target)

-- the text of such a rule has no line feed
abbrev pub RulesAreOneLine : Type 0
RulesAreOneLine =
    (source target : Forest) (list : List Conversion) (r : Rule) → IsOneLineRule source target list r
    → IsOneLine (rule_text source target list r)

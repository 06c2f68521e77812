-- The two files of texts: the rules, and their script.
use Rattle.std.specs.Prelude.{◌<◌, ◌-◌, ◌^◌, List, [], ◌∷◌, length, codes}
use Rattle.dx_base.specs.Members.{Each}
use Rattle.dx_model.specs.declared.rules.Rule.{Rule}
use Rattle.dx_model.specs.Fitting.{RuleFits}
use Rattle.dx_schema.specs.Forest.{Forest}
use Rattle.dx_schema.specs.Names.{table_names_of}
use Rattle.dx_schema.specs.Tables.{model_tables}
use Rattle.dx_funcs.specs.declared.conversion.Conversion.{Conversion}
use Rattle.dx_funcs.specs.Offers.{IsListed}
use Rattle.dx_rule_text.specs.Printed.{rules_text}
use Rattle.dx_script.specs.declared.form.Script.{Script}
use Rattle.dx_script.specs.Generated.{plain_steps}
use Rattle.dx_script.specs.Rewritten.{rewritten_steps}
use Rattle.dx_script_text.specs.Print.{script_text}
use Rattle.dx_exchange.specs.declared.mode.Mode.{Mode}
use Rattle.dx_exchange.specs.declared.mode.Mode.TheVariants.{Plain, Core}
use Rattle.clio_files.specs.Sheets.{PrintedFile}

-- the text of the rules; the rules are counted
abbrev pub rules_told : Forest → Forest → List Conversion → List Rule → PrintedFile
rules_told source target list R =
    record { name = codes "rules.txt"; bytes = rules_text source target list R; count = length R }

-- the script of the rules: in plain mode the one that makes their canonical instance, in core mode the one that makes
-- its uncovered part
abbrev pub script_of : Forest → Forest → List Conversion → Mode → List Rule → Script
script_of source target list Plain R =
    record { steps = plain_steps (table_names_of source) (table_names_of target) list R }
script_of source target list Core R =
    record { steps = rewritten_steps (table_names_of source) (table_names_of target) list R }

-- the text of the script; its steps are counted
abbrev pub script_told : Forest → Forest → List Conversion → Mode → List Rule → PrintedFile
script_told source target list mode R =
    let s = script_of source target list mode R in
    record { name = codes "script.sql"; bytes = script_text s; count = length s.steps }

-- the two files, in order
abbrev pub texts_told : Forest → Forest → List Conversion → Mode → List Rule → List PrintedFile
texts_told source target list mode R = rules_told source target list R ∷ script_told source target list mode R ∷ []

-- There are fewer rules than numbers; each fits the two schemas, and has conversions of the list alone, each of as
-- many arguments as it takes.
pub record FitTexts (source target : Forest) (list : List Conversion) (R : List Rule) : Type 0 where
  pub few : length R < 2 ^ 32 - 1
  pub fit : Each R (RuleFits (model_tables source) (model_tables target))
  pub listed : Each R (λ d. Each d.derived (λ e. IsListed list e.code (length e.args)))

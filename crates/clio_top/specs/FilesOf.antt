-- The files of an exchange under a mapping, made by a call of its own.
use Rattle.std.specs.Prelude.{◌≡◌, ◌⊎◌, List, Bool, codes}
use Rattle.dx_base.specs.Entries.{Entry}
use Rattle.dx_base.specs.Members.{◌∈◌, Each}
use Rattle.dx_base.specs.Texts.{Text}
use Rattle.dx_model.specs.declared.values.NullId.{NullId}
use Rattle.dx_model.specs.declared.values.Value.TheVariants.{Null}
use Rattle.dx_model.specs.Instances.{values}
use Rattle.dx_schema.specs.Forest.{Forest}
use Rattle.dx_schema.specs.Tables.{TableOf, schema_widths, tables_of}
use Rattle.dx_funcs.specs.declared.conversion.Conversion.{Conversion}
use Rattle.dx_tokens.specs.Lexing.{IsWord}
use Rattle.dx_instance.specs.Stored.{TableRows, facts, widths}
use Rattle.dx_exchange.specs.declared.mode.Mode.{Mode}
use Rattle.dx_exchange.specs.declared.result.Exchange.{Exchange}
use Rattle.dx_exchange.specs.Exchanging.{IsExchange}
use Rattle.clio_accept.specs.declared.mapping.Mapping.{Mapping}
use Rattle.clio_accept.specs.Laws.{MappingFits}
use Rattle.clio_files.specs.Files.{AreFiles, files_of}
use Rattle.clio_files.specs.Sheets.{HasTexts, PrintedFile}
use Rattle.clio_files.specs.Texts.{FitTexts}
use Rattle.clio_steps.specs.Steps.{Program, exchange_input}

-- a column's name: a word, or that of one of the two columns that tables have for what lies in one another
abbrev pub IsColumnName : Text → Type 0
IsColumnName name = IsWord name ⊎ ((name ≡ codes "#id") ⊎ (name ≡ codes "#up"))

abbrev pub HaveColumnNames : Forest → Type 0
HaveColumnNames target = Each (tables_of target) (λ (t : TableOf). Each t.columns IsColumnName)

-- for each null of the target the matches have its place, with as many texts as its rule has exported variables
abbrev pub NullsHaveTexts : Mapping → Exchange → Type 0
NullsHaveTexts M e = (n : NullId) → Null n ∈ values (facts e.target) → HasTexts M.rules e.matches n

-- exactly the files of the exchange, by names and bytes
abbrev pub EntriesOfExchange : List Conversion → Mode → Bool → Mapping → Exchange → List Entry → Type 0
EntriesOfExchange list mode nested M e entries =
    (files : List PrintedFile) × AreFiles M.source M.target list mode nested M.rules e files
    × (entries ≡ files_of files)

-- what the call takes
pub record CanBeWritten (list : List Conversion) (M : Mapping) (e : Exchange) : Type 0 where
  pub rules : FitTexts M.source M.target list M.rules
  pub names : HaveColumnNames M.target
  pub widths_are : widths e.target ≡ schema_widths M.target
  pub nulls : NullsHaveTexts M e

-- the exchange of any rows under a mapping that fits is so
abbrev pub ExchangesCanBeWritten : Type 0
ExchangesCanBeWritten =
    (P : Program) (mode : Mode) (M : Mapping) (rows : List TableRows) (e : Exchange) → MappingFits P.list P.tests M
    → IsExchange P.apply (exchange_input mode (M, rows)) e → CanBeWritten P.list M e

-- The stages that commands share: a mapping text, the rows of its source files, their exchange.
use Rattle.std.specs.Prelude.{ℕ, List, Option, codes}
use Rattle.dx_base.specs.declared.file.Count.TheVariants.{TextBytes}
use Rattle.dx_base.specs.declared.limits.TheConstants.{TEXT_BYTES, TARGET_CELLS}
use Rattle.dx_model.specs.Values.{Conversions}
use Rattle.dx_stages.specs.Stages.{Stage, next, by, over, into, file, saying, saying_if}
use Rattle.dx_schema.specs.Tables.{model_tables}
use Rattle.dx_funcs.specs.declared.conversion.Conversion.{Conversion}
use Rattle.dx_funcs.specs.declared.row_test.RowTest.{RowTest}
use Rattle.dx_instance.specs.Stored.{TableRows, facts}
use Rattle.dx_used.specs.Passing.{Passes}
use Rattle.dx_exchange.specs.declared.mode.Mode.{Mode}
use Rattle.dx_exchange.specs.declared.result.Exchange.{Exchange}
use Rattle.dx_exchange.specs.Exchanging.{ExchangeInput, exchanging}
use Rattle.clio_accept.specs.declared.mapping.Mapping.{Mapping}
use Rattle.clio_accept.specs.declared.fault.AcceptFault.{AcceptFault}
use Rattle.clio_accept.specs.declared.fault.MapFault.TheVariants as map_faults
use Rattle.clio_accept.specs.Accepting.{accepting}
use Rattle.clio_source.specs.Source.{SourceRequest, source_stages}
use Rattle.clio_ending.specs.declared.faults.OtherFault.TheVariants as other_faults
use Rattle.clio_ending.specs.declared.ending.Refusal.{Refusal}
use Rattle.clio_ending.specs.declared.ending.Refusal.TheVariants as refusals
use Rattle.clio_ending.specs.Ending.{exchange_refusal, mapping_refusal, other_refusal, source_refusal}
use Rattle.clio_steps.specs.declared.texts.Side.{Side}
use Rattle.clio_steps.specs.declared.texts.Side.TheVariants.{First, Second}

-- what the program can do: the conversions and the row tests that it lists, what each conversion means,
-- and what passes each test
pub record Program : Type 0 where
  pub list : List Conversion
  pub tests : List RowTest
  pub apply : Conversions
  pub passes : Passes

abbrev pub program : List Conversion → List RowTest → Conversions → Passes → Program
program list tests apply passes = record { list = list; tests = tests; apply = apply; passes = passes }

-- how many bytes a mapping text may have
abbrev pub text_bytes : ℕ
text_bytes = TEXT_BYTES

-- how many cells the canonical instance may have
abbrev pub target_cells : ℕ
target_cells = TARGET_CELLS

-- ---- the mapping texts: steps 1 to 3 of docs/HOW-IT-WORKS.md

-- the name of a mapping text's file: of the mapping, or of the one that it is compared with
abbrev pub text_name : Side → List ℕ
text_name First = codes "mapping.clio"
text_name Second = codes "other.clio"

-- there is no such file
abbrev pub absent_text : Side → Refusal
absent_text First = refusals.Mapping map_faults.Absent
absent_text Second = refusals.Other other_faults.Absent

-- the refusal for a fault of the text
abbrev pub side_refusal : Side → AcceptFault → Option Refusal
side_refusal First = mapping_refusal
side_refusal Second = other_refusal

abbrev pub too_long : Refusal
too_long = refusals.Limit (record { what = TextBytes; number = text_bytes })

abbrev pub text_file : Side → Stage Refusal (Unit {0}) (List ℕ)
text_file side = file (text_name side) text_bytes (absent_text side) too_long

-- a mapping text, accepted
abbrev pub text_stages : Program → Side → Stage Refusal (Unit {0}) Mapping
text_stages P side = next (text_file side) (saying_if (side_refusal side) (accepting P.list P.tests))

-- the mapping text
abbrev pub mapping_stages : Program → Stage Refusal (Unit {0}) Mapping
mapping_stages P = text_stages P First

-- ---- the rows: step 4

-- a mapping, and the rows of its source files that pass its conditions
abbrev pub MappingAndRows : Type 0
MappingAndRows = Mapping × List TableRows

-- what a mapping wants of the source files: the rows that pass its conditions
abbrev pub wanted : Mapping → SourceRequest
wanted M = record { schema = M.source; conditions = M.conditions }

-- the rows of the source files that pass, beside the mapping
abbrev pub rows_stages : Program → Stage Refusal Mapping MappingAndRows
rows_stages P =
    into (λ (M : Mapping) (I : List TableRows). (M, I)) (over wanted (saying source_refusal (source_stages P.passes)))

-- ---- the exchange: steps 5 to 8

-- what is asked: the exchange of these rows under this mapping
abbrev pub exchange_input : Mode → MappingAndRows → ExchangeInput
exchange_input mode p =
    record { rules = p.0.rules; schema = model_tables p.0.target; rows = facts p.1; mode = mode; limit = target_cells }

-- the exchange of the rows; a clash is reported with the names that the target has
abbrev pub named_stage : Conversions → Mode → MappingAndRows → Stage Refusal MappingAndRows Exchange
named_stage apply mode p = over (exchange_input mode) (saying_if (exchange_refusal p.0.target) (exchanging apply))

-- the exchange of the rows, beside the mapping
abbrev pub target_stages : Program → Mode → Stage Refusal MappingAndRows (Mapping × Exchange)
target_stages P mode = into (λ (p : MappingAndRows) (e : Exchange). (p.0, e)) (by (named_stage P.apply mode))

-- a mapping text, its source files, and their exchange
abbrev pub exchanges : Program → Mode → Stage Refusal (Unit {0}) (Mapping × Exchange)
exchanges P mode = next (mapping_stages P) (next (rows_stages P) (target_stages P mode))

-- The stages of `judge`: the mapping, the rows, the given target, the verdict on it.
use Rattle.std.specs.Prelude.{◌≡◌, ℕ, List, [], Option, Some, None}
use Rattle.dx_model.specs.Values.{Conversions}
use Rattle.dx_stages.specs.Ending.{PlanContent}
use Rattle.dx_stages.specs.Stages.{Stage, next, over, into, saying, saying_if}
use Rattle.dx_schema.specs.Tables.{model_tables, schema_widths}
use Rattle.dx_instance.specs.Stored.{TableRows, facts, widths}
use Rattle.dx_judge.specs.declared.fault.JudgeFault.{JudgeFault}
use Rattle.dx_judge.specs.declared.fault.JudgeFault.TheVariants as judge_faults
use Rattle.dx_judge.specs.declared.verdict.Verdict.{Verdict}
use Rattle.dx_judge.specs.Verdicts.{JudgeInput, judging}
use Rattle.clio_accept.specs.declared.mapping.Mapping.{Mapping}
use Rattle.clio_source.specs.Source.{source_left}
use Rattle.clio_given.specs.Given.{TargetRequest, given_stages}
use Rattle.clio_files.specs.Verdicts.{verdict_text}
use Rattle.clio_ending.specs.declared.ending.Done.{Done}
use Rattle.clio_ending.specs.declared.ending.Done.TheVariants.{Judged}
use Rattle.clio_ending.specs.declared.ending.Refusal.{Refusal}
use Rattle.clio_ending.specs.declared.ending.Refusal.TheVariants as refusals
use Rattle.clio_ending.specs.Ending.{source_refusal}
use Rattle.clio_steps.specs.Steps.{MappingAndRows, Program, mapping_stages, target_cells, wanted}

-- ---- the rows and the given target

-- a mapping and its rows, and how many bytes the given files may have
abbrev pub RowsAndBytes : Type 0
RowsAndBytes = MappingAndRows × ℕ

-- the rows of the source files that pass the mapping's conditions, and how many bytes are left
abbrev pub rows_and_bytes : Program → Stage Refusal Mapping RowsAndBytes
rows_and_bytes P =
    into (λ (M : Mapping) (q : List TableRows × ℕ). ((M, q.0), q.1))
    (over wanted (saying source_refusal (source_left P.passes)))

-- a mapping and its rows, and a given target
abbrev pub RowsAndTarget : Type 0
RowsAndTarget = MappingAndRows × List TableRows

-- what is wanted of the given files: the tables of the target, in the bytes that are left
abbrev pub wanted_given : RowsAndBytes → TargetRequest
wanted_given p = record { schema = p.0.0.target; bytes_left = p.1 }

-- the given target, beside the mapping and its rows
abbrev pub given_rows : Stage Refusal RowsAndBytes RowsAndTarget
given_rows =
    into (λ (p : RowsAndBytes) (K : List TableRows). (p.0, K))
    (over wanted_given (saying source_refusal given_stages))

-- ---- the verdict

-- the rows have the tables of the mapping's source, and the given target those of its target
pub record HaveTablesOf (M : Mapping) (rows given : List TableRows) : Type 0 where
  pub rows_fit : widths rows ≡ schema_widths M.source
  pub given_fits : widths given ≡ schema_widths M.target

-- what is judged: the given target, as a target of the rows under the mapping
abbrev pub judged : RowsAndTarget → JudgeInput
judged p =
    record {
      rules = p.0.0.rules;
      schema = model_tables p.0.0.target;
      rows = facts p.0.1;
      given = facts p.1;
      limit = target_cells;
    }

-- the refusal if there is no verdict; running out of memory refuses nothing
abbrev pub judge_refusal : JudgeFault → Option Refusal
judge_refusal (judge_faults.Limit limit) = Some (refusals.Limit limit)
judge_refusal judge_faults.Memory = None

-- the verdict on the given target
abbrev pub judged_rows : Conversions → Stage Refusal RowsAndTarget Verdict
judged_rows convert = over judged (saying_if judge_refusal (judging convert))

-- the same, beside the mapping
abbrev pub judging_rows : Program → Stage Refusal RowsAndTarget (Mapping × Verdict)
judging_rows P = into (λ (p : RowsAndTarget) (v : Verdict). (p.0.0, v)) (judged_rows P.apply)

-- what comes after the mapping text: its source files, the given files, and the verdict
abbrev pub verdict_of_mapping : Program → Stage Refusal Mapping (Mapping × Verdict)
verdict_of_mapping P = next (rows_and_bytes P) (next given_rows (judging_rows P))

-- a mapping text, and the verdict on the given target
abbrev pub verdicts : Program → Stage Refusal (Unit {0}) (Mapping × Verdict)
verdicts P = next (mapping_stages P) (verdict_of_mapping P)

-- what is said of a verdict; no file is put
abbrev pub judged_plan : Mapping × Verdict → PlanContent Done
judged_plan q = record { done = Judged q.1; files = []; text = verdict_text q.0.target q.1 }

-- a verdict, and what is said of it
abbrev pub judge_stages : Program → Stage Refusal (Unit {0}) (PlanContent Done)
judge_stages P = into (λ (u : Unit {0}) (q : Mapping × Verdict). judged_plan q) (verdicts P)

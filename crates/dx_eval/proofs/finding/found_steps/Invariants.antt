use Rattle.std.proofs.Common.{take}
use Rattle.dx_funcs.specs.Names.{call_named}
use Rattle.dx_funcs.specs.Serving.{offered}
use Rattle.dx_instance.specs.Shown.{shown_tables}
use Rattle.dx_instance.specs.Stored.{facts}
use Rattle.dx_schema.specs.Names.{table_names_of}
use Rattle.dx_eval.specs.Finding.{FoundSoFar, matchings}
use Rattle.dx_eval.proofs.finding.found_steps.Given as goal

-- what is found of the steps so far
abbrev pub invariant-loop-step : goal.invariant-loop-step
invariant-loop-step g l =
    FoundSoFar (table_names_of l.source.schema.now) (call_named g.M.Meaning.apply (offered l.source.host.now)) (facts (shown_tables l.source.rows.now.symbols l.source.rows.now.tables)) l.steps l.source.rows.now.symbols l.symbols (matchings (take l.step-index l.steps)) l.tables.items l.limit l.left

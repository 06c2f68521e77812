use Rattle.std.proofs.Common.{take}
use Rattle.std.specs.Prelude.{map}
use Rattle.dx_instance.specs.Numbers.{Extends}
use Rattle.dx_joins.specs.Shown.{texts_of}
use Rattle.dx_schema.specs.Names.{table_names_of}
use Rattle.dx_tgd.specs.Gained.{GainsFacts}
use Rattle.dx_tgd.specs.Planned.{built}
use Rattle.dx_eval.specs.Inserting.{facts_by}
use Rattle.dx_eval.proofs.inserting.insert_rule.Given as goal

abbrev pub invariant-loop-step : goal.invariant-loop-step
invariant-loop-step l = record {
  grows : Extends l.fn.target.symbols l.target.symbols;
  gains : GainsFacts (built l.fn.target) (built l.target) (facts_by (table_names_of l.schema) (take l.step-index l.steps) l.at.rule (map (texts_of l.fn.target.symbols) l.at.rows.now.rows) l.at.places.now);
}

use Rattle.std.proofs.Common.{take}
use Rattle.std.specs.Prelude.{map}
use Rattle.dx_instance.specs.Numbers.{Extends}
use Rattle.dx_joins.specs.Shown.{texts_of}
use Rattle.dx_tgd.specs.Gained.{GainsFacts}
use Rattle.dx_tgd.specs.Planned.{built}
use Rattle.dx_eval.specs.Inserting.{placed_fact}
use Rattle.dx_eval.proofs.inserting.insert_places.Given as goal

abbrev pub invariant-loop-place : goal.invariant-loop-place
invariant-loop-place l = record {
  grows : Extends l.fn.target.symbols l.target.symbols;
  gains : GainsFacts (built l.fn.target) (built l.target) (map (placed_fact l.table l.at.rule (map (texts_of l.fn.target.symbols) l.at.rows.now.rows) l.cells) (take l.place-index l.at.places.now));
}

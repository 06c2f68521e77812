use Rattle.std.proofs.Common.{inl, inr, arith}
use Rattle.std.proofs.lemmas.Bool.{cases_lt}
use Rattle.dx_chase.specs.Parts.{demands_in}
use Rattle.dx_chase.proofs.RowDemands.{adds_none, adds_then}
use Rattle.dx_chase.proofs.Repeating.{there_none}
use Rattle.dx_chase.proofs.asked.add_table.Goals as goal

pub loop-d-init : goal.loop-d-init
loop-d-init c = record {
  adds = adds_none c.args.tables.now _ (demands_in c.args.tables.now c.args.parts.now.items) (λ t d w h k. let z = w.1 in omega (arith, z));
  parts = record {
    lie = c.requires.lie;
    there = there_none c.args.tables.now c.args.table (demands_in c.args.tables.now c.args.parts.now.items) c.in_ok-there.there c.in_ok-there.ensures;
  };
}

pub loop-d-preserved : goal.loop-d-preserved
loop-d-preserved c = record {
  adds = adds_then c.args.tables.now _ _ _ _ _ _ c.loop-d.invariant.adds c.in_ok-end.ensures.adds
      (λ t d w h k. elim (cases_lt d c.loop-d.d) [
        | inl l ↦ inl (w.0, l)
        | inr l ↦ inr (w.0, (let z = w.1 in let e = c.in_ok-determination.ensures in omega (arith, z, e)))
      ]);
  parts = c.in_ok-end.ensures.parts;
}

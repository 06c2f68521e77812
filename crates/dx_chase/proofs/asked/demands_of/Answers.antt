use Rattle.std.proofs.Common.{inl, inr, arith}
use Rattle.std.proofs.lemmas.Bool.{cases_lt}
use Rattle.dx_chase.proofs.RowDemands.{adds_all, adds_then}
use Rattle.dx_chase.proofs.asked.demands_of.Goals as goal

pub loop-t-preserved : goal.loop-t-preserved
loop-t-preserved c = record {
  adds = adds_then c.args.tables.now _ _ _ _ _ _ c.loop-t.invariant.adds c.in_ok-count.ensures.adds
      (λ t d w h k. elim (cases_lt t c.loop-t.t) [
        | inl l ↦ inl l
        | inr l ↦ inr (let e = c.in_ok-table.ensures in omega (arith, w, e))
      ]);
  lie = c.in_ok-count.ensures.lie;
}

pub returns : goal.returns
returns c = adds_all c.args.tables.now _ _ c.loop-t.invariant.adds (λ t d h. let k = c.loop-t-test.false in omega arith)

use Rattle.std.proofs.Common.{arith}
use Rattle.dx_instance.proofs.StoredFacts.{facts_more}
use Rattle.dx_instance.proofs.instance.Instance.stored_facts.Goals as goal

pub loop-table-preserved : goal.loop-table-preserved
loop-table-preserved c =
    facts_more c.args.self.now c.loop-table.table c.loop-place.place c.loop-place.all.items (omega (arith, c.loop-table-test.true, c.tables-table-end.ensures.number)) (omega (arith, c.loop-place-test.false, c.count-place-end.ensures)) c.loop-place.invariant

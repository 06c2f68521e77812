use Rattle.std.proofs.Common.{refl}
use Rattle.dx_base.specs.Members.{◌∈◌}
use Rattle.dx_base.proofs.Members.{in_at}
use Rattle.dx_core.specs.Left.{facts_left}
use Rattle.dx_core.proofs.Asked.{mark_place, mark_table}
use Rattle.dx_core.proofs.Folded.{out_more, out_start, first_at}
use Rattle.dx_core.proofs.Spared.{each_fact}
use Rattle.dx_core.proofs.sparing.Reduction.take_all.Goals as goal

pub take_out-requires-clause-table : goal.take_out-requires-clause-table
take_out-requires-clause-table c =
    mark_table c.args.self.now.numbers c.len.ensures.fit c.loop-at.self.taken _ (rw c.loop-at.invariant.numbers at c.loop-at.self.marks)
    (c.requires _ (in_at c.args.rows.now c.loop-at.at-index first_at c.loop-at-test.true))

pub take_out-requires-clause-place : goal.take_out-requires-clause-place
take_out-requires-clause-place c =
    mark_place c.args.self.now.numbers c.len.ensures.fit c.loop-at.self.taken _ (rw c.loop-at.invariant.numbers at c.loop-at.self.marks)
    (c.requires _ (in_at c.args.rows.now c.loop-at.at-index first_at c.loop-at-test.true))

pub loop-at-init : goal.loop-at-init
loop-at-init c = record { numbers = refl; rows = out_start c.args.self.now.numbers c.args.rows.now c.args.self.now.taken }

pub loop-at-preserved : goal.loop-at-preserved
loop-at-preserved c =
    let N = c.args.self.now.numbers in
    record {
      numbers = c.loop-at.invariant.numbers;
      rows = rw c.take_out.ensures (out_more N c.len.ensures.fit c.args.rows.now c.requires c.args.self.now.taken c.loop-at.self.taken
          (rw c.loop-at.invariant.numbers at c.loop-at.self.marks) c.loop-at.at-index c.loop-at-test.true c.loop-at.invariant.rows);
    }

pub returns-clause-gone : goal.returns-clause-gone
returns-clause-gone c =
    each_fact c.args.self.now.numbers (λ f. ¬ (f ∈ facts_left c.args.self.now.numbers c.loop-at.self.taken)) c.args.rows.now c.loop-at.at-index first_at
    c.loop-at-test.false c.loop-at.invariant.rows.gone

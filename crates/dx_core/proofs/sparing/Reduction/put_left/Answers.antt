use Rattle.std.proofs.Common.{◌∙◌, ap, refl, sym}
use Rattle.dx_base.proofs.Lists.{none_of_length}
use Rattle.dx_core.specs.Sparing.{with_back}
use Rattle.dx_core.proofs.Asked.{mark_place, mark_table}
use Rattle.dx_core.proofs.RowsAway.{back_last}
use Rattle.dx_core.proofs.Passed.{last_in, others_in}
use Rattle.dx_core.proofs.sparing.Reduction.put_left.Goals as goal

pub loop-at-init : goal.loop-at-init
loop-at-init c = record { numbers = refl; there = c.requires; back = refl }

pub put_back-requires-clause-table : goal.put_back-requires-clause-table
put_back-requires-clause-table c =
    mark_table c.args.self.now.numbers c.len.ensures.fit c.loop-at.self.taken c.in-Some.at
    (rw c.loop-at.invariant.numbers at c.loop-at.self.marks)
    (c.loop-at.invariant.there c.in-Some.at (last_in c.loop-at.left.items c.pop.new.self.items c.in-Some.at c.in-Some.ensures.items))

pub put_back-requires-clause-place : goal.put_back-requires-clause-place
put_back-requires-clause-place c =
    mark_place c.args.self.now.numbers c.len.ensures.fit c.loop-at.self.taken c.in-Some.at
    (rw c.loop-at.invariant.numbers at c.loop-at.self.marks)
    (c.loop-at.invariant.there c.in-Some.at (last_in c.loop-at.left.items c.pop.new.self.items c.in-Some.at c.in-Some.ensures.items))

pub loop-at-preserved : goal.loop-at-preserved
loop-at-preserved c = record {
  numbers = c.loop-at.invariant.numbers;
  there = λ r m. c.loop-at.invariant.there r (others_in c.loop-at.left.items c.pop.new.self.items c.in-Some.at c.in-Some.ensures.items r m);
  back = rw c.put_back.ensures (sym (back_last c.loop-at.self.taken c.pop.new.self.items c.in-Some.at)
      ∙ (ap (with_back c.loop-at.self.taken) (sym c.in-Some.ensures.items) ∙ c.loop-at.invariant.back));
}

pub returns-clause-back : goal.returns-clause-back
returns-clause-back c =
    ap (with_back c.loop-at.self.taken) (sym (none_of_length c.loop-at.left.items (sym c.loop-at.left.ok.0 ∙ c.in_default.ensures.cases.0)))
    ∙ c.loop-at.invariant.back

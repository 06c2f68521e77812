use Rattle.std.proofs.Common.{subst, arith}
use Rattle.dx_instance.proofs.SortFacts.{distinct_numbers}
use Rattle.dx_base.specs.Members.{◌∈◌}
use Rattle.dx_joins.specs.Collecting.{Collection, MoreThan}
use Rattle.dx_joins.proofs.collected.Collected.finish.Goals as goal

pub returns-then-count-most : goal.returns-then-count-most
returns-then-count-most c = subst (λ (s : Collection). MoreThan s.most (λ t. t ∈ s.rows)) c.self.view_is (record {
  some = c.in_ok-rows.rows.rows;
  distinct = distinct_numbers c.in_ok-rows.rows.rows c.in_ok-rows.ensures.ascend;
  each = λ t m. (c.in_ok-rows.ensures.same t).0 m;
  more = omega (arith, c.if-count-most.true, c.count.ensures.count);
  few = c.count.ensures.few;
})

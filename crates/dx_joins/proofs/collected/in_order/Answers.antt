use Rattle.std.proofs.Common.{◌∙◌}
use Rattle.dx_joins.proofs.Ascending.{all_first}
use Rattle.dx_joins.proofs.collected.in_order.Goals as goal

pub returns-then-ascending-count-clause-ascend : goal.returns-then-ascending-count-clause-ascend
returns-then-ascending-count-clause-ascend c = all_first c.args.ascending c.args.rows.rows (c.if-ascending-count.true ∙ c.count.ensures.count) c.requires

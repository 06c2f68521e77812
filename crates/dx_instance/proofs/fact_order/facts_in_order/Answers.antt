use Rattle.dx_instance.proofs.Sorting.{facts_ascend, facts_same}
use Rattle.dx_instance.proofs.fact_order.facts_in_order.Goals as goal

pub returns-clause-ascend : goal.returns-clause-ascend
returns-clause-ascend c =
    facts_ascend c.sort_unstable.new.self.items c.dedup.new.self.items c.sort_unstable.ensures.sorted c.dedup.ensures.filtered

pub returns-clause-same : goal.returns-clause-same
returns-clause-same c =
    facts_same c.args.facts.items c.sort_unstable.new.self.items c.dedup.new.self.items
    c.sort_unstable.ensures.permutation c.dedup.ensures.filtered

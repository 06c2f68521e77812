use Rattle.dx_solver.proofs.ValueFacts.{all_of, up_of}
use Rattle.dx_solver.proofs.values.Values.of.Goals as goal

pub invariant_of-result : goal.invariant_of-result
invariant_of-result c =
    up_of c.sort_unstable.new.self.items c.dedup.new.self.items c.sort_unstable.ensures.sorted c.dedup.ensures.filtered

pub returns-clause-all : goal.returns-clause-all
returns-clause-all c =
    all_of c.args.list.items c.sort_unstable.new.self.items c.dedup.new.self.items c.sort_unstable.ensures.permutation
    c.dedup.ensures.filtered

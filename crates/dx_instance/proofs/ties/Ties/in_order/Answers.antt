use Rattle.std.proofs.Common.{◌≡◌, rules}
use Rattle.std.specs.Ordering.{is_lt}
use Rattle.std.proofs.lemmas.Fn.{always_returns_same}
use Rattle.std.proofs.lemmas.List.MinMax.{ranks_by}
use Rattle.dx_instance.proofs.RankFacts.{keys_moved, sorted_numbers}
use Rattle.dx_instance.proofs.TieFacts.{number_ties_lt, number_ties_total}
use Rattle.dx_instance.proofs.ties.Ties.in_order.Goals as goal

pub returns-clause-sorted : goal.returns-clause-sorted
returns-clause-sorted c =
    let S = c.args.self.now.values.now in
    let lengths = c.args.self.now.lengths.now in
    let seconds = c.args.self.now.seconds.items in
    let blank = c.args.self.now.blank in
    sorted_numbers S lengths seconds blank c.args.keys.items c.sort_unstable_by.new.self.items c.requires.keyed c.requires.tied.lengths_are c.requires.tied.seconds_are c.sort_unstable_by.ensures.permutation
    (c.sort_unstable_by.ensures.sorted (number_ties_lt S lengths seconds blank) (ranks_by (number_ties_total S lengths seconds blank) (λ k. k)) (always_returns_same _ (λ a r. is_lt r ≡ number_ties_lt S lengths seconds blank a.0.now a.1.0.now) _ (λ a r f k. search rules)))

pub returns-clause-keyed : goal.returns-clause-keyed
returns-clause-keyed c = keys_moved c.args.self.now.values.now c.args.keys.items c.sort_unstable_by.new.self.items c.requires.keyed c.sort_unstable_by.ensures.permutation

use Rattle.dx_candidates.specs.Pairs.{IsPair}
use Rattle.dx_candidates.proofs.Paired.{item_has}
use Rattle.dx_candidates.proofs.listing.SchemaLines.list_rules.Goals as goal

pub add_pair_rules-requires-clause-pair : goal.add_pair_rules-requires-clause-pair
add_pair_rules-requires-clause-pair c =
    item_has (IsPair c.args.self.now.lines.now c.args.plan.now.sources c.args.plan.now.targets) c.args.plan.now.pairs c.items-pair-items.result.now c.loop-pair.pair-index c.pair-item.result c.items-pair-items.ensures c.loop-pair-test.true c.pair-item.is c.requires.pairs

use Rattle.std.proofs.Common.{[], ◌++◌}
use Rattle.dx_model.specs.Rules.{cells_of}
use Rattle.dx_used.proofs.MarkFacts.{counted_rule}
use Rattle.dx_used.proofs.mentions.add_rule.Goals as goal

pub returns : goal.returns
returns c = record {
  counts = λ none.
      let premise = c.add_atoms.ensures.counts [] none in
      let both = c.add_atoms-2.ensures.counts ([] ++ cells_of c.items.result.now) premise in
      counted_rule c.args.rule.now c.items.result.now c.items-2.result.now c.items-3.result.now c.add_arguments.new.counts c.items.ensures c.items-2.ensures c.items-3.ensures
      (c.add_arguments.ensures.counts (([] ++ cells_of c.items.result.now) ++ cells_of c.items-2.result.now) both);
}

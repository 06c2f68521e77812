use Rattle.dx_base.proofs.Members.{in_at}
use Rattle.dx_used.proofs.NamedFacts.{no_condition}
use Rattle.clio_source.proofs.passing.passes_each.Goals as goal

pub passes_one-requires-clause-listed : goal.passes_one-requires-clause-listed
passes_one-requires-clause-listed g c =
    c.requires.listed _ (in_at c.args.conditions.now c.loop-condition.condition-index no_condition c.loop-condition-test.true)

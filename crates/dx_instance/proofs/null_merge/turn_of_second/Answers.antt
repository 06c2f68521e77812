use Rattle.dx_instance.proofs.MergeFacts.{turn_none}
use Rattle.dx_instance.proofs.null_merge.turn_of_second.Goals as goal

pub returns-clause-some : goal.returns-clause-some
returns-clause-some c = turn_none c.args.none.now c.args.second.now c.in-Some.others.now c.in-Some.pair.now c.requires.empty c.in-Some.ensures.cases.0 c.requires.second

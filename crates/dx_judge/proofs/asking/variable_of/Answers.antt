use Rattle.dx_judge.proofs.Asked.{place_is}
use Rattle.dx_judge.proofs.asking.variable_of.Goals as goal

pub place_of-requires-clause-ascend : goal.place_of-requires-clause-ascend
place_of-requires-clause-ascend c = c.requires.nulls.ascend

pub returns : goal.returns
returns c =
    place_is c.args.nulls.now c.args.null.now c.place_of.result c.requires.nulls.ascend c.requires.known c.place_of.ensures.within c.place_of.ensures.is

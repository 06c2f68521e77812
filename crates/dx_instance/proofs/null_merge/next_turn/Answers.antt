use Rattle.std.proofs.Common.{sym}
use Rattle.dx_instance.proofs.MergeFacts.{turn_first, turn_greater, turn_less, turn_same}
use Rattle.dx_instance.proofs.null_merge.next_turn.Goals as goal

pub returns-in_default-split_first-clause-some : goal.returns-in_default-split_first-clause-some
returns-in_default-split_first-clause-some c =
    turn_first c.args.first.now c.args.second.now c.in-Some.rest.now c.in-Some.pair.now c.in-Some.ensures.cases.0 c.in_default-split_first.ensures.cases c.requires.first

pub returns-in-Less-clause-some : goal.returns-in-Less-clause-some
returns-in-Less-clause-some c =
    turn_less c.args.first.now c.args.second.now c.in-Some.rest.now c.in-Some-split_first.others.now c.in-Some.pair.now c.in-Some-split_first.other.now c.in-Some.ensures.cases.0 c.in-Some-split_first.ensures.cases.0
    c.requires.first c.requires.second (sym c.in-Less.ensures)

pub returns-in-Equal-clause-some : goal.returns-in-Equal-clause-some
returns-in-Equal-clause-some c =
    turn_same c.args.first.now c.args.second.now c.in-Some.rest.now c.in-Some-split_first.others.now c.in-Some.pair.now c.in-Some-split_first.other.now c.in-Some.ensures.cases.0 c.in-Some-split_first.ensures.cases.0
    c.requires.first c.requires.second (sym c.in-Equal.ensures)

pub returns-in-Greater-clause-some : goal.returns-in-Greater-clause-some
returns-in-Greater-clause-some c =
    turn_greater c.args.first.now c.args.second.now c.in-Some.rest.now c.in-Some-split_first.others.now c.in-Some.pair.now c.in-Some-split_first.other.now c.in-Some.ensures.cases.0 c.in-Some-split_first.ensures.cases.0
    c.requires.first c.requires.second (sym c.in-Greater.ensures)

use Rattle.std.proofs.Common.{sym, ◌∙◌}
use Rattle.dx_chase.proofs.PartFacts.{picks_length, right_picks}
use Rattle.dx_chase.proofs.boards.agree.Goals as goal

pub difference-requires-clause-even : goal.difference-requires-clause-even
difference-requires-clause-even c = picks_length _ _ _ c.asked-one.ensures.right ∙ (c.requires.even.even ∙ sym (picks_length _ _ _ c.asked-other.ensures.right))

pub difference-requires-clause-in_one : goal.difference-requires-clause-in_one
difference-requires-clause-in_one c =
    right_picks _ c.args.demands.now c.args.apart.one _ _ c.requires.demands c.requires.even.one c.asked-one.ensures.right c.asked-one.ensures.right_in

pub difference-requires-clause-in_other : goal.difference-requires-clause-in_other
difference-requires-clause-in_other c =
    right_picks _ c.args.demands.now c.args.apart.other _ _ c.requires.demands c.requires.even.other c.asked-other.ensures.right c.asked-other.ensures.right_in

use Rattle.dx_judge.proofs.Moves.{ground_moves}
use Rattle.dx_judge.proofs.moving.moves_into.Goals as goal

pub returns-then-are_ground : goal.returns-then-are_ground
returns-then-are_ground c =
    ground_moves c.are_there.result c.args.from.now _ (c.are_ground.ensures.0 c.if-are_ground.true) c.are_there.ensures

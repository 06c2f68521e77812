use Rattle.dx_blocks.proofs.NullLists.{is_found}
use Rattle.dx_judge.proofs.asking.place_of.Goals as goal

pub unreachable-requires : goal.unreachable-requires
unreachable-requires c =
    is_found c.args.nulls.now c.args.null.now c.in-Err.field-0 c.requires.ascend c.requires.known c.in-Err.ensures.position

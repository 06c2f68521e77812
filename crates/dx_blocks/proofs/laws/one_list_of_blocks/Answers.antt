use Rattle.dx_blocks.proofs.BlockLaws.{one_list}
use Rattle.dx_blocks.proofs.laws.one_list_of_blocks.Goals as goal

pub returns : goal.returns
returns c = one_list

use Rattle.dx_blocks.proofs.BlockLaws.{blocks_closed, each_in_block, blocks_apart}
use Rattle.dx_blocks.proofs.laws.blocks_are_parts.Goals as goal

pub returns-clause-closed : goal.returns-clause-closed
returns-clause-closed c = blocks_closed

pub returns-clause-each : goal.returns-clause-each
returns-clause-each c = each_in_block

pub returns-clause-apart : goal.returns-clause-apart
returns-clause-apart c = blocks_apart

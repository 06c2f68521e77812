use Rattle.std.proofs.Common.{take}
use Rattle.dx_base.specs.Members.{Each}
use Rattle.dx_instance.specs.Stored.{facts}
use Rattle.dx_blocks.specs.declared.block.Block.{Block}
use Rattle.dx_judge.specs.Open.{CanMove}
use Rattle.dx_judge.proofs.mapping.blocks_move.Given as goal

abbrev pub invariant-loop-block : goal.invariant-loop-block
invariant-loop-block l = Each (take l.block-index l.block-items) (λ (b : Block). CanMove b.facts (facts l.into.plain.now))

use Rattle.std.proofs.Common.{drop, map}
use Rattle.dx_blocks.specs.Numbered.{shown_block}
use Rattle.dx_core.specs.Left.{shown_by}
use Rattle.dx_core.proofs.Mapped.{IsMapped}
use Rattle.dx_core.proofs.sparing.Reduction.map_into.Given as goal

abbrev pub invariant-loop-block : goal.invariant-loop-block
invariant-loop-block l = IsMapped (shown_by l.self.numbers) l.self.taken
    (map (shown_block l.self.numbers) (drop l.block-index l.blocks)) l.map

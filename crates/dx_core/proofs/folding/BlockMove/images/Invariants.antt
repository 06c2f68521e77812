use Rattle.std.proofs.Common.{take}
use Rattle.dx_model.specs.Instances.{given}
use Rattle.dx_core.specs.Asking.{pairs_by}
use Rattle.dx_core.specs.Sparing.{AreImages}
use Rattle.dx_core.proofs.folding.BlockMove.images.Given as goal

abbrev pub invariant-loop-at : goal.invariant-loop-at
invariant-loop-at l = AreImages l.numbers l.taken (given (pairs_by l.numbers l.self.block.now.nulls l.self.answer.now)) (take l.at-index l.self.block.now.rows)
    l.images.items

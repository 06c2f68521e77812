use Rattle.std.proofs.Common.{◌∙◌, sym}
use Rattle.dx_base.proofs.Members.{in_at}
use Rattle.dx_model.specs.Instances.{given}
use Rattle.dx_core.specs.Asking.{pairs_by}
use Rattle.dx_core.proofs.Folded.{first_at, image_added, image_skipped, images_all, no_images}
use Rattle.dx_core.proofs.folding.BlockMove.images.Goals as goal

pub loop-at-init : goal.loop-at-init
loop-at-init c =
    no_images c.args.numbers.now c.args.taken.now (given (pairs_by c.args.numbers.now c.args.self.now.block.now.nulls c.args.self.now.answer.now))
    c.args.self.now.block.now.rows c.new-images.result.items c.new-images.ensures.items

pub loop-at-preserved-then-has : goal.loop-at-preserved-then-has
loop-at-preserved-then-has c =
    image_skipped c.args.numbers.now c.args.taken.now (given (pairs_by c.args.numbers.now c.args.self.now.block.now.nulls c.args.self.now.answer.now))
    c.args.self.now.block.now.rows c.loop-at.at-index first_at (rw c.items-at-items.ensures at c.loop-at-test.true) c.loop-at.images.items
    c.loop-at.invariant (rw c.items-at-items.ensures at (sym c.has.ensures ∙ c.if-has.true))

pub image-requires-clause-row : goal.image-requires-clause-row
image-requires-clause-row c =
    c.requires.block.numbers.rows _
    (rw (← c.items-at-items.ensures) (in_at c.items-at-items.result.now c.loop-at.at-index first_at c.loop-at-test.true))

pub loop-at-preserved : goal.loop-at-preserved
loop-at-preserved c =
    image_added c.args.numbers.now c.args.taken.now (given (pairs_by c.args.numbers.now c.args.self.now.block.now.nulls c.args.self.now.answer.now))
    c.args.self.now.block.now.rows c.loop-at.at-index first_at (rw c.items-at-items.ensures at c.loop-at-test.true) c.loop-at.images.items
    c.loop-at.invariant c.push.new.self.items c.in-Some.image (rw c.items-at-items.ensures at (sym c.has.ensures ∙ c.if-has.false))
    (rw c.in-Some.is at c.in_ok-image.ensures.there)
    (rw c.items-at-items.ensures at (rw c.in-Some.is at c.in_ok-image.ensures.becomes)) c.in_ok-push.ensures.items

pub returns : goal.returns
returns c =
    images_all c.args.numbers.now c.args.taken.now (given (pairs_by c.args.numbers.now c.args.self.now.block.now.nulls c.args.self.now.answer.now))
    c.args.self.now.block.now.rows c.loop-at.at-index c.loop-at.images.items (rw c.items-at-items.ensures at c.loop-at-test.false) c.loop-at.invariant

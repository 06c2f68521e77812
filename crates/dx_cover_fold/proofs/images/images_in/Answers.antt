use Rattle.std.proofs.Common.{◌++◌, ◌∷◌, [], ◌∙◌, ap}
use Rattle.dx_model.specs.declared.rules.Cell.{Cell}
use Rattle.dx_model.specs.Covers.{image_of}
use Rattle.dx_cover_fold.proofs.CoverFacts.{mapped_more}
use Rattle.dx_cover_fold.proofs.images.images_in.Goals as goal

pub loop-variable-preserved : goal.loop-variable-preserved
loop-variable-preserved c =
    mapped_more (image_of c.args.variables.now c.args.images.now) c.args.variables.now c.loop-variable.variable-index c.loop-variable.cells.items c.push.new.self.items c.loop-variable-test.true c.loop-variable.invariant
    (c.in_ok-push.ensures.items ∙ ap (λ (x : Cell). c.loop-variable.cells.items ++ x ∷ []) c.in_ok-image_in.ensures)

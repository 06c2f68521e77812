use Rattle.std.proofs.Common.{◌≡◌, drop}
use Rattle.dx_model.specs.Covers.{image_of}
use Rattle.dx_cover_fold.proofs.images.image_in.Given as goal

abbrev pub invariant-loop-i : goal.invariant-loop-i
invariant-loop-i l = image_of l.variables l.images l.variable ≡ image_of (drop l.i l.variables) (drop l.i l.images) l.variable

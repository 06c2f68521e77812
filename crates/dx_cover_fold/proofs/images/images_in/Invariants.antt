use Rattle.std.proofs.Common.{◌≡◌, take, map}
use Rattle.dx_model.specs.Covers.{image_of}
use Rattle.dx_cover_fold.proofs.images.images_in.Given as goal

abbrev pub invariant-loop-variable : goal.invariant-loop-variable
invariant-loop-variable l = l.cells.items ≡ map (image_of l.variables l.images) (take l.variable-index l.variables)

use Rattle.std.proofs.Common.{◌<◌, length}
use Rattle.dx_base.specs.Members.{Each}
use Rattle.dx_cover.proofs.pairs.met_places.Given as goal

abbrev pub invariant-loop-place : goal.invariant-loop-place
invariant-loop-place l = Each l.places.items (λ p. p < length l.atom.cells)

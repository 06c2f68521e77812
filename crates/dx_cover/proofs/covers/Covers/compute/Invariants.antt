use Rattle.std.proofs.Common.{◌≡◌, take}
use Rattle.std.specs.Prelude.{map}
use Rattle.dx_model.specs.Covers.{used_maps}
use Rattle.dx_cover.proofs.covers.Covers.compute.Given as goal

abbrev pub invariant-loop-i : goal.invariant-loop-i
invariant-loop-i l = l.maps ≡ map (λ i. map (λ j. used_maps i j) l.rules) (take l.i-index l.rules)

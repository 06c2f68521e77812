use Rattle.std.proofs.Common.{◌≡◌, take}
use Rattle.std.specs.Prelude.{map}
use Rattle.dx_model.specs.Covers.{used_maps}
use Rattle.dx_cover.proofs.covers.maps_from.Given as goal

abbrev pub invariant-loop-j : goal.invariant-loop-j
invariant-loop-j l = l.row ≡ map (λ j. used_maps l.i j) (take l.j-index l.rules)

use Rattle.std.proofs.Common.{◌<◌, arith}
use Rattle.dx_hom.proofs.BoundFacts.{bound_none}
use Rattle.dx_hom.proofs.bindings.Bindings.reserve.Goals as goal

pub invariant_of-result : goal.invariant_of-result
invariant_of-result c =
    let some : 0 < c.max.result = omega (arith, c.max.ensures) in
    let heads = c.in_ok-heads.ensures.items_if_clones_equal (λ y e. e) in
    let bound = bound_none c.max.result c.in_ok-heads.heads.items some heads in (
      omega (arith, c.in_ok-cells.ensures.capacity),
      omega (arith, c.in_ok-before.ensures.capacity),
      rw (c.in_ok-cells.ensures.items, c.in_ok-before.ensures.items) bound,
    )

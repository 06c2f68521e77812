use Rattle.std.proofs.Common.{arith, List}
use Rattle.std.proofs.lemmas.List.Sorted.{IsPermutation-swap, IsPermutation-trans, length_permutation}
use Rattle.dx_joins.specs.declared.pattern.Pattern.{Pattern}
use Rattle.dx_joins.specs.Planning.{FitPattern}
use Rattle.dx_joins.proofs.Reordering.{each_in}
use Rattle.dx_joins.proofs.order.in_order.Goals as goal

pub cheapest-next-requires-clause-fit : goal.cheapest-next-requires-clause-fit
cheapest-next-requires-clause-fit c =
    rw c.deref-in-loop-place.ensures.value
    (each_in (FitPattern c.args.source.now.tables) c.args.patterns.items c.loop-place.patterns.items c.loop-place.invariant c.requires)

pub loop-place-preserved : goal.loop-place-preserved
loop-place-preserved c =
    let before : List Pattern = c.loop-place.patterns.items in
    let next = c.cheapest-next.ensures in
    let same = c.deref-in-loop-place.ensures.value in
    let long = length_permutation c.args.patterns.items before c.loop-place.invariant in
    let here = c.loop-place-test.true in
    IsPermutation-trans c.args.patterns.items before c.swap.new.self.items c.loop-place.invariant
    (IsPermutation-swap before c.swap.new.self.items c.loop-place.place c.cheapest-next.result (omega (arith, long, here)) (rw same at next)
    c.swap.ensures.items)

use Rattle.std.proofs.Common.{◌≡◌, ◌∙◌, ◌<◌, ℕ, arith, length, subst}
use Rattle.std.proofs.lemmas.List.Sorted.{IsPermutation-swap}
use Rattle.dx_hom.specs.Orders.{IsReordered}
use Rattle.dx_hom.proofs.OrderFacts.{reordered}
use Rattle.dx_hom.proofs.searching.choose.Goals as goal

pub returns-then-start-len-clause-order : goal.returns-then-start-len-clause-order
returns-then-start-len-clause-order c =
    let stack = c.args.stack.now in
    let old = stack.order.items in
    let new = c.swap.new.self.items in
    let start = c.len-start.result in
    let next = c.next_fact-next.result in
    let many = stack.order.ok.0 in
    let inside : start < length old = omega (arith, c.if-start-len.true, c.len.ensures, many) in
    let within : next < length old = omega (arith, c.next_fact-next.ensures.within, c.deref.ensures.len, c.deref.ensures.value, many) in
    let long : length new ≡ length old = omega (arith, c.swap.ensures.len, many, c.swap.new.self.ok.0) in
    let moved = IsPermutation-swap old new start next inside within c.swap.ensures.items in
    let steps : start ≡ length stack.steps.items = c.len-start.ensures ∙ stack.steps.ok.0 in
    subst (λ (k : ℕ). IsReordered k old new) steps
    (reordered old new start next c.next_fact-next.ensures.after long moved c.swap.ensures.by_index)

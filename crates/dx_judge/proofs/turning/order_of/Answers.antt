use Rattle.std.proofs.Common.{◌≡◌, ◌∙◌, ap, arith}
use Rattle.std.specs.List.{range_with_len}
use Rattle.std.proofs.lemmas.List.{take_all}
use Rattle.dx_instance.specs.Shown.{numbers_of_table}
use Rattle.dx_judge.proofs.Orders.{columns_in, is_order, ranked_more}
use Rattle.dx_judge.proofs.turning.order_of.Goals as goal

pub loop-column-preserved : goal.loop-column-preserved
loop-column-preserved c = rw c.in_ok-push.ensures.items (ranked_more c.loop-column.ranked.items c.loop-column.column _ c.loop-column.invariant)

pub returns : goal.returns
returns c =
    let n = (numbers_of_table c.args.numbers.now.tables c.args.table).width in
    let low = c.loop-column-test.false in
    let high = c.loop-column.auto.column-end in
    let end : c.loop-column.column ≡ n = omega (arith, low, high, c.width-width.ensures) in
    is_order n c.loop-column.ranked.items c.sort_unstable.new.self.items c.loop-column-2.order (c.loop-column.invariant ∙ ap (range_with_len 0) end)
    c.sort_unstable.ensures.permutation
    (c.loop-column-2.invariant
    ∙ ap columns_in (take_all c.loop-column-2.column-index c.deref-column-items.result.now c.loop-column-2-test.false ∙ c.deref-column-items.ensures.value))

use Rattle.std.proofs.Common.{◌≡◌, ◌∙◌, arith, length}
use Rattle.dx_instance.proofs.SortFacts.{put_more, all_done}
use Rattle.dx_instance.proofs.sorted.put_all.Goals as goal

pub loop-rows-preserved : goal.loop-rows-preserved
loop-rows-preserved c =
    let i = c.loop-rows.invariant in
    rw c.in_ok-push.ensures.items (put_more i.0 _ c.loop-rows.all.items _ _ c.in-Some.rows c.in_ok-from_rows.field-0 i.1 c.in-Some.ensures.steps.0 i.2 c.in_ok-from_rows.ensures)

pub returns : goal.returns
returns c =
    let i = c.loop-rows.invariant in
    let none : length c.loop-rows.rows-iterator.rest.items ≡ 0 = omega (arith, c.loop-rows.rows-iterator.rest.ok.0, c.in-None.ensures.steps.0) in
    let gives : c.into_iter-rows-iterator.result.rest.items ≡ c.args.tables.items = c.into_iter-rows-iterator.ensures.into_iter_gives.0 in
    let all = all_done i.0 _ _ i.1 none ∙ gives in
    rw all at i.2

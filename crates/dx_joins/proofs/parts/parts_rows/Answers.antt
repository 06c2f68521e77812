use Rattle.std.proofs.Common.{◌-◌, subst, arith, List, length, take, drop}
use Rattle.dx_joins.specs.declared.pattern.Pattern.{Pattern}
use Rattle.dx_joins.specs.Products.{ShareNone}
use Rattle.dx_joins.proofs.Carrying.{some_length}
use Rattle.dx_joins.proofs.Products.{last_gives, last_within, next_apart, next_part, part_apart, part_none, part_wide, rest_all, slice, slice_few, slice_in, start_apart}
use Rattle.dx_joins.proofs.parts.parts_rows.Goals as goal
use Rattle.dx_joins.proofs.parts.parts_rows.Goals.{then-are_apart+in_ok-whole-2, else-are_apart}

pub loop-end-init : goal.loop-end-init
loop-end-init c =
    let e = c.in_ok-whole.ensures in
    let n = some_length c.args.patterns.now c.requires.some in
    record {
      part = part_none c.args.marked.now.source.now.tables c.args.marked.now.marks.now c.args.most c.args.shown.now c.in_ok-whole.whole e.variables e.rows;
      apart = start_apart c.args.marked.now.source.now.tables c.args.marked.now.marks.now c.args.most c.args.patterns.now c.args.shown.now;
      before = omega arith;
      within = n;
    }

pub with_part-requires-clause-whole : goal.with_part-requires-clause-whole
with_part-requires-clause-whole c =
    let i = c.loop-end.invariant in
    let tables = c.args.marked.now.source.now.tables in
    let marks = c.args.marked.now.marks.now in
    let ps = c.args.patterns.now in
    let done = c.loop-end.done in
    record {
      wide = part_wide tables marks c.args.most (take done ps) c.args.shown.now c.loop-end.whole i.part;
      once = i.part.once;
      wanted = i.part.wanted;
      few = c.requires.shown.few;
      apart = part_apart tables marks c.args.most ps c.args.shown.now done (c.loop-end.end - done) c.loop-end.whole i.part i.apart;
    }

pub with_part-requires-clause-joinable : goal.with_part-requires-clause-joinable
with_part-requires-clause-joinable c =
    let ps = c.args.patterns.now in
    let done = c.loop-end.done in
    let less = slice_few ps done (c.loop-end.end - done) in
    record { fit = λ p m. c.requires.joinable.fit p (slice_in ps done (c.loop-end.end - done) p m); few = omega (arith, less, c.requires.joinable.few) }

pub loop-end-preserved : goal.loop-end-preserved
loop-end-preserved c =
    let i = c.loop-end.invariant in
    let ps = c.args.patterns.now in
    let done = c.loop-end.done in
    let end = c.loop-end.end in
    elim c.if-are_apart.branch [
      | then-are_apart+in_ok-whole-2 w ↦
          let a : ShareNone (slice ps done (end - done)) (take (length ps - end) (drop end ps)) = c.are_apart.ensures.0 w.if-are_apart.true in
          let apart = subst (λ (l : List Pattern). ShareNone (slice ps done (end - done)) l) (rest_all ps end) a in
          rw (w.whole-is, w.done-is) (record {
            part = next_part c.args.marked.now.source.now.tables c.args.marked.now.marks.now c.args.most ps c.args.shown.now done end c.loop-end.whole w.in_ok-whole-2.whole (omega (arith, i.before)) i.apart w.in_ok-whole-2.ensures i.part;
            apart = next_apart c.args.marked.now.source.now.tables c.args.marked.now.marks.now c.args.most ps c.args.shown.now done end (omega (arith, i.before)) i.apart apart;
            before = omega arith;
            within = omega (arith, c.loop-end-test.true);
          })
      | else-are_apart w ↦ rw (w.whole-is, w.done-is) (record { part = i.part; apart = i.apart; before = omega (arith, i.before); within = i.within })
    ]

pub part_of-requires-clause-joinable : goal.part_of-requires-clause-joinable
part_of-requires-clause-joinable c =
    let ps = c.args.patterns.now in
    let done = c.loop-end.done in
    let less = slice_few ps done (length ps - done) in
    record { fit = λ p m. c.requires.joinable.fit p (slice_in ps done (length ps - done) p m); few = omega (arith, less, c.requires.joinable.few) }

pub product-requires-clause-kept : goal.product-requires-clause-kept
product-requires-clause-kept c =
    let i = c.loop-end.invariant in
    record {
      known = last_within c.args.marked.now.source.now.tables c.args.marked.now.marks.now c.args.most c.args.patterns.now c.args.shown.now c.loop-end.done c.loop-end.whole c.in_ok-last.last (omega (arith, i.within)) i.part c.in_ok-last.ensures c.requires.shown.known;
      few = c.requires.shown.few;
    }

pub returns-clause-rows : goal.returns-clause-rows
returns-clause-rows c =
    let i = c.loop-end.invariant in
    last_gives c.args.marked.now.source.now.tables c.args.marked.now.marks.now c.args.most c.args.patterns.now c.args.shown.now c.loop-end.done c.loop-end.whole c.in_ok-last.last c.product.result (omega (arith, i.within)) i.part c.in_ok-last.ensures i.apart c.product.ensures.rows

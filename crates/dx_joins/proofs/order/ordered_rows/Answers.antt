use Rattle.dx_joins.specs.Planning.{FitPattern}
use Rattle.dx_joins.proofs.Reordering.{each_in, few_in, reordered_result, shown_in, some_in}
use Rattle.dx_joins.proofs.order.ordered_rows.Goals as goal

pub parts_rows-requires-clause-some : goal.parts_rows-requires-clause-some
parts_rows-requires-clause-some c =
    rw c.deref.ensures.value (some_in c.args.patterns.items c.in_ok-ordered.ordered.items c.in_ok-ordered.ensures c.requires.some)

pub parts_rows-requires-clause-joinable : goal.parts_rows-requires-clause-joinable
parts_rows-requires-clause-joinable c = rw c.deref.ensures.value (record {
  fit = each_in (FitPattern c.args.marked.now.source.now.tables) c.args.patterns.items c.in_ok-ordered.ordered.items c.in_ok-ordered.ensures c.requires.joinable.fit;
  few = few_in c.args.patterns.items c.in_ok-ordered.ordered.items c.in_ok-ordered.ensures c.requires.joinable.few;
})

pub parts_rows-requires-clause-shown : goal.parts_rows-requires-clause-shown
parts_rows-requires-clause-shown c = rw c.deref.ensures.value (record {
  known = shown_in c.args.patterns.items c.in_ok-ordered.ordered.items c.args.shown.now c.in_ok-ordered.ensures c.requires.shown.known;
  few = c.requires.shown.few;
})

pub returns-clause-rows : goal.returns-clause-rows
returns-clause-rows c =
    reordered_result c.args.marked.now.source.now.tables c.args.marked.now.marks.now c.args.patterns.items c.in_ok-ordered.ordered.items c.args.shown.now c.args.most
    c.parts_rows.result c.in_ok-ordered.ensures (rw c.deref.ensures.value at c.parts_rows.ensures.rows)

pub returns-clause-within : goal.returns-clause-within
returns-clause-within c = c.parts_rows.ensures.within

use Rattle.std.proofs.Common.{arith}
use Rattle.dx_fails.proofs.Breaking.{all_determine, are_apart, determine_more, first_there}
use Rattle.dx_fails.proofs.broken.apart_in.Goals as goal

pub firsts-requires-clause-columns : goal.firsts-requires-clause-columns
firsts-requires-clause-columns c = c.requires.columns.left

pub differing-requires-clause-columns : goal.differing-requires-clause-columns
differing-requires-clause-columns c = c.requires.columns.right

pub returns-in-Some : goal.returns-in-Some
returns-in-Some c =
    let h = rw c.count-place-end.ensures at c.loop-place-test.true in
    let first = first_there c.args.instance.now c.args.table c.args.columns.now.left.now c.in_ok-firsts.firsts.items c.loop-place.place c.index-first.result.now c.in_ok-firsts.ensures h c.index-first.ensures in
    are_apart c.args.instance.now c.args.table c.args.columns.now.left.now c.args.columns.now.right.now c.index-first.result.now c.loop-place.place c.in-Some.column h first c.in-Some.ensures c.loop-place.invariant

pub loop-place-preserved : goal.loop-place-preserved
loop-place-preserved c =
    let h = rw c.count-place-end.ensures at c.loop-place-test.true in
    let first = first_there c.args.instance.now c.args.table c.args.columns.now.left.now c.in_ok-firsts.firsts.items c.loop-place.place c.index-first.result.now c.in_ok-firsts.ensures h c.index-first.ensures in
    determine_more c.args.instance.now c.args.table c.args.columns.now.left.now c.args.columns.now.right.now c.loop-place.place c.index-first.result.now
    first c.in_default.ensures c.loop-place.invariant

pub returns : goal.returns
returns c =
    all_determine c.args.instance.now c.args.table c.args.columns.now.left.now c.args.columns.now.right.now c.loop-place.place
    (omega (arith, c.count-place-end.ensures, c.loop-place-test.false)) c.loop-place.invariant

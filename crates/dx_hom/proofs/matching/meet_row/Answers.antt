use Rattle.std.proofs.Common.{◌<◌, ◌∙◌, sym, length, arith, []}
use Rattle.std.proofs.lemmas.List.{get_or_default}
use Rattle.dx_model.specs.declared.values.Value.TheVariants.{Const}
use Rattle.dx_instance.specs.Places.{row_at, value_at}
use Rattle.dx_hom.proofs.Narrowing.{row_more, row_failed, room_at, row_whole}
use Rattle.dx_hom.proofs.matching.meet_row.Goals as goal

pub meet_value-requires-clause-cell : goal.meet_value-requires-clause-cell
meet_value-requires-clause-cell c =
    let row = c.requires.row in
    record { table = row.table; place = row.place; column = omega (arith, c.width-column-end.ensures, c.loop-column-test.true) }

pub meet_value-requires-clause-room : goal.meet_value-requires-clause-room
meet_value-requires-clause-room c =
    let T = c.args.goal.now.into.now in
    let row = c.args.row.now in
    let at = row_at T c.args.spot.table c.args.spot.place in
    let i = c.loop-column.column in
    let x = c.index-row-column.result in
    let y = value_at T c.args.spot.table c.args.spot.place i in
    let h : i < length row = omega (arith, c.width-column-end.ensures, c.requires.row.width) in
    let k : i < length at = omega (arith, c.width-column-end.ensures, c.requires.row.wide) in
    let there = get_or_default at i (Const []) y k in
    let long = c.requires.row.width ∙ sym c.requires.row.wide in
    let done = c.loop-column.invariant.narrows in
    rw c.loop-column.invariant.room (room_at T c.args.goal.now.fixed.now row at c.args.found.now.cells c.loop-column.found.cells i x y
    long h c.index-row-column.is there done c.args.found.now.room c.requires.room)

pub returns-then-not-meet_value-clause-cases : goal.returns-then-not-meet_value-clause-cases
returns-then-not-meet_value-clause-cases c =
    let T = c.args.goal.now.into.now in
    let row = c.args.row.now in
    let at = row_at T c.args.spot.table c.args.spot.place in
    let i = c.loop-column.column in
    let x = c.index-row-column.result in
    let y = value_at T c.args.spot.table c.args.spot.place i in
    let h : i < length row = omega (arith, c.width-column-end.ensures, c.requires.row.width) in
    let k : i < length at = omega (arith, c.width-column-end.ensures, c.requires.row.wide) in
    let there = get_or_default at i (Const []) y k in
    let long = c.requires.row.width ∙ sym c.requires.row.wide in
    let done = c.loop-column.invariant.narrows in
    row_failed T c.args.goal.now.fixed.now row at c.args.found.now.cells c.loop-column.found.cells i x y
    long h c.index-row-column.is there done c.meet_value.new.found.cells c.if-not-meet_value.ensures.cases

pub loop-column-preserved : goal.loop-column-preserved
loop-column-preserved c =
    let T = c.args.goal.now.into.now in
    let row = c.args.row.now in
    let at = row_at T c.args.spot.table c.args.spot.place in
    let i = c.loop-column.column in
    let x = c.index-row-column.result in
    let y = value_at T c.args.spot.table c.args.spot.place i in
    let h : i < length row = omega (arith, c.width-column-end.ensures, c.requires.row.width) in
    let k : i < length at = omega (arith, c.width-column-end.ensures, c.requires.row.wide) in
    let there = get_or_default at i (Const []) y k in
    let long = c.requires.row.width ∙ sym c.requires.row.wide in
    let done = c.loop-column.invariant.narrows in
    record {
      room = c.meet_value.ensures.room ∙ c.loop-column.invariant.room;
      narrows = row_more T c.args.goal.now.fixed.now row at c.args.found.now.cells c.loop-column.found.cells i x y
          long h c.index-row-column.is there done c.meet_value.new.found.cells c.if-not-meet_value.ensures.cases;
    }

pub returns-clause-cases : goal.returns-clause-cases
returns-clause-cases c =
    let T = c.args.goal.now.into.now in
    let row = c.args.row.now in
    let i = c.loop-column.column in
    row_whole T c.args.goal.now.fixed.now row (row_at T c.args.spot.table c.args.spot.place) c.args.found.now.cells c.loop-column.found.cells i
    (c.requires.row.width ∙ sym c.requires.row.wide) (omega (arith, c.width-column-end.ensures, c.requires.row.width, c.loop-column-test.false))
    c.loop-column.invariant.narrows

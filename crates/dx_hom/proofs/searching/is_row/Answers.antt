use Rattle.std.proofs.Common.{◌≡◌, ◌<◌, ◌≤◌, ◌∙◌, [], ap, arith, length, refl}
use Rattle.std.proofs.lemmas.Bool.{false≢true}
use Rattle.std.proofs.lemmas.List.{get_or_default}
use Rattle.dx_model.specs.declared.values.Value.TheVariants.{Const}
use Rattle.dx_instance.specs.Places.{row_at}
use Rattle.dx_hom.proofs.Placing.{row_wide, rows_more, rows_same}
use Rattle.dx_hom.proofs.searching.is_row.Goals as goal

pub returns-then-row-width : goal.returns-then-row-width
returns-then-row-width c =
    let wide = row_wide c.args.into.now c.args.table c.args.place c.requires.table c.requires.place c.tables.ensures.rows in (
      (λ t. absurd (false≢true t)),
      (λ e. absurd (let l = ap length e in omega (arith, l, wide, c.width.ensures, c.if-row-width.true))),
    )

pub loop-column-preserved : goal.loop-column-preserved
loop-column-preserved c =
    let row = c.args.row.now in
    let at = row_at c.args.into.now c.args.table c.args.place in
    let i = c.loop-column.column in
    let wide = row_wide c.args.into.now c.args.table c.args.place c.requires.table c.requires.place c.tables.ensures.rows in
    let h : i < length row =
    omega (arith, c.if-row-width.false, c.width.ensures, c.width-column-end.ensures, c.loop-column-test.true) in
    let l : length at ≡ length row = omega (arith, wide, c.if-row-width.false, c.width.ensures) in
    let there = c.cell.ensures ∙ get_or_default at i (Const []) c.cell.result.now (omega (arith, h, l)) in
    rows_more row at i c.index-row-column.result c.cell.result.now h l c.index-row-column.is there (c.is.ensures.0 c.if-not-is.false)
    c.loop-column.invariant

pub returns : goal.returns
returns c =
    let row = c.args.row.now in
    let at = row_at c.args.into.now c.args.table c.args.place in
    let wide = row_wide c.args.into.now c.args.table c.args.place c.requires.table c.requires.place c.tables.ensures.rows in
    let done : length row ≤ c.loop-column.column =
    omega (arith, c.if-row-width.false, c.width.ensures, c.width-column-end.ensures, c.loop-column-test.false) in
    let l : length at ≡ length row = omega (arith, wide, c.if-row-width.false, c.width.ensures) in
    ((λ t. rows_same row at c.loop-column.column done l c.loop-column.invariant), (λ q. refl))

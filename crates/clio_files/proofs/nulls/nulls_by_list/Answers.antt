use Rattle.std.proofs.Common.{◌≤◌, ◌<◌, ◌∙◌, ap, arith, flat_map, length}
use Rattle.std.proofs.lemmas.List.{take_all, length-map}
use Rattle.dx_instance.specs.Shown.{shown, shown_tables}
use Rattle.clio_files.proofs.SheetNulls.{nulls_are, table_nulls, tables_more}
use Rattle.clio_files.proofs.nulls.nulls_by_list.Goals as goal

pub loop-table-preserved : goal.loop-table-preserved
loop-table-preserved c =
    let target = c.args.target.now in
    let tables = shown_tables target.symbols target.tables in
    let within : c.loop-table.table < length tables =
    omega (arith, c.tables-table-end.ensures, c.loop-table-test.true, length-map target.tables (shown target.symbols)) in
    tables_more tables c.loop-table.table c.loop-table.nulls.items c.push_table.new.nulls.items within c.loop-table.invariant
    c.in_ok-push_table.ensures

pub returns : goal.returns
returns c =
    let target = c.args.target.now in
    let tables = shown_tables target.symbols target.tables in
    let past : length tables ≤ c.loop-table.table =
    omega (arith, c.tables-table-end.ensures, c.loop-table-test.false, length-map target.tables (shown target.symbols)) in
    nulls_are c.ascending.result tables c.loop-table.nulls.items
    (c.loop-table.invariant ∙ ap (flat_map table_nulls) (take_all c.loop-table.table tables past)) c.ascending.ensures.ascend
    c.ascending.ensures.members

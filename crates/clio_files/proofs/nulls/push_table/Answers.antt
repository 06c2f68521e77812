use Rattle.std.proofs.Common.{◌<◌, take, flat_map, length, arith}
use Rattle.dx_model.specs.Instances.{nulls_in}
use Rattle.dx_instance.specs.Shown.{numbers_of_table, shown_row, shown_tables}
use Rattle.dx_instance.specs.Stored.{rows_of}
use Rattle.clio_files.proofs.SheetNulls.{place_more, pushed}
use Rattle.clio_files.proofs.nulls.push_table.Goals as goal

pub loop-place-preserved : goal.loop-place-preserved
loop-place-preserved c =
    let symbols = c.args.target.now.symbols in
    let tables = c.args.target.now.tables in
    let within : c.loop-place.place < length (numbers_of_table tables c.args.table).rows =
    omega (arith, c.count-place-end.ensures, c.loop-place-test.true) in
    pushed c.args.nulls.now.items c.loop-place.nulls.items c.push_row.new.nulls.items
    (flat_map nulls_in (take c.loop-place.place (rows_of (shown_tables symbols tables) c.args.table))) _
    (nulls_in (shown_row symbols c.row.result.now))
    c.in_ok-push_row.ensures c.loop-place.invariant
    (place_more symbols tables c.args.table c.loop-place.place c.row.result.now c.requires within c.row.ensures.row)

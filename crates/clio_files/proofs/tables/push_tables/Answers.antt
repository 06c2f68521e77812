use Rattle.std.proofs.Common.{◌<◌, ◌≤◌, length, arith, map}
use Rattle.dx_base.proofs.Members.{in_at}
use Rattle.dx_schema.specs.Tables.{tables_of}
use Rattle.clio_files.specs.Files.{printed_view}
use Rattle.clio_files.proofs.TextFiles.{adds_all, adds_more, adds_none}
use Rattle.clio_files.proofs.tables.push_tables.Goals as goal

pub table_file-requires-clause-no_mark : goal.table_file-requires-clause-no_mark
table_file-requires-clause-no_mark c =
    let h : c.loop-table.table < length (tables_of c.args.schema.now) = omega arith in
    c.requires.no_marks _ (in_at (tables_of c.args.schema.now) c.loop-table.table _ h)

pub loop-table-init : goal.loop-table-init
loop-table-init c = adds_none c.args.front.now c.args.instance.now (map printed_view c.args.files.now.items)

pub loop-table-preserved : goal.loop-table-preserved
loop-table-preserved c =
    let h : c.loop-table.table < length (tables_of c.args.schema.now) = omega arith in
    adds_more c.args.front.now (tables_of c.args.schema.now) c.loop-table.table _ c.args.instance.now (map printed_view c.args.files.now.items)
    c.loop-table.files.items c.push.new.self.items c.in_ok-table_file.field-0 h c.loop-table.invariant
    c.in_ok-table_file.ensures c.in_ok-push.ensures.items

pub returns : goal.returns
returns c =
    let h : length (tables_of c.args.schema.now) ≤ c.loop-table.table = omega arith in
    adds_all c.args.front.now (tables_of c.args.schema.now) c.loop-table.table c.args.instance.now (map printed_view c.args.files.now.items)
    (map printed_view c.loop-table.files.items) h c.loop-table.invariant

use Rattle.std.proofs.Common.{arith}
use Rattle.clio_source.proofs.Fits.{empty_more}
use Rattle.clio_source.proofs.documents.push_tables.Goals as goal

pub loop-table-preserved : goal.loop-table-preserved
loop-table-preserved c =
    empty_more c.args.schema.now c.loop-table.table c.width.result c.args.tables.now.items c.loop-table.tables.items c.push.new.self.items c.new.result
    c.loop-table.invariant (omega (arith, c.loop-table-test.true, c.requires.last)) c.width.ensures.number c.width.ensures.some c.new.ensures c.in_ok-push.ensures.items

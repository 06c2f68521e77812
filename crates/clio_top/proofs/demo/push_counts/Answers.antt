use Rattle.std.proofs.Common.{◌++◌, ap, ◌∙◌, arith}
use Rattle.std.specs.Prelude.{string_bytes}
use Rattle.clio_top.proofs.Demos.{counted}
use Rattle.clio_top.proofs.demo.push_counts.Goals as goal

pub loop-table-preserved : goal.loop-table-preserved
loop-table-preserved c =
    let inside = c.loop-table-test.true in
    let many = c.tables-table-end.ensures.count in
    counted c.loop-table.table c.args.schema.now c.args.target.now (string_bytes c.args.text.now) (string_bytes c.loop-table.text)
    (string_bytes c.push_str.new.self) c.name.result.now (string_bytes c.in_ok-line.field-0) c.count.result (omega (arith, inside, many))
    c.name.ensures c.count.ensures c.in_ok-line.ensures c.loop-table.invariant
    (c.in_ok-push_str.ensures.bytes ∙ ap (λ l. string_bytes c.loop-table.text ++ l) c.deref.ensures)

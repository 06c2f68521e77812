use Rattle.std.proofs.Common.{◌<◌, arith, ◌∙◌, inl, inr, ap, length}
use Rattle.std.proofs.lemmas.Bool.{cases_lt}
use Rattle.dx_schema.specs.Tables.{schema_table}
use Rattle.clio_source.proofs.Fits.{cells_more, cells_past, fact_in, table_in}
use Rattle.clio_source.proofs.documents.cells_after.Goals as goal

pub prove-unreachable-requires : goal.prove-unreachable-requires
prove-unreachable-requires c =
    let within : c.loop-place.place < length c.args.facts.now = omega (arith, c.loop-place-test.true, c.len-place-end.ensures) in
    let f = fact_in c.args.facts.now c.loop-place.place within in
    let h = table_in c.args.schema.now c.args.facts.now c.loop-place.place f.0 c.requires within f.2 in
    omega (arith, h, c.table-table.ensures f.0 f.1, c.tables.ensures.count, c.if-prove.true)

pub returns-in_err-rest : goal.returns-in_err-rest
returns-in_err-rest c =
    let within : c.loop-place.place < length c.args.facts.now = omega (arith, c.loop-place-test.true, c.len-place-end.ensures) in
    let f = fact_in c.args.facts.now c.loop-place.place within in
    rw c.from_residual.ensures (elim (cases_lt c.loop-place.rest c.from.result) [
      | inl lt ↦ cells_past c.args.schema.now c.args.left c.loop-place.rest c.from.result c.args.facts.now c.loop-place.place f.0
          c.loop-place.invariant within f.2 (c.from.ensures ∙ c.width.ensures.number ∙ ap (λ t. length (schema_table c.args.schema.now t).columns) (c.table-table.ensures f.0 f.1)) lt
      | inr ge ↦ absurd (c.in_err-rest.ensures ge)
    ])

pub loop-place-preserved : goal.loop-place-preserved
loop-place-preserved c =
    let within : c.loop-place.place < length c.args.facts.now = omega (arith, c.loop-place-test.true, c.len-place-end.ensures) in
    let f = fact_in c.args.facts.now c.loop-place.place within in
    cells_more c.args.schema.now c.args.left c.loop-place.rest c.in_ok-rest.rest c.from.result c.args.facts.now c.loop-place.place f.0
    c.loop-place.invariant within f.2 (c.from.ensures ∙ c.width.ensures.number ∙ ap (λ t. length (schema_table c.args.schema.now t).columns) (c.table-table.ensures f.0 f.1)) (omega (arith, c.in_ok-rest.ensures.0, c.in_ok-rest.ensures.1))

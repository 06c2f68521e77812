use Rattle.std.proofs.Common.{◌≡◌, ◌+◌, ℕ, Ok, Err, arith, length, subst}
use Rattle.std.proofs.lemmas.Result.{err_from_is_err_and}
use Rattle.dx_schema.specs.Tables.{tables_of}
use Rattle.clio_given.specs.Reading.{GivenReadFits, read_of}
use Rattle.clio_given.proofs.Runs.{all_came, ended, none_came, one_came}
use Rattle.clio_given.proofs.files.read_files.Goals as goal

pub loop-table-init : goal.loop-table-init
loop-table-init g c = record {
  fit = c.at_start-so_far.ensures.fit c.args.schema.now;
  read = none_came c.args.schema.now c.args.bytes_left c.at_start-so_far.result _ c.at_start-so_far.ensures.read;
}

pub returns-in_err-so_far-clause-read : goal.returns-in_err-so_far-clause-read
returns-in_err-so_far-clause-read g c =
    let f = c.args.schema.now in
    let h = rw c.tables-table-end.ensures.count at c.loop-table-test.true in
    let p = err_from_is_err_and c.from_residual.result c.from_residual.ensures.1 in
    rw (p.1, p.2) (ended f c.args.bytes_left (c.loop-table.table + 1) c.in_err-so_far.field-0.0 _ _ (omega (arith, h))
    (one_came f c.args.bytes_left c.loop-table.table c.loop-table.so_far (Err c.in_err-so_far.field-0.0) _ _ _ c.tables.ensures.facts h c.loop-table.invariant.read c.in_err-so_far.ensures.read))

pub loop-table-preserved : goal.loop-table-preserved
loop-table-preserved g c = record {
  fit = c.in_ok-so_far.ensures.fit;
  read = one_came c.args.schema.now c.args.bytes_left c.loop-table.table c.loop-table.so_far (Ok (read_of c.in_ok-so_far.so_far)) _ _ _ c.tables.ensures.facts
      (rw c.tables-table-end.ensures.count at c.loop-table-test.true) c.loop-table.invariant.read c.in_ok-so_far.ensures.read;
}

pub returns-clause-fit : goal.returns-clause-fit
returns-clause-fit g c =
    let low = c.loop-table-test.false in
    let high = c.loop-table.auto.table-end in
    let end : c.loop-table.table ≡ length (tables_of c.args.schema.now) = omega (arith, low, high, c.tables-table-end.ensures.count) in
    subst (λ (n : ℕ). GivenReadFits c.args.schema.now n c.loop-table.so_far) end c.loop-table.invariant.fit

pub returns-clause-read : goal.returns-clause-read
returns-clause-read g c =
    let low = c.loop-table-test.false in
    let high = c.loop-table.auto.table-end in
    let end : c.loop-table.table ≡ length (tables_of c.args.schema.now) = omega (arith, low, high, c.tables-table-end.ensures.count) in
    all_came c.args.schema.now c.args.bytes_left c.loop-table.table (Ok (read_of c.loop-table.so_far)) _ _ end c.loop-table.invariant.read

use Rattle.std.proofs.Common.{◌∙◌, arith, ap, below_more}
use Rattle.std.specs.List.{range_with_len}
use Rattle.dx_schema.specs.Tables.{model_tables}
use Rattle.dx_holds.proofs.Tables.{as_wide}
use Rattle.dx_fails.proofs.Breaking.{all_hold, broken_here, holds_here}
use Rattle.dx_fails.proofs.Placing.{as_listed, few_found, left_few, within}
use Rattle.dx_fails.proofs.broken.broken_in.Goals as goal

pub determinations-requires-clause-all : goal.determinations-requires-clause-all
determinations-requires-clause-all c =
    c.deref.ensures.value ∙ (c.in_ok-all.ensures ∙ ap (range_with_len 0) (c.width.ensures ∙ as_wide c.args.schema.now c.args.instance.now c.args.table c.requires.widths c.requires.table))

pub apart_in-requires-clause-columns : goal.apart_in-requires-clause-columns
apart_in-requires-clause-columns c =
    let fits = within c.args.schema.now c.args.instance.now c.requires.widths c.args.table c.requires.table c.in_ok-found.found.items c.in_ok-found.ensures c.loop-key.key c.index.result.now
    (omega (arith, c.len-key-end.ensures, c.loop-key-test.true)) c.index.ensures c.tables.ensures.fits in
    let few = left_few c.args.schema.now c.args.instance.now c.requires.widths c.args.table c.requires.table c.in_ok-found.found.items c.in_ok-found.ensures c.loop-key.key c.index.result.now
    (omega (arith, c.len-key-end.ensures, c.loop-key-test.true)) c.index.ensures c.tables.ensures.facts in
    record { left = fits.0; few = omega (arith, few); right = fits.1 }

pub overflow_cast-result : goal.overflow_cast-result
overflow_cast-result c =
    let few =
    few_found c.args.schema.now c.args.instance.now c.requires.widths c.args.table c.requires.table c.in_ok-found.found.items c.in_ok-found.ensures c.loop-key.key
    (omega (arith, c.len-key-end.ensures, c.loop-key-test.true)) c.tables.ensures.numbers in
    omega (arith, few)

pub returns-in-Some : goal.returns-in-Some
returns-in-Some c =
    let listed = as_listed c.args.schema.now c.args.instance.now c.requires.widths c.args.table c.requires.table c.in_ok-found.found.items c.in_ok-found.ensures in
    broken_here (model_tables c.args.schema.now) c.args.instance.now c.args.table c.in_ok-found.found.items listed c.loop-key.key c.index.result.now c.in-Some.apart
    (omega (arith, c.len-key-end.ensures, c.loop-key-test.true)) c.index.ensures (rw c.in-Some.is at c.in_ok-apart.ensures) c.loop-key.invariant

pub loop-key-preserved : goal.loop-key-preserved
loop-key-preserved c =
    let listed = as_listed c.args.schema.now c.args.instance.now c.requires.widths c.args.table c.requires.table c.in_ok-found.found.items c.in_ok-found.ensures in
    below_more _ _ c.loop-key.invariant
    (holds_here (model_tables c.args.schema.now) c.args.instance.now c.args.table c.in_ok-found.found.items listed c.loop-key.key c.index.result.now
    (omega (arith, c.len-key-end.ensures, c.loop-key-test.true)) c.index.ensures (rw c.in_default.is at c.in_ok-apart.ensures))

pub returns : goal.returns
returns c =
    let listed = as_listed c.args.schema.now c.args.instance.now c.requires.widths c.args.table c.requires.table c.in_ok-found.found.items c.in_ok-found.ensures in
    all_hold (model_tables c.args.schema.now) c.args.instance.now c.args.table c.in_ok-found.found.items listed c.loop-key.key
    (omega (arith, c.len-key-end.ensures, c.loop-key-test.false)) c.loop-key.invariant

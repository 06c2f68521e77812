use Rattle.std.proofs.Common.{◌∙◌, ap, List, ℕ}
use Rattle.dx_eval.specs.Variables.{variable_of}
use Rattle.dx_eval.proofs.Joined.{variable_low, variables_step}
use Rattle.dx_base.proofs.Loops.{each_item}
use Rattle.dx_script.specs.declared.form.Equal.{Equal}
use Rattle.dx_script.specs.Fits.{CellFits}
use Rattle.dx_schema.specs.Names.{table_names_of}
use Rattle.dx_eval.proofs.variables.Variables.of_step.Goals as goal

pub variable_of_cell-left-requires-clause-fits : goal.variable_of_cell-left-requires-clause-fits
variable_of_cell-left-requires-clause-fits c =
    let N = table_names_of c.args.source.now in
    let f = each_item (λ (e : Equal). CellFits N c.args.sources.now e.left × CellFits N c.args.sources.now e.right) c.args.equal.now c.loop-one.one-index c.one-item.result c.loop-one-test.true c.one-item.is c.requires.fit in
    f.0

pub variable_of_cell-right-requires-clause-fits : goal.variable_of_cell-right-requires-clause-fits
variable_of_cell-right-requires-clause-fits c =
    let N = table_names_of c.args.source.now in
    let f = each_item (λ (e : Equal). CellFits N c.args.sources.now e.left × CellFits N c.args.sources.now e.right) c.args.equal.now c.loop-one.one-index c.one-item.result c.loop-one-test.true c.one-item.is c.requires.fit in
    f.1

pub join-requires-clause-first : goal.join-requires-clause-first
join-requires-clause-first c =
    let N = table_names_of c.args.source.now in
    let f = each_item (λ (e : Equal). CellFits N c.args.sources.now e.left × CellFits N c.args.sources.now e.right) c.args.equal.now c.loop-one.one-index c.one-item.result c.loop-one-test.true c.one-item.is c.requires.fit in
    variable_low N c.args.sources.now _ c.loop-one.variables.rows.items c.loop-one.variables.count c.variable_of_cell-left.result c.one-item.result.left c.loop-one.invariant f.0
    (c.variable_of_cell-left.ensures ∙ ap (λ (rows : List (List ℕ)). variable_of N c.args.sources.now rows c.one-item.result.left) c.deref.ensures.value)

pub join-requires-clause-second : goal.join-requires-clause-second
join-requires-clause-second c =
    let N = table_names_of c.args.source.now in
    let f = each_item (λ (e : Equal). CellFits N c.args.sources.now e.left × CellFits N c.args.sources.now e.right) c.args.equal.now c.loop-one.one-index c.one-item.result c.loop-one-test.true c.one-item.is c.requires.fit in
    variable_low N c.args.sources.now _ c.loop-one.variables.rows.items c.loop-one.variables.count c.variable_of_cell-right.result c.one-item.result.right c.loop-one.invariant f.1
    (c.variable_of_cell-right.ensures ∙ ap (λ (rows : List (List ℕ)). variable_of N c.args.sources.now rows c.one-item.result.right) c.deref-in-loop-one.ensures.value)

pub loop-one-preserved : goal.loop-one-preserved
loop-one-preserved c =
    let N = table_names_of c.args.source.now in
    variables_step N c.args.sources.now c.args.equal.now c.loop-one.one-index c.one-item.result c.loop-one.variables.rows.items c.in_ok-variables-2.variables.rows.items c.loop-one.variables.count c.in_ok-variables-2.variables.count
    c.variable_of_cell-left.result c.variable_of_cell-right.result c.requires.fit c.loop-one-test.true c.one-item.is
    (c.variable_of_cell-left.ensures ∙ ap (λ (rows : List (List ℕ)). variable_of N c.args.sources.now rows c.one-item.result.left) c.deref.ensures.value)
    (c.variable_of_cell-right.ensures ∙ ap (λ (rows : List (List ℕ)). variable_of N c.args.sources.now rows c.one-item.result.right) c.deref-in-loop-one.ensures.value)
    c.loop-one.invariant c.in_ok-variables-2.ensures

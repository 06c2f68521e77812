use Rattle.std.proofs.Common.{length, arith, sym}
use Rattle.std.proofs.lemmas.Bool.{eqb-false, eqb-true}
use Rattle.dx_funcs.specs.Names.{call_named}
use Rattle.dx_funcs.specs.Serving.{offered}
use Rattle.dx_instance.specs.Shown.{shown_tables}
use Rattle.dx_instance.specs.Stored.{facts, widths}
use Rattle.dx_schema.specs.Names.{table_names_of}
use Rattle.dx_eval.specs.Query.{IsSelected}
use Rattle.dx_eval.proofs.QueryFits.{empty_selected, empty_stands, query_fits, query_listed, query_rows, source_widths}
use Rattle.dx_eval.proofs.matching.step_rows.Goals as goal

pub returns-then-is_empty-clause-rows : goal.returns-then-is_empty-clause-rows
returns-then-is_empty-clause-rows g c =
    let N = table_names_of c.args.source.now.schema.now in
    let L = offered c.args.source.now.host.now in
    let I = facts (shown_tables c.args.source.now.rows.now.symbols c.args.source.now.rows.now.tables) in
    let none = eqb-true (length c.args.selection.now.sources.now) 0 (sym c.if-is_empty.ensures) in
    let p = empty_selected N L (call_named g.M.Meaning.apply L) I c.args.selection.now.select.now c.args.selection.now.sources.now c.args.selection.now.equal.now none (λ x m. (c.args.source.now.host.now.offer.arities x m).0) c.requires.fits.selected c.requires.fits.equal_cells in
    empty_stands c.one_row.result c.args.most (length c.args.selection.now.select.now) (IsSelected N (call_named g.M.Meaning.apply L) I c.args.selection.now.select.now c.args.selection.now.sources.now c.args.selection.now.equal.now) c.args.symbols.now p.0 p.1 c.one_row.ensures

pub of_step-requires : goal.of_step-requires
of_step-requires g c = record { named = c.requires.fits.sources_named; selected = c.requires.fits.selected; equal = c.requires.fits.equal_cells }

pub shown_rows-requires-clause-listed : goal.shown_rows-requires-clause-listed
shown_rows-requires-clause-listed g c =
    rw c.deref-2.ensures.value (query_listed c.args.source.now.schema.now (offered c.args.source.now.host.now) c.args.selection.now.select.now c.args.selection.now.sources.now c.args.selection.now.equal.now c.in_ok-premise.field-0.premise.items c.in_ok-premise.field-0.derived.items c.in_ok-premise.field-0.shown.items
    c.in_ok-premise.ensures c.requires.fits.selected)

pub shown_rows-requires-clause-fits : goal.shown_rows-requires-clause-fits
shown_rows-requires-clause-fits g c =
    let some = eqb-false (length c.args.selection.now.sources.now) 0 (sym c.if-is_empty.ensures) in
    rw (c.deref.ensures.value, c.deref-2.ensures.value, c.deref-3.ensures.value) (query_fits c.args.source.now.schema.now (offered c.args.source.now.host.now) c.args.selection.now.select.now c.args.selection.now.sources.now c.args.selection.now.equal.now
    c.in_ok-premise.field-0.premise.items c.in_ok-premise.field-0.derived.items c.in_ok-premise.field-0.shown.items c.in_ok-premise.ensures c.requires.fits.selected
    (widths (shown_tables c.args.source.now.rows.now.symbols c.args.source.now.rows.now.tables)) c.args.source.now.wide c.requires.fits.sources_named (omega (arith, some)) (omega (arith, c.if-selection.false)))

pub returns-clause-rows : goal.returns-clause-rows
returns-clause-rows g c =
    let I = facts (shown_tables c.args.source.now.rows.now.symbols c.args.source.now.rows.now.tables) in
    query_rows c.args.source.now.schema.now (offered c.args.source.now.host.now) c.args.selection.now.select.now c.args.selection.now.sources.now c.args.selection.now.equal.now
    c.in_ok-premise.field-0.premise.items c.in_ok-premise.field-0.derived.items c.in_ok-premise.field-0.shown.items c.in_ok-premise.ensures c.requires.fits.selected
    c.shown_rows.result c.args.most c.shown_rows.new.symbols g.M.Meaning.apply I c.deref.result.now c.deref-2.result.now c.deref-3.result.now c.requires.fits.equal_cells
    (source_widths c.args.source.now.schema.now c.args.source.now.rows.now.symbols c.args.source.now.rows.now.tables c.len.ensures.fit c.args.source.now.wide) c.deref.ensures.value c.deref-2.ensures.value c.deref-3.ensures.value c.shown_rows.ensures.rows

use Rattle.std.proofs.Common.{◌↔◌, ◌∙◌, List, ap, subst, sym}
use Rattle.std.proofs.lemmas.Result.{err_from_is_err_and}
use Rattle.dx_base.specs.Members.{◌∈◌}
use Rattle.dx_model.specs.declared.facts.Fact.{Fact}
use Rattle.dx_model.specs.declared.values.Value.{Value}
use Rattle.dx_model.specs.Values.{Rows}
use Rattle.dx_funcs.specs.Names.{call_named}
use Rattle.dx_funcs.specs.Serving.{offered}
use Rattle.dx_instance.specs.Shown.{shown_tables}
use Rattle.dx_instance.specs.Stored.{TableRows, facts}
use Rattle.dx_schema.specs.Names.{table_names_of}
use Rattle.dx_script.specs.declared.form.Step.{Step}
use Rattle.dx_script.specs.Fits.{FitsScript}
use Rattle.dx_script.specs.Meaning.{IsInserted}
use Rattle.dx_tgd.specs.Planned.{built}
use Rattle.dx_tgd.specs.Texts.{tuples_in}
use Rattle.dx_eval.specs.Evaluating.{IsMade}
use Rattle.dx_eval.specs.Finding.{matchings}
use Rattle.dx_eval.proofs.Inserts.{widths_named}
use Rattle.dx_eval.proofs.Limits.{refused_same}
use Rattle.dx_eval.proofs.Running.{insert_stands, made_is, nothing_built, parts_stand, reads_kept, widths_built}
use Rattle.dx_eval.proofs.Tables.{found_ascend, found_reordered, found_texts}
use Rattle.dx_eval.proofs.run.eval.Goals as goal

pub in_order-requires-clause-ascend : goal.in_order-requires-clause-ascend
in_order-requires-clause-ascend g c =
    let N = table_names_of c.args.source.now in
    let L = offered c.args.host.now in
    let C = call_named g.M.Meaning.apply L in
    let I = facts (shown_tables c.numbers-numbers.result.symbols c.numbers-numbers.result.tables) in
    let R = c.items-steps.result.now in
    let T = c.in_ok-found.found.symbols in
    let us = c.in_ok-found.found.tables.items in
    found_ascend N C I T (matchings R) us c.in_ok-found.ensures.found

pub in_order-requires-clause-texts : goal.in_order-requires-clause-texts
in_order-requires-clause-texts g c =
    let N = table_names_of c.args.source.now in
    let L = offered c.args.host.now in
    let C = call_named g.M.Meaning.apply L in
    let I = facts (shown_tables c.numbers-numbers.result.symbols c.numbers-numbers.result.tables) in
    let R = c.items-steps.result.now in
    let T = c.in_ok-found.found.symbols in
    let us = c.in_ok-found.found.tables.items in
    found_texts N C I T (matchings R) us c.in_ok-found.ensures.found

pub matches_of-requires : goal.matches_of-requires
matches_of-requires g c =
    let N = table_names_of c.args.source.now in
    let L = offered c.args.host.now in
    let C = call_named g.M.Meaning.apply L in
    let I = facts (shown_tables c.numbers-numbers.result.symbols c.numbers-numbers.result.tables) in
    let R = c.items-steps.result.now in
    let T = c.in_ok-found.found.symbols in
    let us = c.in_ok-found.found.tables.items in
    let S = c.in_ok-symbols.field-0.symbols in
    let ts = c.in_ok-symbols.field-0.tables.items in
    let found = found_reordered N C I T S (matchings R) us ts c.in_ok-symbols.ensures.same c.in_ok-found.ensures.found in
    record { texts = rw c.deref.ensures.value (found_texts N C I S (matchings R) ts found) }

pub insert_all-requires-clause-texts : goal.insert_all-requires-clause-texts
insert_all-requires-clause-texts g c =
    let N = table_names_of c.args.source.now in
    let L = offered c.args.host.now in
    let C = call_named g.M.Meaning.apply L in
    let I = facts (shown_tables c.numbers-numbers.result.symbols c.numbers-numbers.result.tables) in
    let R = c.items-steps.result.now in
    let T = c.in_ok-found.found.symbols in
    let us = c.in_ok-found.found.tables.items in
    let S = c.in_ok-symbols.field-0.symbols in
    let ts = c.in_ok-symbols.field-0.tables.items in
    let found = found_reordered N C I T S (matchings R) us ts c.in_ok-symbols.ensures.same c.in_ok-found.ensures.found in
    rw (c.deref-3.ensures.value, c.in_ok-builder.ensures.symbols) (found_texts N C I S (matchings R) ts found)

pub insert_all-requires-clause-steps : goal.insert_all-requires-clause-steps
insert_all-requires-clause-steps g c =
    let N = table_names_of c.args.source.now in
    let L = offered c.args.host.now in
    let C = call_named g.M.Meaning.apply L in
    let I = facts (shown_tables c.numbers-numbers.result.symbols c.numbers-numbers.result.tables) in
    let R = c.items-steps.result.now in
    let T = c.in_ok-found.found.symbols in
    let us = c.in_ok-found.found.tables.items in
    let S = c.in_ok-symbols.field-0.symbols in
    let ts = c.in_ok-symbols.field-0.tables.items in
    let found = found_reordered N C I T S (matchings R) us ts c.in_ok-symbols.ensures.same c.in_ok-found.ensures.found in
    let M = table_names_of c.args.target.now in
    let fits = subst (λ (z : List Step). FitsScript N M L z) (sym c.items-steps.ensures) c.requires.fits in
    record {
      keeps = rw c.deref-3.ensures.value (parts_stand N M L R fits C I S ts found);
      inserts = rw c.deref-3.ensures.value (insert_stands N M L R fits C I S ts found);
      reads = reads_kept N M L R fits;
    }

pub insert_all-requires-clause-empty : goal.insert_all-requires-clause-empty
insert_all-requires-clause-empty g c = record {
  widths_are = widths_built c.deref-2.result.now (built c.in_ok-builder.builder) c.in_ok-builder.ensures.empty ∙ (c.deref-2.ensures.value ∙ c.in_ok-columns.ensures.all);
  none = nothing_built c.deref-2.result.now (built c.in_ok-builder.builder) c.in_ok-builder.ensures.empty;
}

pub returns-in_err-found-clause-refused : goal.returns-in_err-found-clause-refused
returns-in_err-found-clause-refused g c =
    let N = table_names_of c.args.source.now in
    let C = call_named g.M.Meaning.apply (offered c.args.host.now) in
    let I = facts (shown_tables c.numbers-numbers.result.symbols c.numbers-numbers.result.tables) in
    let e = err_from_is_err_and c.from_residual-in_err-found.result c.from_residual-in_err-found.ensures.1 in
    rw e.1 (refused_same N C c.items-steps.result.now c.args.script.now.steps I (facts c.args.rows.now) c.args.limit c.in_err-found.field-0.0 e.0 c.items-steps.ensures
    (ap (λ (z : List TableRows). facts z) c.numbers-numbers.ensures.shown) e.2 c.in_err-found.ensures.refused)

pub returns-clause-made : goal.returns-clause-made
returns-clause-made g c =
    let N = table_names_of c.args.source.now in
    let L = offered c.args.host.now in
    let C = call_named g.M.Meaning.apply L in
    let I = facts (shown_tables c.numbers-numbers.result.symbols c.numbers-numbers.result.tables) in
    let R = c.items-steps.result.now in
    let T = c.in_ok-found.found.symbols in
    let us = c.in_ok-found.found.tables.items in
    let S = c.in_ok-symbols.field-0.symbols in
    let ts = c.in_ok-symbols.field-0.tables.items in
    let M = table_names_of c.args.target.now in
    let fits = subst (λ (z : List Step). FitsScript N M L z) (sym c.items-steps.ensures) c.requires.fits in
    let B = built c.insert_all.new.target in
    let same = ap (λ (z : List Value). tuples_in z c.deref-3.result.now) c.in_ok-builder.ensures.symbols ∙ ap (tuples_in S) c.deref-3.ensures.value in
    let inserted = subst (λ (z : Rows). (f : Fact) → (f ∈ facts B) ↔ IsInserted M R z f) same c.in_ok-insert_all.ensures.facts in
    let made = made_is N M L R C I (facts c.args.rows.now) T S us ts c.in_ok-matches.matches B c.in_ok-instance.instance c.args.limit fits (ap (λ (z : List TableRows). facts z) c.numbers-numbers.ensures.shown)
    c.in_ok-symbols.ensures.ascend c.in_ok-found.ensures.found c.in_ok-symbols.ensures.same c.in_ok-found.ensures.within (c.in_ok-matches.ensures ∙ ap (tuples_in S) c.deref.ensures.value) inserted c.in_ok-instance.ensures
    (c.in_ok-insert_all.ensures.widths ∙ widths_named c.args.target.now) in
    subst (λ (z : List Step). IsMade N M C z (facts c.args.rows.now) c.args.limit (record { instance = c.in_ok-instance.instance; matches = c.in_ok-matches.matches })) c.items-steps.ensures made

pub returns-clause-ascend : goal.returns-clause-ascend
returns-clause-ascend g c = c.in_ok-instance.ensures.ascend

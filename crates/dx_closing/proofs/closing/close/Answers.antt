use Rattle.std.proofs.Common.{◌+◌, ◌<◌, ◌∙◌, refl, ap, length, arith}
use Rattle.std.specs.Prelude.{slice_get}
use Rattle.std.proofs.lemmas.Result.{err_from_is_err_and}
use Rattle.dx_schema.specs.Tables.{model_tables, tables_of}
use Rattle.dx_schema.proofs.Whole.{links_fit}
use Rattle.dx_closing.specs.declared.growing.Growing.{Growing}
use Rattle.dx_closing.specs.Closing.{begun}
use Rattle.dx_closing.proofs.Going.{atom_grows, at_end, closing_wide}
use Rattle.dx_closing.proofs.Numbered.{closing_numbered}
use Rattle.dx_closing.proofs.Served.{closing_serves}
use Rattle.dx_closing.proofs.Begun.{begun_is, begun_below, begun_roomy}
use Rattle.dx_closing.proofs.Steps.{gone_next}
use Rattle.dx_closing.proofs.closing.close.Goals as goal

pub above_all-next-requires : goal.above_all-next-requires
above_all-next-requires c =
    rw c.items.ensures
    (begun_below c.args.target.now c.args.rule.conclusion c.requires.numbered c.tables.ensures.facts c.requires.fits (omega arith))

pub atoms-init : goal.atoms-init
atoms-init c =
    let e = begun_is c.args.rule.conclusion c.above_all-next.result (rw c.items.ensures at c.above_all-next.ensures) in
    (e, rw e (begun_roomy c.args.target.now c.args.rule.conclusion c.requires.numbered c.tables.ensures.facts c.requires.fits (omega arith)), omega arith)

pub returns-then-len-gt-OCCURRENCES-clause-wide : goal.returns-then-len-gt-OCCURRENCES-clause-wide
returns-then-len-gt-OCCURRENCES-clause-wide c = λ _ E k. closing_wide (model_tables c.args.target.now) c.args.rule.conclusion E 0 k (rw c.len.ensures at c.if-len-gt-OCCURRENCES.true)

pub returns-in_err-follow_atom-clause-wide : goal.returns-in_err-follow_atom-clause-wide
returns-in_err-follow_atom-clause-wide c =
    let p = err_from_is_err_and c.from_residual.result c.from_residual.ensures.1 in
    let g = gone_next (model_tables c.args.target.now) (begun c.args.rule.conclusion) c.atoms.growing c.atoms.place c.atoms.invariant.0 in
    rw (p.1, p.2)
    (λ e E k. closing_wide (model_tables c.args.target.now) c.args.rule.conclusion E (c.atoms.place + 1) k (rw (← g) (c.in_err-follow_atom.ensures.wide e)))

pub atoms-preserved : goal.atoms-preserved
atoms-preserved c =
    let g = gone_next (model_tables c.args.target.now) (begun c.args.rule.conclusion) c.atoms.growing c.atoms.place c.atoms.invariant.0 in
    let l = atom_grows (model_tables c.args.target.now) c.atoms.growing (slice_get c.atoms.growing.atoms c.atoms.place) in
    let n = ap (λ (D : Growing). length D.atoms) c.in_ok-follow_atom.ensures.exact in
    let b : c.atoms.place < length c.atoms.growing.atoms = rw c.items-in-atoms.ensures at c.atoms-test.true in
    (c.in_ok-follow_atom.ensures.exact ∙ g, c.in_ok-follow_atom.ensures.roomy, omega (arith, l, n, b))

pub returns-clause-closed : goal.returns-clause-closed
returns-clause-closed c =
    let k = at_end (model_tables c.args.target.now) c.args.rule.conclusion c.atoms.growing c.atoms.place c.atoms.invariant.0 (rw c.items-in-atoms.ensures at c.atoms-test.false) c.atoms.invariant.2 in
    closing_serves (model_tables c.args.target.now) c.args.rule _ (links_fit (tables_of c.args.target.now) c.tables.ensures.facts) c.requires.fits
    (record { premise = refl; derived = refl; conclusion = k })

pub returns-clause-numbered : goal.returns-clause-numbered
returns-clause-numbered c =
    let k = at_end (model_tables c.args.target.now) c.args.rule.conclusion c.atoms.growing c.atoms.place c.atoms.invariant.0 (rw c.items-in-atoms.ensures at c.atoms-test.false) c.atoms.invariant.2 in
    closing_numbered (model_tables c.args.target.now) c.args.rule.conclusion c.atoms.growing.atoms (links_fit (tables_of c.args.target.now) c.tables.ensures.facts) c.requires.fits c.requires.numbered k

use Rattle.std.proofs.Common.{◌∙◌, ap, length}
use Rattle.std.proofs.lemmas.List.{length-map}
use Rattle.dx_joins.specs.Shown.{is_text}
use Rattle.dx_joins.proofs.Translating.{result_shown, some_patterns, all_fit, all_known, few_variables}
use Rattle.dx_joins.proofs.texts.premise_shown.Goals as goal

pub ordered_rows-requires-clause-some : goal.ordered_rows-requires-clause-some
ordered_rows-requires-clause-some c = (some_patterns c.args.premise.now c.in_ok-patterns.patterns.items c.requires.fits.some c.in_ok-patterns.ensures)

pub ordered_rows-requires-clause-joinable : goal.ordered_rows-requires-clause-joinable
ordered_rows-requires-clause-joinable c = record {
  fit = all_fit c.args.source.now.symbols c.args.source.now.tables c.args.premise.now c.in_ok-patterns.patterns.items c.requires.fits.wide c.requires.fits.plain c.in_ok-patterns.ensures;
  few = few_variables c.args.premise.now c.in_ok-patterns.patterns.items c.in_ok-patterns.ensures c.requires.fits.plain c.requires.fits.few;
}

pub ordered_rows-requires-clause-shown : goal.ordered_rows-requires-clause-shown
ordered_rows-requires-clause-shown c = record {
  known = all_known c.args.premise.now c.in_ok-patterns.patterns.items c.args.shown.now c.in_ok-patterns.ensures c.requires.fits.numbered c.requires.fits.known;
  few = c.requires.fits.short;
}

pub invariant_of-marked : goal.invariant_of-marked
invariant_of-marked c = record { each = ap length (c.deref.ensures.value ∙ c.in_ok-marks.ensures.marks) ∙ length-map c.args.source.now.symbols is_text }

pub returns-clause-rows : goal.returns-clause-rows
returns-clause-rows c = λ convert.
    let ps = c.in_ok-patterns.patterns.items in
    let known = all_known c.args.premise.now ps c.args.shown.now c.in_ok-patterns.ensures c.requires.fits.numbered c.requires.fits.known in
    result_shown c.args.source.now.symbols c.args.source.now.tables c.marks_of.ensures.fit c.args.premise.now ps c.args.shown.now c.requires.fits.plain c.in_ok-patterns.ensures known convert c.deref.result.now c.args.most c.ordered_rows.result
    (c.deref.ensures.value ∙ c.in_ok-marks.ensures.marks) c.ordered_rows.ensures.rows

pub returns-clause-within : goal.returns-clause-within
returns-clause-within c = c.ordered_rows.ensures.within

use Rattle.std.proofs.Common.{sym}
use Rattle.std.proofs.lemmas.Result.{err_from_is_err_and}
use Rattle.std.specs.Prelude.{codes}
use Rattle.dx_grammar.proofs.Loops.{loop_on, loop_shorter, loop_fails, loop_stops}
use Rattle.dx_schema_text.specs.Grammar.{mark_is}
use Rattle.dx_schema_text.specs.Reading.{comma_word}
use Rattle.dx_schema_text.proofs.Follows.{comma_word_consumes}
use Rattle.dx_schema_text.proofs.lexemes.more_names.Goals as goal

pub returns-in_err-name : goal.returns-in_err-name
returns-in_err-name c =
    let p = err_from_is_err_and c.from_residual.result c.from_residual.ensures.1 in
    rw (p.1, p.2) (loop_fails (mark_is (codes ",")) comma_word comma_word_consumes c.in_err-name.field-0.0 c.names.names c.names.rest.now _ (sym c.names-test.ensures) c.in_err-name.ensures c.names.invariant)

pub names-smaller : goal.names-smaller
names-smaller c = loop_shorter (mark_is (codes ",")) comma_word comma_word_consumes c.names.rest.now c.in_ok-name.after.now c.in_ok-name.name (sym c.names-test.ensures) c.in_ok-name.ensures

pub names-preserved : goal.names-preserved
names-preserved c = loop_on (mark_is (codes ",")) comma_word comma_word_consumes c.names.names c.push.new.self c.names.rest.now c.in_ok-name.after.now c.in_ok-name.name _ (sym c.names-test.ensures) c.in_ok-name.ensures c.in_ok-push.ensures.ok c.names.invariant

pub returns : goal.returns
returns c = loop_stops (mark_is (codes ",")) comma_word comma_word_consumes c.names.names c.names.rest.now _ (sym c.names-test.ensures) c.names.invariant

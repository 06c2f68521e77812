use Rattle.std.proofs.Common.{sym}
use Rattle.std.proofs.lemmas.Result.{err_from_is_err_and}
use Rattle.std.specs.Prelude.{codes}
use Rattle.dx_grammar.proofs.Loops.{loop_on, loop_shorter, loop_fails, loop_stops}
use Rattle.dx_schema_text.specs.Grammar.{word_is}
use Rattle.dx_query_text.specs.Reading.{part_reader}
use Rattle.dx_query_text.proofs.Follows.{part_consumes}
use Rattle.dx_query_text.proofs.parts.more_parts.Goals as goal

pub returns-in_err-next : goal.returns-in_err-next
returns-in_err-next c =
    let p = err_from_is_err_and c.from_residual.result c.from_residual.ensures.1 in
    rw (p.1, p.2) (loop_fails (word_is (codes "answer")) part_reader part_consumes c.in_err-next.field-0.0 c.parts.parts c.parts.rest.now _ (sym c.parts-test.ensures) c.in_err-next.ensures c.parts.invariant)

pub parts-smaller : goal.parts-smaller
parts-smaller c = loop_shorter (word_is (codes "answer")) part_reader part_consumes c.parts.rest.now c.in_ok-next.after.now c.in_ok-next.next (sym c.parts-test.ensures) c.in_ok-next.ensures

pub parts-preserved : goal.parts-preserved
parts-preserved c = loop_on (word_is (codes "answer")) part_reader part_consumes c.parts.parts c.push.new.self c.parts.rest.now c.in_ok-next.after.now c.in_ok-next.next _ (sym c.parts-test.ensures) c.in_ok-next.ensures c.in_ok-push.ensures.ok c.parts.invariant

pub returns : goal.returns
returns c = loop_stops (word_is (codes "answer")) part_reader part_consumes c.parts.parts c.parts.rest.now _ (sym c.parts-test.ensures) c.parts.invariant

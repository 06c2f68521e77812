use Rattle.std.proofs.Common.{sym}
use Rattle.std.proofs.lemmas.Result.{err_from_is_err_and}
use Rattle.std.specs.Prelude.{codes}
use Rattle.dx_grammar.proofs.Loops.{loop_on, loop_shorter, loop_fails, loop_stops}
use Rattle.dx_schema_text.specs.Grammar.{mark_is}
use Rattle.dx_schema_text.specs.Reading.{comma_place}
use Rattle.dx_schema_text.proofs.Follows.{comma_place_consumes}
use Rattle.dx_schema_text.proofs.lines.more_places.Goals as goal

pub returns-in_err-next : goal.returns-in_err-next
returns-in_err-next c =
    let p = err_from_is_err_and c.from_residual.result c.from_residual.ensures.1 in
    rw (p.1, p.2) (loop_fails (mark_is (codes ",")) comma_place comma_place_consumes c.in_err-next.field-0.0 c.places.places c.places.rest.now _ (sym c.places-test.ensures) c.in_err-next.ensures c.places.invariant)

pub places-smaller : goal.places-smaller
places-smaller c = loop_shorter (mark_is (codes ",")) comma_place comma_place_consumes c.places.rest.now c.in_ok-next.after.now c.in_ok-next.next (sym c.places-test.ensures) c.in_ok-next.ensures

pub places-preserved : goal.places-preserved
places-preserved c = loop_on (mark_is (codes ",")) comma_place comma_place_consumes c.places.places c.push.new.self c.places.rest.now c.in_ok-next.after.now c.in_ok-next.next _ (sym c.places-test.ensures) c.in_ok-next.ensures c.in_ok-push.ensures.ok c.places.invariant

pub returns : goal.returns
returns c = loop_stops (mark_is (codes ",")) comma_place comma_place_consumes c.places.places c.places.rest.now _ (sym c.places-test.ensures) c.places.invariant

use Rattle.std.proofs.Common.{sym}
use Rattle.std.proofs.lemmas.Result.{err_from_is_err_and}
use Rattle.std.specs.Prelude.{codes}
use Rattle.dx_schema_text.specs.Grammar.{word_is}
use Rattle.dx_schema_text.specs.Reading.{set_reader}
use Rattle.dx_grammar.proofs.Loops.{loop_on, loop_shorter, loop_fails, loop_stops}
use Rattle.dx_schema_text.proofs.Follows.{set_consumes}
use Rattle.dx_schema_text.proofs.mapping.sets.Goals as goal

pub returns-in_err-next : goal.returns-in_err-next
returns-in_err-next c =
    let p = err_from_is_err_and c.from_residual.result c.from_residual.ensures.1 in
    rw (p.1, p.2) (loop_fails (word_is (codes "set")) (set_reader c.args.version c.args.levels) (set_consumes c.args.version c.args.levels) c.in_err-next.field-0.0 c.sets.sets c.sets.rest.now _ (sym c.sets-test.ensures) c.in_err-next.ensures c.sets.invariant)

pub sets-smaller : goal.sets-smaller
sets-smaller c = loop_shorter (word_is (codes "set")) (set_reader c.args.version c.args.levels) (set_consumes c.args.version c.args.levels) c.sets.rest.now c.in_ok-next.after.now c.in_ok-next.next (sym c.sets-test.ensures) c.in_ok-next.ensures

pub sets-preserved : goal.sets-preserved
sets-preserved c = loop_on (word_is (codes "set")) (set_reader c.args.version c.args.levels) (set_consumes c.args.version c.args.levels) c.sets.sets c.push.new.self c.sets.rest.now c.in_ok-next.after.now c.in_ok-next.next _ (sym c.sets-test.ensures) c.in_ok-next.ensures c.in_ok-push.ensures.ok c.sets.invariant

pub returns : goal.returns
returns c = loop_stops (word_is (codes "set")) (set_reader c.args.version c.args.levels) (set_consumes c.args.version c.args.levels) c.sets.sets c.sets.rest.now _ (sym c.sets-test.ensures) c.sets.invariant

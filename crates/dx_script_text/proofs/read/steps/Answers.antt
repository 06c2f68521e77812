use Rattle.std.proofs.Common.{sym}
use Rattle.std.proofs.lemmas.Result.{err_from_is_err_and}
use Rattle.dx_grammar.proofs.Loops.{loop_on, loop_shorter, loop_fails, loop_stops}
use Rattle.dx_script_text.specs.Reading.{begins_step, step_reader}
use Rattle.dx_script_tokens.specs.Numbers.{greatest_number}
use Rattle.dx_script_text.proofs.Follows.{step_consumes}
use Rattle.dx_script_text.proofs.read.steps.Goals as goal

pub returns-in_err-next : goal.returns-in_err-next
returns-in_err-next c =
    let p = err_from_is_err_and c.from_residual.result c.from_residual.ensures.1 in
    rw (p.1, p.2) (loop_fails begins_step (step_reader greatest_number) (step_consumes greatest_number) c.in_err-next.field-0.0 c.all.all c.all.rest.now _ (sym c.all-test.ensures) c.in_err-next.ensures c.all.invariant)

pub all-smaller : goal.all-smaller
all-smaller c = loop_shorter begins_step (step_reader greatest_number) (step_consumes greatest_number) c.all.rest.now c.in_ok-next.after.now c.in_ok-next.next (sym c.all-test.ensures) c.in_ok-next.ensures

pub all-preserved : goal.all-preserved
all-preserved c = loop_on begins_step (step_reader greatest_number) (step_consumes greatest_number) c.all.all c.push.new.self c.all.rest.now c.in_ok-next.after.now c.in_ok-next.next _ (sym c.all-test.ensures) c.in_ok-next.ensures c.in_ok-push.ensures.ok c.all.invariant

pub returns : goal.returns
returns c = loop_stops begins_step (step_reader greatest_number) (step_consumes greatest_number) c.all.all c.all.rest.now _ (sym c.all-test.ensures) c.all.invariant

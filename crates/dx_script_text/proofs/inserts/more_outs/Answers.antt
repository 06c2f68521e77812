use Rattle.std.proofs.Common.{sym}
use Rattle.std.proofs.lemmas.Result.{err_from_is_err_and}
use Rattle.dx_grammar.proofs.Learned.{known_on, known_shorter, known_fails, known_stops}
use Rattle.dx_script_text.specs.Grammar.{is_comma}
use Rattle.dx_script_text.specs.Reading.{comma_out}
use Rattle.dx_script_tokens.specs.Numbers.{greatest_number}
use Rattle.dx_script_text.proofs.Follows.{comma_out_consumes}
use Rattle.dx_script_text.proofs.inserts.more_outs.Goals as goal

pub returns-in_err-next : goal.returns-in_err-next
returns-in_err-next c =
    let p = err_from_is_err_and c.from_residual.result c.from_residual.ensures.1 in
    rw (p.1, p.2) (known_fails is_comma (comma_out greatest_number) (comma_out_consumes greatest_number) c.in_err-next.field-0.0 c.all.all c.all.known c.all.rest.now _ (sym c.all-test.ensures) c.in_err-next.ensures c.all.invariant)

pub all-smaller : goal.all-smaller
all-smaller c = known_shorter is_comma (comma_out greatest_number) (comma_out_consumes greatest_number) c.all.known c.in_ok-next.now c.all.rest.now c.in_ok-next.after.now c.in_ok-next.next (sym c.all-test.ensures) c.in_ok-next.ensures

pub all-preserved : goal.all-preserved
all-preserved c = known_on is_comma (comma_out greatest_number) (comma_out_consumes greatest_number) c.all.all c.push.new.self c.all.known c.in_ok-next.now c.all.rest.now c.in_ok-next.after.now c.in_ok-next.next _ (sym c.all-test.ensures) c.in_ok-next.ensures c.in_ok-push.ensures.ok c.all.invariant

pub returns : goal.returns
returns c = known_stops is_comma (comma_out greatest_number) (comma_out_consumes greatest_number) c.all.all c.all.known c.all.rest.now _ (sym c.all-test.ensures) c.all.invariant

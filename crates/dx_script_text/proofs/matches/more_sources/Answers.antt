use Rattle.std.proofs.Common.{sym}
use Rattle.std.proofs.lemmas.Result.{err_from_is_err_and}
use Rattle.dx_grammar.proofs.Counted.{count_on_at, count_shorter_at, count_fails_at, count_stops_at}
use Rattle.dx_script_text.specs.Grammar.{is_comma}
use Rattle.dx_script_text.specs.Reading.{comma_source}
use Rattle.dx_script_text.proofs.Follows.{comma_source_consumes}
use Rattle.dx_script_text.proofs.matches.more_sources.Goals as goal

pub returns-in_err-next : goal.returns-in_err-next
returns-in_err-next c =
    let p = err_from_is_err_and c.from_residual.result c.from_residual.ensures.1 in
    rw (p.1, p.2) (count_fails_at is_comma comma_source 4294967296 c.len.result c.len-in-all.result c.in_err-next.field-0.0 c.all.all c.all.rest.now _ c.len.ensures c.len-in-all.ensures (sym c.all-test.ensures) c.in_err-next.ensures c.all.invariant)

pub all-smaller : goal.all-smaller
all-smaller c = count_shorter_at is_comma comma_source 4294967296 c.len.result c.len-in-all.result c.all.rest.now c.in_ok-next.after.now c.in_ok-next.next (comma_source_consumes c.len-in-all.result) (sym c.all-test.ensures) c.in_ok-next.ensures

pub all-preserved : goal.all-preserved
all-preserved c = count_on_at is_comma comma_source 4294967296 c.len.result c.len-in-all.result c.all.all c.push.new.self c.all.rest.now c.in_ok-next.after.now c.in_ok-next.next _ c.len.ensures c.len-in-all.ensures (sym c.all-test.ensures) c.in_ok-next.ensures c.in_ok-push.ensures.ok c.all.invariant

pub returns : goal.returns
returns c = count_stops_at is_comma comma_source 4294967296 c.len.result c.all.all c.all.rest.now _ c.len.ensures (sym c.all-test.ensures) c.all.invariant

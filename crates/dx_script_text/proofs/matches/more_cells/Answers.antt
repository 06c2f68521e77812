use Rattle.std.proofs.Common.{sym}
use Rattle.std.proofs.lemmas.Result.{err_from_is_err_and}
use Rattle.dx_grammar.proofs.Loops.{loop_on, loop_shorter, loop_fails, loop_stops}
use Rattle.dx_grammar.specs.Lists.{past}
use Rattle.dx_script_text.specs.Grammar.{is_comma}
use Rattle.dx_script_text.specs.Reading.{alias_cell_reader}
use Rattle.dx_script_text.proofs.Follows.{comma_cell_consumes}
use Rattle.dx_script_text.proofs.matches.more_cells.Goals as goal

pub returns-in_err-next : goal.returns-in_err-next
returns-in_err-next c =
    let p = err_from_is_err_and c.from_residual.result c.from_residual.ensures.1 in
    rw (p.1, p.2) (loop_fails is_comma (past is_comma alias_cell_reader) comma_cell_consumes c.in_err-next.field-0.0 c.all.all c.all.rest.now _ (sym c.all-test.ensures) c.in_err-next.ensures c.all.invariant)

pub all-smaller : goal.all-smaller
all-smaller c = loop_shorter is_comma (past is_comma alias_cell_reader) comma_cell_consumes c.all.rest.now c.in_ok-next.after.now c.in_ok-next.next (sym c.all-test.ensures) c.in_ok-next.ensures

pub all-preserved : goal.all-preserved
all-preserved c = loop_on is_comma (past is_comma alias_cell_reader) comma_cell_consumes c.all.all c.push.new.self c.all.rest.now c.in_ok-next.after.now c.in_ok-next.next _ (sym c.all-test.ensures) c.in_ok-next.ensures c.in_ok-push.ensures.ok c.all.invariant

pub returns : goal.returns
returns c = loop_stops is_comma (past is_comma alias_cell_reader) comma_cell_consumes c.all.all c.all.rest.now _ (sym c.all-test.ensures) c.all.invariant

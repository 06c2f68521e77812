use Rattle.std.proofs.Common.{◌<◌, sym, subst, arith}
use Rattle.std.proofs.lemmas.Result.{err_from_is_err_and}
use Rattle.dx_grammar.specs.Readers.{ReadsAs}
use Rattle.dx_grammar.proofs.Loops.{loop_on, loop_shorter, loop_fails, loop_stops}
use Rattle.dx_schema_text.specs.Reading.{begins_clause, clause_reader}
use Rattle.dx_schema_text.proofs.Follows.{clause_consumes}
use Rattle.dx_schema_text.proofs.Levels.{no_level, one_level, clauses_fail, closing_fails, set_is}
use Rattle.dx_schema_text.proofs.clauses.+sets.Goals as goal

pub clauses-returns-in_err-next : goal.clauses-returns-in_err-next
clauses-returns-in_err-next t c =
    let p = err_from_is_err_and c.from_residual.result c.from_residual.ensures.1 in
    rw (p.1, p.2) (loop_fails (begins_clause c.args.version c.args.levels) (clause_reader c.args.version c.args.levels) (clause_consumes c.args.version c.args.levels) c.in_err-next.field-0.0 c.clauses.clauses c.clauses.rest.now _ (sym c.clauses-test.ensures) c.in_err-next.ensures c.clauses.invariant)

pub clauses-clauses-smaller : goal.clauses-clauses-smaller
clauses-clauses-smaller t c = loop_shorter (begins_clause c.args.version c.args.levels) (clause_reader c.args.version c.args.levels) (clause_consumes c.args.version c.args.levels) c.clauses.rest.now c.in_ok-next.after.now c.in_ok-next.next (sym c.clauses-test.ensures) c.in_ok-next.ensures

pub clauses-clauses-preserved : goal.clauses-clauses-preserved
clauses-clauses-preserved t c = loop_on (begins_clause c.args.version c.args.levels) (clause_reader c.args.version c.args.levels) (clause_consumes c.args.version c.args.levels) c.clauses.clauses c.push.new.self c.clauses.rest.now c.in_ok-next.after.now c.in_ok-next.next _ (sym c.clauses-test.ensures) c.in_ok-next.ensures c.in_ok-push.ensures.ok c.clauses.invariant

pub clauses-returns : goal.clauses-returns
clauses-returns t c = loop_stops (begins_clause c.args.version c.args.levels) (clause_reader c.args.version c.args.levels) (clause_consumes c.args.version c.args.levels) c.clauses.clauses c.clauses.rest.now _ (sym c.clauses-test.ensures) c.clauses.invariant

pub one_clause-returns-then-levels-eq0 : goal.one_clause-returns-then-levels-eq0
one_clause-returns-then-levels-eq0 t c = subst (ReadsAs (λ x. (x.0, x.1.now)) c.last_clause.result) (no_level c.args.version c.args.levels c.args.tokens.now c.if-levels-eq0.true) c.last_clause.ensures

pub one_clause-returns-else-levels-eq0 : goal.one_clause-returns-else-levels-eq0
one_clause-returns-else-levels-eq0 t c =
    let some : 0 < c.args.levels = omega arith in
    subst (ReadsAs (λ x. (x.0, x.1.now)) c.clause_with.result) (one_level c.args.version c.args.levels c.args.tokens.now some) c.clause_with.ensures

pub set-returns-in_err-clauses : goal.set-returns-in_err-clauses
set-returns-in_err-clauses t c =
    let p = err_from_is_err_and c.from_residual-in_err-clauses.result c.from_residual-in_err-clauses.ensures.1 in
    rw (p.1, p.2) (clauses_fail c.in_err-clauses.field-0.0 c.args.version c.args.levels c.args.tokens.now c.in_ok-name.rest.now c.in_ok-name.name c.in_ok-name.columns c.in_ok-name.ensures c.in_err-clauses.ensures)

pub set-returns-in_err-rest : goal.set-returns-in_err-rest
set-returns-in_err-rest t c =
    let p = err_from_is_err_and c.from_residual-in_err-rest.result c.from_residual-in_err-rest.ensures.1 in
    rw (p.1, p.2) (closing_fails c.in_err-rest.field-0.0 c.args.version c.args.levels c.args.tokens.now c.in_ok-name.rest.now c.in_ok-clauses.rest.now c.in_ok-name.name c.in_ok-name.columns c.in_ok-clauses.clauses c.in_ok-name.ensures c.in_ok-clauses.ensures c.in_err-rest.ensures)

pub set-returns : goal.set-returns
set-returns t c = set_is c.args.version c.args.levels c.args.tokens.now c.in_ok-name.rest.now c.in_ok-clauses.rest.now c.in_ok-rest.rest.now c.in_ok-name.name c.in_ok-name.columns c.in_ok-clauses.clauses c.in_ok-rest.ensures.0 c.in_ok-tree_made.field-0 c.in_ok-name.ensures c.in_ok-clauses.ensures c.in_ok-rest.ensures.1 c.in_ok-tree_made.ensures

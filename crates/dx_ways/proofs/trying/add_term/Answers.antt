use Rattle.std.proofs.Common.{refl}
use Rattle.std.specs.Prelude.{slice_index}
use Rattle.std.proofs.lemmas.Result.{err_from_is_err_and}
use Rattle.dx_ways.proofs.Tries.{variable_many}
use Rattle.dx_ways.proofs.trying.add_term.Goals as goal

pub returns-in_err-put_pick-clause-many : goal.returns-in_err-put_pick-clause-many
returns-in_err-put_pick-clause-many c =
    let p = err_from_is_err_and c.from_residual-in_err-put_pick.result c.from_residual-in_err-put_pick.ensures.1 in
    rw (p.1, p.2) (λ e.
    variable_many c.args.variables.now c.args.term.now c.in_ok-copy_term.field-0 c.loop-variable.variable-index
    (slice_index c.args.variables.now c.loop-variable.variable-index) c.loop-variable.found.items _
    c.in_ok-copy_term.ensures c.loop-variable-test.true refl c.loop-variable.invariant.same (c.in_err-put_pick.ensures.many e))

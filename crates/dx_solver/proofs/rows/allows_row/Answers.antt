use Rattle.std.proofs.Common.{◌<◌, ◌∙◌, arith, length, sym}
use Rattle.dx_solver.specs.declared.atom.Term.TheVariants.{Number}
use Rattle.dx_solver.specs.Questions.{number_under}
use Rattle.dx_solver.proofs.RowFacts.{column_of}
use Rattle.dx_solver.proofs.rows.allows_row.Goals as goal

pub returns-then-not-allows_at : goal.returns-then-not-allows_at
returns-then-not-allows_at c = λ a k e.
    let h : c.loop-column.column < length c.args.terms.now = omega arith in
    sym c.if-not-allows_at.true
    ∙ c.allows_at.ensures a k (sym (column_of (number_under a) c.args.terms.now c.args.row.now c.loop-column.column (Number 0) h e))

pub returns-then-not-repeats : goal.returns-then-not-repeats
returns-then-not-repeats c = λ a k e. sym c.if-not-repeats.true ∙ c.repeats.ensures a e

use Rattle.std.proofs.Common.{◌<◌, ◌∙◌, arith, length, sym}
use Rattle.dx_solver.specs.declared.atom.Term.TheVariants.{Number}
use Rattle.dx_solver.specs.Questions.{number_under}
use Rattle.dx_solver.proofs.RowFacts.{column_of}
use Rattle.dx_solver.proofs.few.fixed.Goals as goal

pub loop-column-preserved : goal.loop-column-preserved
loop-column-preserved c =
    let h : c.loop-column.column < length c.args.terms.now = omega arith in
    record {
      many = c.fix_at.ensures.many ∙ c.loop-column.invariant.many;
      kept = λ a k e. c.fix_at.ensures.kept a (c.loop-column.invariant.kept a k e)
          (sym (column_of (number_under a) c.args.terms.now c.args.row.now c.loop-column.column (Number 0) h e));
    }

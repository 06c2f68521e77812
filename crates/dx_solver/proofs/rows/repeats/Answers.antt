use Rattle.std.proofs.Common.{◌<◌, ◌∙◌, arith, get_or, length, sym}
use Rattle.std.proofs.lemmas.Bool.{eq-eqb}
use Rattle.dx_solver.specs.declared.atom.Term.TheVariants.{Number}
use Rattle.dx_solver.specs.Questions.{number_under}
use Rattle.dx_solver.proofs.RowFacts.{column_of}
use Rattle.dx_solver.proofs.rows.repeats.Goals as goal

pub returns : goal.returns
returns c = λ a e.
    let terms = c.args.terms.now in
    let row = c.args.row.now in
    let first = c.first_like-first.result in
    let h : c.args.column < length terms = omega arith in
    let k : first < length terms = omega (arith, c.first_like-first.ensures.before) in
    let x = column_of (number_under a) terms row first (Number 0) k e in
    let y = column_of (number_under a) terms row c.args.column (Number 0) h e in
    eq-eqb (get_or row first 0) (get_or row c.args.column 0) (x ∙ (c.first_like-first.ensures.same a ∙ sym y))

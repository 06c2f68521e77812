use Rattle.std.proofs.Common.{◌≡◌, [], arith, subst}
use Rattle.clio_files.specs.Answers.{column_names}
use Rattle.clio_files.specs.Printing.{HasFields}
use Rattle.clio_files.proofs.AnswerLists.{names_more}
use Rattle.clio_files.proofs.answers.push_column_names.Goals as goal

pub loop-column-init : goal.loop-column-init
loop-column-init c = (omega arith, λ h. h)

pub loop-column-preserved : goal.loop-column-preserved
loop-column-preserved c = (
  omega (arith, c.loop-column-test.true),
  λ h.
      let before = c.loop-column.invariant.1 h in
      subst (HasFields c.numbered.new.self []) (names_more c.loop-column.column)
      (c.in_ok-numbered.ensures [] (column_names 0 c.loop-column.column) before),
)

pub returns : goal.returns
returns c = λ h.
    let few = c.loop-column.invariant.0 in
    let all : c.loop-column.column ≡ c.args.width = omega (arith, few, c.loop-column-test.false) in
    c.end.ensures [] (column_names 0 c.args.width)
    (subst (λ n. HasFields c.loop-column.records [] (column_names 0 n)) all (c.loop-column.invariant.1 h))

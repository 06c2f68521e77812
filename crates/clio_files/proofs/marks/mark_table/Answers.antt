use Rattle.std.proofs.Common.{◌<◌, ◌∙◌, ◌++◌, List, ℕ, arith, length, subst, take}
use Rattle.std.specs.List.{concat}
use Rattle.std.proofs.lemmas.List.{take_all}
use Rattle.dx_instance.specs.Shown.{numbers_of_table}
use Rattle.clio_files.specs.Marks.{AreMarks}
use Rattle.clio_files.proofs.MarkFacts.{rows_marked}
use Rattle.clio_files.proofs.marks.mark_table.Goals as goal

pub loop-place-preserved : goal.loop-place-preserved
loop-place-preserved c =
    let rows = (numbers_of_table c.args.target.now.tables c.args.table).rows in
    let i = c.loop-place.place in
    let within : i < length rows = omega (arith, c.count-place-end.ensures, c.loop-place-test.true) in
    record {
      many = c.mark_row.ensures.many ∙ c.loop-place.invariant.many;
      marked = λ seen a. rows_marked c.args.first seen rows i c.row.result.now c.mark_row.new.marks.items within c.row.ensures.row
          (c.mark_row.ensures.marked (seen ++ concat (take i rows)) (c.loop-place.invariant.marked seen a));
    }

pub returns-clause-marked : goal.returns-clause-marked
returns-clause-marked c = λ seen a.
    let rows = (numbers_of_table c.args.target.now.tables c.args.table).rows in
    subst (λ (l : List (List ℕ)). AreMarks c.args.first (seen ++ concat l) c.loop-place.marks.items)
    (take_all c.loop-place.place rows (omega (arith, c.count-place-end.ensures, c.loop-place-test.false)))
    (c.loop-place.invariant.marked seen a)

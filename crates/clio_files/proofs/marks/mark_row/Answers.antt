use Rattle.std.proofs.Common.{◌<◌, ◌+◌, ◌-◌, ◌++◌, ◌∙◌, List, ℕ, true, arith, get_or, length, subst}
use Rattle.std.proofs.lemmas.List.{length-set, take_all}
use Rattle.dx_base.proofs.Members.{in_at}
use Rattle.clio_files.specs.Marks.{AreMarks}
use Rattle.clio_files.proofs.MarkFacts.{row_before, row_marked}
use Rattle.clio_files.proofs.marks.mark_row.Goals as goal
use Rattle.clio_files.proofs.marks.mark_row.Goals.{then-number-first, else-number-first}

pub index_mut-requires : goal.index_mut-requires
index_mut-requires c =
    let below : get_or c.args.row.now c.loop-number.number-index 0 < c.args.first + length c.args.marks.now.items =
    c.requires (get_or c.args.row.now c.loop-number.number-index 0)
    (in_at c.args.row.now c.loop-number.number-index 0 c.loop-number-test.true) in
    omega (arith, below, c.loop-number.invariant.many, c.loop-number.marks.ok)

pub loop-number-preserved : goal.loop-number-preserved
loop-number-preserved c =
    let row = c.args.row.now in
    let i = c.loop-number.number-index in
    let marks = c.loop-number.marks.items in
    let below : get_or row i 0 < c.args.first + length c.args.marks.now.items =
    c.requires (get_or row i 0) (in_at row i 0 c.loop-number-test.true) in
    let within : get_or row i 0 < c.args.first + length marks = omega (arith, below, c.loop-number.invariant.many) in
    elim c.if-number-first.branch [
      | then-number-first w ↦
          rw w.marks-is (record {
            many = length-set marks (get_or row i 0 - c.args.first) true ∙ c.loop-number.invariant.many;
            marked = λ seen a. row_marked c.args.first seen row i marks c.loop-number-test.true w.if-number-first.true within
                (c.loop-number.invariant.marked seen a);
          })
      | else-number-first w ↦
          rw w.marks-is (record {
            many = c.loop-number.invariant.many;
            marked = λ seen a. row_before c.args.first seen row i marks c.loop-number-test.true w.if-number-first.false
                (c.loop-number.invariant.marked seen a);
          })
    ]

pub returns-clause-marked : goal.returns-clause-marked
returns-clause-marked c = λ seen a.
    subst (λ (l : List ℕ). AreMarks c.args.first (seen ++ l) c.loop-number.marks.items)
    (take_all c.loop-number.number-index c.args.row.now (omega (arith, c.loop-number-test.false)))
    (c.loop-number.invariant.marked seen a)

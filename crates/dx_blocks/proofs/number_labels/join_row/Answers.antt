use Rattle.std.proofs.Common.{◌<◌, ◌-◌, List, ℕ, get_or, length, sym, subst, arith}
use Rattle.dx_base.specs.Members.{◌∈◌}
use Rattle.dx_base.proofs.Members.{in_at}
use Rattle.dx_instance.specs.Shown.{shown_row}
use Rattle.dx_blocks.specs.NullRows.{nulls_from}
use Rattle.dx_blocks.proofs.Labelling.{row_start}
use Rattle.dx_blocks.proofs.NumberLabelling.{number_joined, number_passed, numbers_joined, row_with_number}
use Rattle.dx_blocks.proofs.number_labels.join_row.Goals as goal
use Rattle.dx_blocks.proofs.number_labels.join_row.Goals.{then-number-first, else-number-first}

pub row-row-requires-clause-table : goal.row-row-requires-clause-table
row-row-requires-clause-table c = (row_with_number c.args.numbers.now c.args.at c.args.one c.requires.one.0).table

pub row-row-requires-clause-place : goal.row-row-requires-clause-place
row-row-requires-clause-place c = (row_with_number c.args.numbers.now c.args.at c.args.one c.requires.one.0).place

pub loop-number-init : goal.loop-number-init
loop-number-init c =
    row_start (nulls_from c.args.numbers.now c.args.first) (shown_row c.args.numbers.now.symbols c.row-row.result.now) (c.args.one - c.args.first)
    c.args.parents.now c.requires.forest.falls

pub join-requires-clause-falls : goal.join-requires-clause-falls
join-requires-clause-falls c = c.loop-number.invariant.falls

pub join-requires-clause-a : goal.join-requires-clause-a
join-requires-clause-a c =
    let there : c.args.one ∈ c.row-row.result.now = subst (λ (r : List ℕ). c.args.one ∈ r) (sym c.row-row.ensures.row) c.requires.one.0 in
    omega (arith, c.row-row.ensures.below c.args.one there, c.loop-number.invariant.many, c.requires.forest.many, c.requires.one.1)

pub join-requires-clause-b : goal.join-requires-clause-b
join-requires-clause-b c =
    let below : get_or c.row-row.result.now c.loop-number.number-index 0 < length c.args.numbers.now.symbols =
    c.row-row.ensures.below (get_or c.row-row.result.now c.loop-number.number-index 0)
    (in_at c.row-row.result.now c.loop-number.number-index 0 c.loop-number-test.true) in
    omega (arith, below, c.loop-number.invariant.many, c.requires.forest.many, c.if-number-first.true)

pub loop-number-preserved : goal.loop-number-preserved
loop-number-preserved c = elim c.if-number-first.branch [
  | then-number-first w ↦ rw w.parents-is
      (number_joined c.args.numbers.now c.args.first c.args.one c.row-row.result.now c.requires.first c.row-row.ensures.below c.args.parents.now
      c.loop-number.parents c.loop-number.number-index c.loop-number-test.true c.loop-number.invariant w.join.new.parents
      (subst (λ (r : List ℕ). c.args.one ∈ r) (sym c.row-row.ensures.row) c.requires.one.0) c.requires.one.1 w.if-number-first.true w.join.ensures)
  | else-number-first w ↦ rw w.parents-is
      (number_passed c.args.numbers.now c.args.first c.args.one c.row-row.result.now c.requires.first c.row-row.ensures.below c.args.parents.now
      c.loop-number.parents c.loop-number.number-index c.loop-number-test.true c.loop-number.invariant (omega (arith, w.if-number-first.false)))
]

pub returns : goal.returns
returns c =
    numbers_joined c.args.numbers.now c.args.first (c.args.one - c.args.first) c.loop-number.number-index c.args.at c.row-row.result.now
    c.args.parents.now c.loop-number.parents (row_with_number c.args.numbers.now c.args.at c.args.one c.requires.one.0) c.row-row.ensures.row c.loop-number-test.false c.loop-number.invariant

use Rattle.std.proofs.Common.{◌≡◌, ◌∙◌, ◌<◌, ℕ, List, length, get_or}
use Rattle.std.proofs.lemmas.List.{get_or_default, length-map}
use Rattle.dx_base.specs.Members.{Each}
use Rattle.dx_base.proofs.Members.{in_at}
use Rattle.dx_instance.specs.Shown.{NumberedInstance}
use Rattle.dx_blocks.specs.declared.numbered.At.{At}
use Rattle.dx_blocks.specs.Numbered.{IsRowIn, fact_of}
use Rattle.dx_blocks.specs.NullRows.{facts_of, nulls_from}
use Rattle.dx_blocks.proofs.Labelling.{all_start, all_joined}
use Rattle.dx_blocks.proofs.NumberLabelling.{at_joined, at_passed, no_nulls}
use Rattle.dx_blocks.proofs.number_labels.join_all.Goals as goal
use Rattle.dx_blocks.proofs.number_labels.join_all.Goals.{in-Some, in_default}

abbrev item : List At → ℕ → At
item rows i = get_or rows i (record { table = 0; place = 0 })

there_is : (N : NumberedInstance) (rows : List At) (i : ℕ) → Each rows (IsRowIn N) → i < length rows → IsRowIn N (item rows i)
there_is N rows i r h = r (item rows i) (in_at rows i (record { table = 0; place = 0 }) h)

item_is : (rows : List At) (i : ℕ) → i < length rows → item rows i ≡ get_or rows i (item rows i)
item_is rows i h = get_or_default rows i (record { table = 0; place = 0 }) (item rows i) h

pub loop-at-init : goal.loop-at-init
loop-at-init c =
    all_start (facts_of c.args.numbers.now c.args.rows.now) (nulls_from c.args.numbers.now c.args.first) c.args.parents.now c.requires.forest.falls

pub row-requires-clause-table : goal.row-requires-clause-table
row-requires-clause-table c = (there_is c.args.numbers.now c.args.rows.now c.loop-at.at-index c.requires.rows c.loop-at-test.true).table

pub row-requires-clause-place : goal.row-requires-clause-place
row-requires-clause-place c = (there_is c.args.numbers.now c.args.rows.now c.loop-at.at-index c.requires.rows c.loop-at-test.true).place

pub join_row-requires-clause-forest : goal.join_row-requires-clause-forest
join_row-requires-clause-forest c = record {
  many = c.loop-at.invariant.many ∙ c.requires.forest.many;
  falls = c.loop-at.invariant.falls;
}

pub loop-at-preserved : goal.loop-at-preserved
loop-at-preserved c =
    let r = there_is c.args.numbers.now c.args.rows.now c.loop-at.at-index c.requires.rows c.loop-at-test.true in
    let e = item_is c.args.rows.now c.loop-at.at-index c.loop-at-test.true in
    elim c.match-null_in.branch [
      | in-Some w ↦ rw w.parents-is
          (at_joined c.args.numbers.now (nulls_from c.args.numbers.now c.args.first) c.args.rows.now c.args.parents.now c.loop-at.parents
          c.loop-at.at-index (item c.args.rows.now c.loop-at.at-index) c.loop-at-test.true e c.loop-at.invariant w.join_row.new.parents
          w.join_row.ensures)
      | in_default w ↦ rw w.parents-is
          (at_passed c.args.numbers.now (nulls_from c.args.numbers.now c.args.first) c.args.rows.now c.args.parents.now c.loop-at.parents
          c.loop-at.at-index (item c.args.rows.now c.loop-at.at-index) c.loop-at-test.true e c.loop-at.invariant
          (no_nulls c.args.numbers.now c.args.first (item c.args.rows.now c.loop-at.at-index) c.requires.first r
          (rw c.row.ensures.row at w.in_default.ensures.none)))
    ]

pub returns : goal.returns
returns c =
    all_joined (facts_of c.args.numbers.now c.args.rows.now) (nulls_from c.args.numbers.now c.args.first) c.loop-at.at-index c.args.parents.now
    c.loop-at.parents (rw (length-map c.args.rows.now (fact_of c.args.numbers.now)) c.loop-at-test.false) c.loop-at.invariant

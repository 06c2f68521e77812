use Rattle.std.proofs.Common.{◌∙◌, ◌<◌, ◌^◌, [], arith, sym, length, get_or}
use Rattle.std.proofs.lemmas.Bool.{true≢false}
use Rattle.dx_base.proofs.Members.{in_at, only_one}
use Rattle.dx_model.specs.Tables.{cell, values_in}
use Rattle.dx_instance.specs.Stored.{rows_of, table_at}
use Rattle.dx_instance.specs.Places.{row_at, value_at}
use Rattle.dx_instance.proofs.PlaceFacts.{none_more}
use Rattle.dx_holds.proofs.Agreeing.{agree_at, none_on, row_has_table, some_column}
use Rattle.dx_holds.proofs.columns.Seen.next_like.Goals as goal

pub cell-value-requires-clause-column : goal.cell-value-requires-clause-column
cell-value-requires-clause-column c =
    c.args.self.now.within _ (in_at c.args.self.now.columns.now c.indexed_among-at.result 0 (omega (arith, c.requires.lengths, c.indexed_among-at.ensures)))

pub cell-value-requires-clause-table : goal.cell-value-requires-clause-table
cell-value-requires-clause-table c = row_has_table c.args.self.now.instance.now c.args.self.now.table c.args.self.now.place c.args.self.now.stands

pub indexed_among-at-requires-clause-some : goal.indexed_among-at-requires-clause-some
indexed_among-at-requires-clause-some c = some_column c.args.columns.now c.is_empty.result c.is_empty.ensures c.if-is_empty.false

pub with_columns-requires-in-loop-place-clause-columns : goal.with_columns-requires-in-loop-place-clause-columns
with_columns-requires-in-loop-place-clause-columns c = λ k m.
    only_one _ (get_or c.args.columns.now c.indexed_among-at.result 0) k (rw c.from_ref.ensures.value at m) (c.requires.columns _ (in_at c.args.columns.now c.indexed_among-at.result 0 c.indexed_among-at.ensures))

pub returns-then-agrees : goal.returns-then-agrees
returns-then-agrees c =
    let next = rw (c.from_ref.ensures.value, c.from_ref-in-loop-place.ensures.value) at c.in-Some.ensures in (
      omega (arith, c.loop-place.invariant.later, next.0),
      next.1,
      none_on c.args.self.now.instance.now c.args.table c.args.columns.now (values_in c.args.self.now.columns.now (row_at c.args.self.now.instance.now c.args.self.now.table c.args.self.now.place)) c.args.from c.loop-place.next c.in-Some.place (get_or c.args.columns.now c.indexed_among-at.result 0) c.cell-value.result.now
          (λ p q. agree_at (value_at c.args.self.now.instance.now c.args.table p) (cell (row_at c.args.self.now.instance.now c.args.self.now.table c.args.self.now.place)) c.args.columns.now c.args.self.now.columns.now c.indexed_among-at.result c.indexed_among-at.ensures c.requires.lengths q ∙ sym c.cell-value.ensures)
          c.loop-place.invariant.none next.2,
      c.agrees.ensures.0 c.if-agrees.true,
    )

pub overflow_add-next : goal.overflow_add-next
overflow_add-next c =
    let few : length (rows_of c.args.self.now.instance.now c.args.table) < 2 ^ 32 = c.tables.ensures.few (table_at c.args.self.now.instance.now c.args.table) (in_at c.args.self.now.instance.now c.args.table (record { width = 0; rows = [] }) c.requires.table) in
    omega (arith, few, c.in-Some.ensures.1)

pub loop-place-preserved : goal.loop-place-preserved
loop-place-preserved c =
    let next = rw (c.from_ref.ensures.value, c.from_ref-in-loop-place.ensures.value) at c.in-Some.ensures in
    record {
      later = omega (arith, c.loop-place.invariant.later, next.0);
      none = none_more c.args.self.now.instance.now c.args.table c.args.columns.now (values_in c.args.self.now.columns.now (row_at c.args.self.now.instance.now c.args.self.now.table c.args.self.now.place)) c.args.from c.in-Some.place
          (none_on c.args.self.now.instance.now c.args.table c.args.columns.now (values_in c.args.self.now.columns.now (row_at c.args.self.now.instance.now c.args.self.now.table c.args.self.now.place)) c.args.from c.loop-place.next c.in-Some.place (get_or c.args.columns.now c.indexed_among-at.result 0) c.cell-value.result.now
          (λ p q. agree_at (value_at c.args.self.now.instance.now c.args.table p) (cell (row_at c.args.self.now.instance.now c.args.self.now.table c.args.self.now.place)) c.args.columns.now c.args.self.now.columns.now c.indexed_among-at.result c.indexed_among-at.ensures c.requires.lengths q ∙ sym c.cell-value.ensures)
          c.loop-place.invariant.none next.2)
          (λ q. true≢false (sym (c.agrees.ensures.1 q) ∙ c.if-agrees.false));
    }

pub returns : goal.returns
returns c =
    let last = rw (c.in_default.is, c.from_ref.ensures.value, c.from_ref-in-loop-place.ensures.value) at c.with_columns-in-loop-place.ensures in
    none_on c.args.self.now.instance.now c.args.table c.args.columns.now (values_in c.args.self.now.columns.now (row_at c.args.self.now.instance.now c.args.self.now.table c.args.self.now.place)) c.args.from c.loop-place.next (length (rows_of c.args.self.now.instance.now c.args.table)) (get_or c.args.columns.now c.indexed_among-at.result 0) c.cell-value.result.now
    (λ p q. agree_at (value_at c.args.self.now.instance.now c.args.table p) (cell (row_at c.args.self.now.instance.now c.args.self.now.table c.args.self.now.place)) c.args.columns.now c.args.self.now.columns.now c.indexed_among-at.result c.indexed_among-at.ensures c.requires.lengths q ∙ sym c.cell-value.ensures)
    c.loop-place.invariant.none last

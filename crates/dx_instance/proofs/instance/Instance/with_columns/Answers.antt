use Rattle.std.proofs.Common.{◌∙◌, ◌<◌, get_or, arith}
use Rattle.std.proofs.Common.{sym}
use Rattle.std.proofs.lemmas.Bool.{true≢false}
use Rattle.dx_base.proofs.Members.{in_at}
use Rattle.dx_instance.specs.Stored.{table_at}
use Rattle.dx_instance.proofs.PlaceFacts.{at_has, few_read, next_value, none_further, none_more, value_known, width_read}
use Rattle.dx_instance.proofs.instance.Instance.with_columns.Goals as goal

pub returns-in_default : goal.returns-in_default
returns-in_default c p g b q =
    let at = c.indexed_among-at.result in
    let col = get_or c.args.columns.now at 0 in
    let w : col < (table_at c.args.self.now c.args.table).width = c.requires.columns col (in_at c.args.columns.now at 0 c.indexed_among-at.ensures) in
    c.in_default.ensures (value_known c.self.inside.symbols c.self.inside.tables.items c.args.self.now c.args.table p col c.index-values-at.result c.self.invariant c.self.view_is c.requires.table b w
    (at_has c.args.self.now c.args.table p at c.args.columns.now c.args.values.now c.index-values-at.result c.indexed_among-at.ensures c.requires.lengths c.index-values-at.is q))

pub next_with-requires : goal.next_with-requires
next_with-requires c =
    let at = c.indexed_among-at.result in
    let col = get_or c.args.columns.now at 0 in
    let w : col < (table_at c.args.self.now c.args.table).width = c.requires.columns col (in_at c.args.columns.now at 0 c.indexed_among-at.ensures) in
    omega (arith, w, width_read c.self.inside.symbols c.self.inside.tables.items c.args.self.now c.args.table c.index-rows.result.now c.self.view_is c.requires.table c.index-rows.ensures)

pub returns-then-has_values : goal.returns-then-has_values
returns-then-has_values c =
    let at = c.indexed_among-at.result in
    let col = get_or c.args.columns.now at 0 in
    let w : col < (table_at c.args.self.now c.args.table).width = c.requires.columns col (in_at c.args.columns.now at 0 c.indexed_among-at.ensures) in
    let next = rw c.in-Some-next_with.is at (next_value c.self.inside.symbols c.self.inside.tables.items c.args.self.now c.args.table col c.in-Some.number c.loop-place.next c.index-rows.result.now c.index-values-at.result c.next_with.result c.self.invariant c.self.view_is c.requires.table c.index-rows.ensures w c.in-Some.ensures c.next_with.ensures) in
    (omega (arith, c.loop-place.invariant.later, next.0), next.1, none_further c.args.self.now c.args.table c.args.columns.now c.args.values.now at c.args.from c.loop-place.next c.in-Some-next_with.place c.index-values-at.result c.indexed_among-at.ensures c.requires.lengths c.index-values-at.is c.loop-place.invariant.none next.3, c.has_values.ensures.0 c.if-has_values.true)

pub overflow_add-next : goal.overflow_add-next
overflow_add-next c =
    let few = few_read c.self.inside.symbols c.self.inside.tables.items c.args.self.now c.args.table c.index-rows.result.now c.self.invariant c.self.view_is c.requires.table c.index-rows.ensures in
    omega (arith, few, c.in-Some-next_with.ensures.1)

pub loop-place-preserved : goal.loop-place-preserved
loop-place-preserved c =
    let at = c.indexed_among-at.result in
    let col = get_or c.args.columns.now at 0 in
    let w : col < (table_at c.args.self.now c.args.table).width = c.requires.columns col (in_at c.args.columns.now at 0 c.indexed_among-at.ensures) in
    let next = rw c.in-Some-next_with.is at (next_value c.self.inside.symbols c.self.inside.tables.items c.args.self.now c.args.table col c.in-Some.number c.loop-place.next c.index-rows.result.now c.index-values-at.result c.next_with.result c.self.invariant c.self.view_is c.requires.table c.index-rows.ensures w c.in-Some.ensures c.next_with.ensures) in
    record {
      later = omega (arith, c.loop-place.invariant.later, next.0);
      none = none_more c.args.self.now c.args.table c.args.columns.now c.args.values.now c.args.from c.in-Some-next_with.place (none_further c.args.self.now c.args.table c.args.columns.now c.args.values.now at c.args.from c.loop-place.next c.in-Some-next_with.place c.index-values-at.result c.indexed_among-at.ensures c.requires.lengths c.index-values-at.is c.loop-place.invariant.none next.3) (λ q. true≢false (sym (c.has_values.ensures.1 q) ∙ c.if-has_values.false));
    }

pub returns : goal.returns
returns c =
    let at = c.indexed_among-at.result in
    let col = get_or c.args.columns.now at 0 in
    let w : col < (table_at c.args.self.now c.args.table).width = c.requires.columns col (in_at c.args.columns.now at 0 c.indexed_among-at.ensures) in
    let next = next_value c.self.inside.symbols c.self.inside.tables.items c.args.self.now c.args.table col c.in-Some.number c.loop-place.next c.index-rows.result.now c.index-values-at.result c.next_with.result c.self.invariant c.self.view_is c.requires.table c.index-rows.ensures w c.in-Some.ensures c.next_with.ensures in
    none_further c.args.self.now c.args.table c.args.columns.now c.args.values.now at c.args.from c.loop-place.next _ c.index-values-at.result c.indexed_among-at.ensures c.requires.lengths c.index-values-at.is c.loop-place.invariant.none
    (rw c.in_default-next_with.is at next)

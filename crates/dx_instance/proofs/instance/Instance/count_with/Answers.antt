use Rattle.std.proofs.Common.{refl, arith}
use Rattle.dx_instance.proofs.PlaceFacts.{next_value, few_read, counted, counted_all, value_known}
use Rattle.dx_instance.proofs.instance.Instance.count_with.Goals as goal

pub returns-in_default : goal.returns-in_default
returns-in_default c =
    counted_all c.args.self.now c.args.table c.args.column 0 c.args.value.now 0 refl (omega arith) (λ p g b e. c.in_default.ensures (value_known c.self.inside.symbols c.self.inside.tables.items c.args.self.now c.args.table p c.args.column c.args.value.now
    c.self.invariant c.self.view_is c.requires.table b c.requires.column e))

pub overflow_add-next : goal.overflow_add-next
overflow_add-next c =
    let few = few_read c.self.inside.symbols c.self.inside.tables.items c.args.self.now c.args.table c.index-rows.result.now c.self.invariant c.self.view_is c.requires.table c.index-rows.ensures in
    omega (arith, few, c.in-Some-next_with.ensures.1)

pub overflow_add-count : goal.overflow_add-count
overflow_add-count c =
    let few = few_read c.self.inside.symbols c.self.inside.tables.items c.args.self.now c.args.table c.index-rows.result.now c.self.invariant c.self.view_is c.requires.table c.index-rows.ensures in
    omega (arith, few, c.in-Some-next_with.ensures.1, c.in-Some-next_with.ensures.0, c.loop-place.invariant.few)

pub loop-place-preserved : goal.loop-place-preserved
loop-place-preserved c =
    let next = rw c.in-Some-next_with.is at (next_value c.self.inside.symbols c.self.inside.tables.items c.args.self.now c.args.table c.args.column c.in-Some.number c.loop-place.next c.index-rows.result.now c.args.value.now c.next_with.result c.self.invariant c.self.view_is c.requires.table c.index-rows.ensures c.requires.column c.in-Some.ensures c.next_with.ensures) in
    record {
      is = counted c.args.self.now c.args.table c.args.column c.loop-place.next c.in-Some-next_with.place c.args.value.now c.loop-place.count c.loop-place.invariant.is next;
      few = omega (arith, c.loop-place.invariant.few, next.0);
      within = omega (arith, next.1);
    }

pub returns : goal.returns
returns c =
    let next = next_value c.self.inside.symbols c.self.inside.tables.items c.args.self.now c.args.table c.args.column c.in-Some.number c.loop-place.next c.index-rows.result.now c.args.value.now c.next_with.result c.self.invariant c.self.view_is c.requires.table c.index-rows.ensures c.requires.column c.in-Some.ensures c.next_with.ensures in
    counted_all c.args.self.now c.args.table c.args.column c.loop-place.next c.args.value.now c.loop-place.count c.loop-place.invariant.is c.loop-place.invariant.within (rw c.in_default-next_with.is at next)

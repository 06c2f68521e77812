use Rattle.std.proofs.Common.{◌≡◌, suc, length, ◌∙◌, ◌++◌, sym, ap, [], arith, slice_set}
use Rattle.std.proofs.lemmas.List.{get_or_read}
use Rattle.dx_chase.proofs.SlotFacts.{fits_one_more, slots_are_new, slot_is_new, slot_in, some_in_slot, slot_changes, in_slots_of}
use Rattle.dx_chase.proofs.members.Members.append.Goals as goal

pub overflow_cast-len : goal.overflow_cast-len
overflow_cast-len c =
    let e = get_or_read c.self.inside.slots.items c.args.v c.index-slot.result.now (in_slots_of c.args.self.now c.self.inside.lists.items c.self.inside.slots.items c.args.v (sym c.self.view_is) c.requires) c.index-slot.ensures 0 in
    let f = fits_one_more c.args.self.now c.self.inside.lists.items c.self.inside.slots.items c.args.v c.index-slot.result.now (sym c.self.view_is) c.self.invariant c.requires e c.if-slot-eq0.true in
    let o = c.self.inside.lists.ok.0 in
    let l = c.len.ensures in
    let p = c.in_ok-push.ensures.len in
    omega (arith, f, o, l, p)

pub index_mut-requires-2 : goal.index_mut-requires-2
index_mut-requires-2 c =
    let e = get_or_read c.self.inside.slots.items c.args.v c.index-slot.result.now (in_slots_of c.args.self.now c.self.inside.lists.items c.self.inside.slots.items c.args.v (sym c.self.view_is) c.requires) c.index-slot.ensures 0 in
    rw c.self.inside.lists.ok.0 (slot_in c.args.self.now c.self.inside.lists.items c.self.inside.slots.items c.args.v c.index-slot.result.now (sym c.self.view_is) c.self.invariant c.requires e c.if-slot-eq0.false)

pub invariant_of-self-then-slot-eq0 : goal.invariant_of-self-then-slot-eq0
invariant_of-self-then-slot-eq0 c =
    let e = get_or_read c.self.inside.slots.items c.args.v c.index-slot.result.now (in_slots_of c.args.self.now c.self.inside.lists.items c.self.inside.slots.items c.args.v (sym c.self.view_is) c.requires) c.index-slot.ensures 0 in
    let n : c.len.result ≡ suc (length c.self.inside.lists.items) = (let o = c.self.inside.lists.ok.0 in let l = c.len.ensures in let p = c.in_ok-push.ensures.len in omega (arith, o, l, p)) in
    rw (c.in_ok-push.ensures.items, n)
    (slots_are_new c.args.self.now c.self.inside.lists.items c.self.inside.slots.items c.args.v c.index-slot.result.now (sym c.self.view_is) c.self.invariant c.requires e c.if-slot-eq0.true c.in_ok-list.list)

pub returns-then-slot-eq0 : goal.returns-then-slot-eq0
returns-then-slot-eq0 c =
    let e = get_or_read c.self.inside.slots.items c.args.v c.index-slot.result.now (in_slots_of c.args.self.now c.self.inside.lists.items c.self.inside.slots.items c.args.v (sym c.self.view_is) c.requires) c.index-slot.ensures 0 in
    let n : c.len.result ≡ suc (length c.self.inside.lists.items) = (let o = c.self.inside.lists.ok.0 in let l = c.len.ensures in let p = c.in_ok-push.ensures.len in omega (arith, o, l, p)) in
    rw (c.in_ok-push.ensures.items, n, sym c.in_ok-list.ensures)
    (slot_is_new c.args.self.now c.self.inside.lists.items c.self.inside.slots.items c.args.v c.index-slot.result.now (sym c.self.view_is) c.self.invariant c.requires e c.if-slot-eq0.true c.in_ok-list.list)

pub returns : goal.returns
returns c =
    let e = get_or_read c.self.inside.slots.items c.args.v c.index-slot.result.now (in_slots_of c.args.self.now c.self.inside.lists.items c.self.inside.slots.items c.args.v (sym c.self.view_is) c.requires) c.index-slot.ensures 0 in
    let l = slot_in c.args.self.now c.self.inside.lists.items c.self.inside.slots.items c.args.v c.index-slot.result.now (sym c.self.view_is) c.self.invariant c.requires e c.if-slot-eq0.false in
    let was = get_or_read c.self.inside.lists.items _ c.index_mut-2.result.now l c.index_mut-2.ensures.value []
    ∙ sym (some_in_slot c.args.self.now c.self.inside.lists.items c.self.inside.slots.items c.args.v c.index-slot.result.now (sym c.self.view_is) c.self.invariant c.requires e c.if-slot-eq0.false) in
    slot_changes c.args.self.now c.self.inside.lists.items c.self.inside.slots.items c.args.v c.index-slot.result.now (sym c.self.view_is) c.self.invariant c.requires e c.if-slot-eq0.false c.append.new.list
    ∙ ap (slice_set c.args.self.now c.args.v) (c.in_ok-append.ensures ∙ ap (λ z. z ++ c.args.more.now) was)

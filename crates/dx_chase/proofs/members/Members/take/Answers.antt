use Rattle.std.proofs.Common.{◌∙◌, sym, ap, [], slice_set}
use Rattle.std.proofs.lemmas.List.{get_or_read}
use Rattle.dx_chase.proofs.SlotFacts.{length_lists, lists_stay, none_in_slot, slot_in, some_in_slot, slot_changes, in_slots_of}
use Rattle.dx_chase.proofs.members.Members.take.Goals as goal

pub returns-then-slot-eq0-clause-rest : goal.returns-then-slot-eq0-clause-rest
returns-then-slot-eq0-clause-rest c =
    let e = get_or_read c.self.inside.slots.items c.args.v c.index-slot.result.now (in_slots_of c.args.self.now c.self.inside.lists.items c.self.inside.slots.items c.args.v (sym c.self.view_is) c.requires) c.index-slot.ensures 0 in
    lists_stay c.args.self.now c.args.v [] (none_in_slot c.args.self.now c.self.inside.lists.items c.self.inside.slots.items c.args.v c.index-slot.result.now (sym c.self.view_is) c.self.invariant c.requires e c.if-slot-eq0.true)

pub index_mut-requires : goal.index_mut-requires
index_mut-requires c =
    let e = get_or_read c.self.inside.slots.items c.args.v c.index-slot.result.now (in_slots_of c.args.self.now c.self.inside.lists.items c.self.inside.slots.items c.args.v (sym c.self.view_is) c.requires) c.index-slot.ensures 0 in
    rw c.self.inside.lists.ok.0 (slot_in c.args.self.now c.self.inside.lists.items c.self.inside.slots.items c.args.v c.index-slot.result.now (sym c.self.view_is) c.self.invariant c.requires e c.if-slot-eq0.false)

pub returns-clause-list : goal.returns-clause-list
returns-clause-list c =
    let e = get_or_read c.self.inside.slots.items c.args.v c.index-slot.result.now (in_slots_of c.args.self.now c.self.inside.lists.items c.self.inside.slots.items c.args.v (sym c.self.view_is) c.requires) c.index-slot.ensures 0 in
    let l = slot_in c.args.self.now c.self.inside.lists.items c.self.inside.slots.items c.args.v c.index-slot.result.now (sym c.self.view_is) c.self.invariant c.requires e c.if-slot-eq0.false in
    c.replace.ensures.value ∙ get_or_read c.self.inside.lists.items _ c.index_mut.result.now l c.index_mut.ensures.value []
    ∙ sym (some_in_slot c.args.self.now c.self.inside.lists.items c.self.inside.slots.items c.args.v c.index-slot.result.now (sym c.self.view_is) c.self.invariant c.requires e c.if-slot-eq0.false)

pub returns-clause-rest : goal.returns-clause-rest
returns-clause-rest c =
    let e = get_or_read c.self.inside.slots.items c.args.v c.index-slot.result.now (in_slots_of c.args.self.now c.self.inside.lists.items c.self.inside.slots.items c.args.v (sym c.self.view_is) c.requires) c.index-slot.ensures 0 in
    rw (c.replace.ensures.after, c.new-2.ensures)
    (slot_changes c.args.self.now c.self.inside.lists.items c.self.inside.slots.items c.args.v c.index-slot.result.now (sym c.self.view_is) c.self.invariant c.requires e c.if-slot-eq0.false [])

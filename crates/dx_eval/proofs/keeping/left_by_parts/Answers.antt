use Rattle.std.proofs.Common.{ℕ, List, length, refl, subst, take}
use Rattle.dx_base.proofs.Loops.{each_item}
use Rattle.dx_instance.specs.Shown.{numbers_of_table}
use Rattle.dx_eval.specs.Keeping.{LacksPartner, LacksPartners, KeepsPlaces, PartStands}
use Rattle.dx_eval.proofs.Partners.{left_within, parts_all, parts_more, parts_none}
use Rattle.dx_eval.proofs.keeping.left_by_parts.Goals as goal

pub loop-part-init : goal.loop-part-init
loop-part-init c = parts_none c.args.of.now.symbols.now c.args.of.now.tables.now c.args.of.now.rule c.args.places.items

pub left_by_part-requires-clause-places : goal.left_by_part-requires-clause-places
left_by_part-requires-clause-places c =
    rw c.deref.ensures.value (left_within (LacksPartners c.args.of.now.symbols.now c.args.of.now.tables.now c.args.of.now.rule (take c.loop-part.part-index c.args.unless.now)) (length (numbers_of_table c.args.of.now.tables.now c.args.of.now.rule).rows) c.args.places.items
    c.loop-part.left.items c.requires.places c.loop-part.invariant)

pub left_by_part-requires-clause-stands : goal.left_by_part-requires-clause-stands
left_by_part-requires-clause-stands c = each_item (PartStands c.args.of.now.tables.now c.args.of.now.rule) c.args.unless.now c.loop-part.part-index c.part-item.result c.loop-part-test.true c.part-item.is c.requires.stand

pub loop-part-preserved : goal.loop-part-preserved
loop-part-preserved c =
    let S = c.args.of.now.symbols.now in
    let ts = c.args.of.now.tables.now in
    let r = c.args.of.now.rule in
    let u = c.part-item.result in
    let own = numbers_of_table ts r in
    let other = numbers_of_table ts u.rule in
    parts_more S ts r c.args.unless.now c.loop-part.part-index u own other c.args.places.items c.loop-part.left.items c.in_ok-left.left.items c.loop-part-test.true c.part-item.is refl refl c.loop-part.invariant
    (subst (λ (ps : List ℕ). KeepsPlaces (LacksPartner S own.rows other.rows u.tests) ps c.in_ok-left.left.items) c.deref.ensures.value c.in_ok-left.ensures)

pub returns : goal.returns
returns c = parts_all c.args.of.now.symbols.now c.args.of.now.tables.now c.args.of.now.rule c.loop-part.part-index c.args.unless.now c.args.places.items c.loop-part.left.items c.loop-part-test.false c.loop-part.invariant

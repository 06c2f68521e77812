use Rattle.std.proofs.Common.{◌≡◌, ◌++◌, ◌+◌, suc, refl, sym, ap, ◌∙◌, arith, rules, drop, option_map, Some, decimal}
use Rattle.dx_json.specs.View.{view, items_view, members_view}
use Rattle.dx_schema.specs.Forest.{forest_of, forest_size}
use Rattle.dx_schema.proofs.Preorder.{count_below, forest_size-inner}
use Rattle.serde_json.specs.Find.{get_member}
use Rattle.dx_json.specs.declared.fault.JsonKind.TheVariants as kind
use Rattle.dx_json.specs.declared.place.Place.{Place}
use Rattle.dx_schema.specs.Tables.{count}
use Rattle.dx_json.specs.Said.{path_below, member_says, item_says, items_say, object_says, sets_say}
use Rattle.dx_json.specs.Documents.{first_fault}
use Rattle.dx_json.proofs.Steps.{added_more, columns_next, count_at, fails_left, items_left, no_object, none_there, refused, set_says, sets_left, unknown_first}
use Rattle.dx_json.proofs.shredding.+walk.Goals as goal

pub push_items-returns-in_err-push_item-clause-fault : goal.push_items-returns-in_err-push_item-clause-fault
push_items-returns-in_err-push_item-clause-fault t c =
    let l = c.args.list.now.tree.now.label in
    let inner = c.args.list.now.tree.now.inner in
    let at = c.args.list.now.at.now in
    let k = c.loop-k.k in
    let v = c.index-items-k.result in
    let all = items_say l inner (sets_say inner) at 0 (items_view c.args.items.now) in
    let left = items_left l inner (sets_say inner) at c.args.items.now k v c.loop-k-test.true c.index-items-k.is in
    refused c.from_residual.result c.in_err-push_item.field-0.0 all c.from_residual.ensures.1
    (fails_left c.in_err-push_item.field-0.0 c.args.out.now c.loop-k.out all _ (item_says l inner (sets_say inner) at k (view v)) _ c.loop-k.invariant left c.in_err-push_item.ensures.fault)

pub push_items-loop-k-preserved : goal.push_items-loop-k-preserved
push_items-loop-k-preserved t c =
    let l = c.args.list.now.tree.now.label in
    let inner = c.args.list.now.tree.now.inner in
    let at = c.args.list.now.at.now in
    let k = c.loop-k.k in
    let v = c.index-items-k.result in
    let left = items_left l inner (sets_say inner) at c.args.items.now k v c.loop-k-test.true c.index-items-k.is in
    added_more c.args.out.now c.loop-k.out c.push_item.new.out _ _ (item_says l inner (sets_say inner) at k (view v)) _ c.loop-k.invariant left c.in_ok-push_item.ensures.ok

pub push_item-returns-in_default-clause-fault : goal.push_item-returns-in_default-clause-fault
push_item-returns-in_default-clause-fault t c =
    let l = c.args.list.now.tree.now.label in
    let inner = c.args.list.now.tree.now.inner in
    let at = c.args.list.now.at.now in
    let k = c.args.k in
    let path : c.in_ok-path.path ≡ path_below at.path (decimal k) = search rules in
    let none = none_there c.as_object.result (λ m. members_view m.now) _ c.in_default.not-Some c.as_object.ensures in
    ap first_fault (no_object l inner (sets_say inner) at k (view c.args.item.now) none) ∙ ap (λ p. Some (kind.Shape p)) (sym path)

pub push_object-returns-in_err-check_members-clause-fault : goal.push_object-returns-in_err-check_members-clause-fault
push_object-returns-in_err-check_members-clause-fault t c =
    let l = c.args.list.now.tree.now.label in
    let inner = c.args.list.now.tree.now.inner in
    let ms = members_view c.args.members.now in
    refused c.from_residual.result c.in_err-check_members.field-0.0 (object_says l inner (sets_say inner) c.args.list.now.at.now c.args.k ms) c.from_residual.ensures.1
    (unknown_first l inner (sets_say inner) c.args.list.now.at.now c.args.k ms c.args.path c.in_err-check_members.field-0.0 c.requires.path c.in_err-check_members.ensures.fault)

pub push_object-returns-in_err-row-clause-fault : goal.push_object-returns-in_err-row-clause-fault
push_object-returns-in_err-row-clause-fault t c =
    let l = c.args.list.now.tree.now.label in
    let inner = c.args.list.now.tree.now.inner in
    let ms = members_view c.args.members.now in
    refused c.from_residual-in_err-row.result c.in_err-row.field-0.0 (object_says l inner (sets_say inner) c.args.list.now.at.now c.args.k ms) c.from_residual-in_err-row.ensures.1
    (columns_next l inner (sets_say inner) c.args.list.now.at.now c.args.k ms c.args.path c.in_err-row.field-0.0 c.requires.path c.in_ok-check_members.ensures.ok c.in_err-row.ensures.fault)

pub push_sets-invariant_of-list-clause-few : goal.push_sets-invariant_of-list-clause-few
push_sets-invariant_of-list-clause-few t c =
    let s = c.inner-item.result in
    let fewer = count_below c.items-inner-items.result.now c.loop-inner.inner-index s s.inner c.args.sets.now c.loop-inner-test.true c.inner-item.is refl c.items-inner-items.ensures in
    omega (arith, fewer, c.requires.few)

pub push_sets-invariant_of-list-clause-room : goal.push_sets-invariant_of-list-clause-room
push_sets-invariant_of-list-clause-room t c =
    let s = c.inner-item.result in
    let counted = count_at c.items-inner-items.result.now c.loop-inner.inner-index s s.inner c.loop-inner-test.true c.inner-item.is refl in
    omega (arith, counted, c.loop-inner.invariant.room, c.requires.room)

pub push_sets-push_member-requires : goal.push_sets-push_member-requires
push_sets-push_member-requires t c =
    let ts = c.items-inner-items.result.now in
    let smaller = forest_size-inner ts c.loop-inner.inner-index c.inner-item.result c.loop-inner-test.true c.inner-item.is in
    (omega (arith, smaller, ap forest_size c.items-inner-items.ensures, c.decreases), tt)

pub push_sets-returns-in_err-push_member-clause-fault : goal.push_sets-returns-in_err-push_member-clause-fault
push_sets-returns-in_err-push_member-clause-fault t c =
    let at = c.args.at.now in
    let ms = members_view c.args.members.now in
    let ts = c.items-inner-items.result.now in
    let s = c.inner-item.result in
    let place : Place = record { table = c.loop-inner.table; up = c.in_ok-copy_of.field-0; path = c.in_ok-path_below.field-0 } in
    let rest = sets_say (forest_of (drop (c.loop-inner.inner-index + 1) ts)) (record { table = suc (c.loop-inner.table + count s.inner); up = at.up; path = at.path }) ms in
    let named : c.inner.inside.name ≡ s.label.name = ap (λ v. v.label.name) c.inner.view_is in
    let path : c.in_ok-path_below.field-0 ≡ path_below at.path s.label.name = c.in_ok-path_below.ensures ∙ ap (path_below at.path) (c.as_str.ensures ∙ named) in
    let left = sets_left (record { table = c.loop-inner.table; up = at.up; path = at.path }) ms ts c.loop-inner.inner-index s c.loop-inner-test.true c.inner-item.is in
    let here = set_says ms s at c.loop-inner.table c.in_ok-copy_of.field-0 c.in_ok-path_below.field-0 _ (c.member_of-member.ensures ∙ ap (λ n. get_member n ms) (c.as_str-in-loop-inner.ensures ∙ named)) c.in_ok-copy_of.ensures path in
    refused c.from_residual-in_err-push_member.result c.in_err-push_member.field-0.0 (sets_say c.args.sets.now at ms) c.from_residual-in_err-push_member.ensures.1
    (fails_left c.in_err-push_member.field-0.0 c.args.out.now c.loop-inner.out (sets_say c.args.sets.now at ms) _ (member_says s.label s.inner (sets_say s.inner) place (option_map (λ v. view v.now) c.member_of-member.result)) rest c.loop-inner.invariant.added
    (left ∙ ap (λ xs. xs ++ rest) here) c.in_err-push_member.ensures.fault)

pub push_sets-loop-inner-preserved : goal.push_sets-loop-inner-preserved
push_sets-loop-inner-preserved t c =
    let at = c.args.at.now in
    let ms = members_view c.args.members.now in
    let ts = c.items-inner-items.result.now in
    let s = c.inner-item.result in
    let place : Place = record { table = c.loop-inner.table; up = c.in_ok-copy_of.field-0; path = c.in_ok-path_below.field-0 } in
    let rest = sets_say (forest_of (drop (c.loop-inner.inner-index + 1) ts)) (record { table = suc (c.loop-inner.table + count s.inner); up = at.up; path = at.path }) ms in
    let named : c.inner.inside.name ≡ s.label.name = ap (λ v. v.label.name) c.inner.view_is in
    let path : c.in_ok-path_below.field-0 ≡ path_below at.path s.label.name = c.in_ok-path_below.ensures ∙ ap (path_below at.path) (c.as_str.ensures ∙ named) in
    let left = sets_left (record { table = c.loop-inner.table; up = at.up; path = at.path }) ms ts c.loop-inner.inner-index s c.loop-inner-test.true c.inner-item.is in
    let here = set_says ms s at c.loop-inner.table c.in_ok-copy_of.field-0 c.in_ok-path_below.field-0 _ (c.member_of-member.ensures ∙ ap (λ n. get_member n ms) (c.as_str-in-loop-inner.ensures ∙ named)) c.in_ok-copy_of.ensures path in
    let sets : c.count.result ≡ count s.inner = c.count.ensures ∙ ap (λ v. count v.inner) c.inner.view_is in
    let table : c.loop-inner.table + (1 + c.count.result) ≡ suc (c.loop-inner.table + count s.inner) = omega (arith, sets) in
    let counted = count_at ts c.loop-inner.inner-index s s.inner c.loop-inner-test.true c.inner-item.is refl in
    record {
      added = rw table (added_more c.args.out.now c.loop-inner.out c.push_member.new.out (sets_say c.args.sets.now at ms) _ (member_says s.label s.inner (sets_say s.inner) place (option_map (λ v. view v.now) c.member_of-member.result)) rest
          c.loop-inner.invariant.added (left ∙ ap (λ xs. xs ++ rest) here) c.in_ok-push_member.ensures.ok);
      room = omega (arith, counted, sets, c.loop-inner.invariant.room);
    }

pub push_sets-count-requires : goal.push_sets-count-requires
push_sets-count-requires t c =
    let fewer = count_below c.items-inner-items.result.now c.loop-inner.inner-index c.inner-item.result c.inner.inside.inner c.args.sets.now c.loop-inner-test.true c.inner-item.is (ap (λ v. v.inner) c.inner.view_is) c.items-inner-items.ensures in
    omega (arith, fewer, c.requires.few)

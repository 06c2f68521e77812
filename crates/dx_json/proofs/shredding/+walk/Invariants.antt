use Rattle.std.proofs.Common.{◌≡◌, ◌+◌, ◌*◌, ◌++◌, map, drop}
use Rattle.dx_json.specs.View.{items_view, members_view}
use Rattle.dx_schema.specs.Forest.{forest_of, forest_size}
use Rattle.dx_schema.specs.Tables.{count}
use Rattle.dx_json.specs.Said.{says, items_say, sets_say}
use Rattle.dx_json.proofs.shredding.+walk.Given as goal

-- what is added, and what is left to say, are all that is said
abbrev pub invariant-push_items-loop-k : goal.invariant-push_items-loop-k
invariant-push_items-loop-k l =
    map says l.fn.out ++ items_say l.list.tree.now.label l.list.tree.now.inner (sets_say l.list.tree.now.inner) l.list.at.now 0 (items_view l.items)
    ≡ map says l.out ++ items_say l.list.tree.now.label l.list.tree.now.inner (sets_say l.list.tree.now.inner) l.list.at.now l.k (items_view (drop l.k l.items))

abbrev pub invariant-push_sets-loop-inner : goal.invariant-push_sets-loop-inner
invariant-push_sets-loop-inner l = record {
  added : map says l.fn.out ++ sets_say l.sets l.at (members_view l.members)
      ≡ map says l.out ++ sets_say (forest_of (drop l.inner-index l.inner-items)) (record { table = l.table; up = l.at.up; path = l.at.path }) (members_view l.members);
  room : l.at.table + count l.sets ≡ l.table + count (forest_of (drop l.inner-index l.inner-items));
}

abbrev pub decreases-push_items : goal.decreases-push_items
decreases-push_items l = 5 * forest_size l.list.now.tree.now.inner + 6

abbrev pub decreases-push_item : goal.decreases-push_item
decreases-push_item l = 5 * forest_size l.list.now.tree.now.inner + 5

abbrev pub decreases-push_member : goal.decreases-push_member
decreases-push_member l = 5 * forest_size l.list.now.tree.now.inner + 7

abbrev pub decreases-push_object : goal.decreases-push_object
decreases-push_object l = 5 * forest_size l.list.now.tree.now.inner + 4

abbrev pub decreases-push_sets : goal.decreases-push_sets
decreases-push_sets l = 5 * forest_size l.sets.now + 3

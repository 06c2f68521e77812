use Rattle.std.proofs.Common.{suc, ◌+◌, ◌-◌, ◌*◌, ◌≤◌, length, true}
use Rattle.json.specs.Tree.{json_tokens}
use Rattle.serde_json.specs.Data.{array, object}
use Rattle.serde_json.specs.Written.{outline}
use Rattle.dx_schema.specs.Forest.{forest_size}
use Rattle.dx_instance.specs.Places.{row_at}
use Rattle.dx_instance.specs.Stored.{rows_of, table_at}
use Rattle.dx_json.specs.Nesting.{object_of, objects, objects_below, up_column, with_sets}
use Rattle.dx_json.specs.Orders.{Fit, all_slots, members_with_values, object_in, slots_of, source_data}
use Rattle.dx_json.proofs.Nested.{rows_left}
use Rattle.dx_json.proofs.Tokens.{IsOnTheWay, item_tokens, member_tokens}
use Rattle.dx_json.proofs.nesting.Nesting.+nest.Given as goal

-- the objects so far, and those of the rows that are left, are all
abbrev pub invariant-write_objects-loop-place : goal.invariant-write_objects-loop-place
invariant-write_objects-loop-place l = record {
  way : IsOnTheWay l.fn.out l.out (item_tokens (objects (object_of l.tree.label l.tree.inner (with_sets l.self.instance.now l.tree.inner (suc l.table)) true) (rows_left l.self.instance.now l.table (up_column l.tree.inner) l.id l.next)))
      (json_tokens (outline (array (objects_below l.self.instance.now l.tree l.table l.id))));
  within : l.next ≤ length (rows_of l.self.instance.now l.table);
}

-- the members so far, and those that are left, are all
abbrev pub invariant-write_object-loop-name : goal.invariant-write_object-loop-name
invariant-write_object-loop-name l = record {
  way : IsOnTheWay l.fn.out l.out (member_tokens (members_with_values (source_data l.self.instance.now l.sets (row_at l.self.instance.now l.row.table l.row.place)) (slots_of l.name-iterator)))
      (json_tokens (outline (object (object_in l.self.instance.now l.sets (row_at l.self.instance.now l.row.table l.row.place) l.order))));
  fit : Fit l.self.instance.now (all_slots l.self.orders.now) (table_at l.self.instance.now l.row.table).width l.sets (slots_of l.name-iterator);
}

abbrev pub decreases-write_objects-loop-place : goal.decreases-write_objects-loop-place
decreases-write_objects-loop-place l = length (rows_of l.self.instance.now l.table) - l.next

abbrev pub decreases-write_objects : goal.decreases-write_objects
decreases-write_objects l = 4 * forest_size l.tree.now.inner + 5

abbrev pub decreases-write_object : goal.decreases-write_object
decreases-write_object l = 4 * forest_size l.sets.now + 4

abbrev pub decreases-write_source : goal.decreases-write_source
decreases-write_source l = 4 * forest_size l.sets.now + 3

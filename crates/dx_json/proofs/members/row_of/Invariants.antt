use Rattle.std.proofs.Common.{◌≡◌, ◌++◌, drop, map}
use Rattle.dx_model.specs.declared.values.Value.TheVariants.{Const}
use Rattle.dx_json.specs.View.{members_view}
use Rattle.dx_json.specs.Said.{column_faults, object_constants, object_row}
use Rattle.dx_json.proofs.members.row_of.Given as goal

abbrev pub invariant-loop-column : goal.invariant-loop-column
invariant-loop-column l = record {
  faults : column_faults l.path l.tree.label.columns (members_view l.members) ≡ column_faults l.path (drop l.column-index l.column-items) (members_view l.members);
  row : object_row l.tree.label l.tree.inner l.up l.id (members_view l.members) ≡ map Const l.row.items ++ object_constants (drop l.column-index l.column-items) (members_view l.members);
}

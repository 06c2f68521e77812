use Rattle.std.proofs.Common.{◌≡◌, ◌<◌}
use Rattle.dx_chase.specs.Parts.{demands_in}
use Rattle.dx_chase.specs.Repeats.{PartsAndIndex}
use Rattle.dx_chase.specs.Rows.{AddsTo}
use Rattle.dx_chase.proofs.asked.add_table.Given as goal

abbrev pub invariant-loop-d : goal.invariant-loop-d
invariant-loop-d l = record {
  adds : AddsTo l.tables (λ t c. (t ≡ l.table) × (c < l.d)) (demands_in l.tables l.initial.parts.items) (demands_in l.tables l.parts.items);
  parts : PartsAndIndex l.tables l.table l.parts.items l.there l.end;
}

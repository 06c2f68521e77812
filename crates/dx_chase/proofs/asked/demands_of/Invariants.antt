use Rattle.std.proofs.Common.{◌<◌, []}
use Rattle.dx_chase.specs.Parts.{LieFrom, demands_in}
use Rattle.dx_chase.specs.Rows.{AddsTo}
use Rattle.dx_chase.proofs.asked.demands_of.Given as goal

abbrev pub invariant-loop-t : goal.invariant-loop-t
invariant-loop-t l = record {
  adds : AddsTo l.tables (λ t c. t < l.t) [] (demands_in l.tables l.parts.items);
  lie : LieFrom l.tables 0 l.parts.items l.count;
}

use Rattle.std.proofs.Common.{◌≡◌}
use Rattle.dx_instance.specs.Keys.{places_of}
use Rattle.dx_instance.proofs.OrderFacts.{Gathered}
use Rattle.dx_instance.proofs.cells.Rows.in_order_by_places.Given as goal

abbrev pub invariant-loop-i : goal.invariant-loop-i
invariant-loop-i l = record {
  width : l.rows.width ≡ l.self.width;
  gathered : Gathered l.self.rows l.rows.rows (places_of l.places.items) l.i;
}

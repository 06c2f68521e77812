use Rattle.std.proofs.Common.{◌≡◌, take, length}
use Rattle.dx_hom.proofs.bindings.Bindings.truncate.Given as goal

abbrev pub invariant-loop-self : goal.invariant-loop-self
invariant-loop-self l = record {
  room : l.self.room ≡ l.fn.self.room;
  kept : take l.count l.self.cells ≡ take l.count l.fn.self.cells;
}

abbrev pub decreases-loop-self : goal.decreases-loop-self
decreases-loop-self l = length l.self.cells

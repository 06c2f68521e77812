use Rattle.dx_base.specs.Members.{Each}
use Rattle.dx_cover.specs.Pairs.{IsShared}
use Rattle.dx_cover.proofs.pairs.shared_places.Given as goal

abbrev pub invariant-loop-own : goal.invariant-loop-own
invariant-loop-own l = Each l.places.items (IsShared l.atom l.next)

abbrev pub invariant-loop-its : goal.invariant-loop-its
invariant-loop-its l = Each l.places.items (IsShared l.atom l.next)

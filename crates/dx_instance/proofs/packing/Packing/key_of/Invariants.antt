use Rattle.std.proofs.Common.{◌≡◌, ◌-◌, ◌<◌, ◌^◌, drop}
use Rattle.dx_instance.specs.Keys.{packed}
use Rattle.dx_instance.proofs.packing.Packing.key_of.Given as goal

abbrev pub invariant-loop-i : goal.invariant-loop-i
invariant-loop-i l = record {
  bound : l.key < l.self.base ^ l.i;
  rest : packed l.self.base (l.self.digits - l.i) l.key (drop l.i l.row) ≡ packed l.self.base l.self.digits 0 l.row;
}

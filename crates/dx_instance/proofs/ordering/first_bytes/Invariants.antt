use Rattle.std.proofs.Common.{◌≡◌, ◌-◌, ◌<◌, ◌^◌, drop}
use Rattle.dx_instance.specs.Keys.{AllSmall, packed}
use Rattle.dx_instance.proofs.ordering.first_bytes.Given as goal

abbrev pub invariant-loop-i : goal.invariant-loop-i
invariant-loop-i l = record {
  bound : l.key < 256 ^ l.i;
  rest : packed 256 (8 - l.i) l.key (drop l.i l.text) ≡ packed 256 8 0 l.text;
  small : AllSmall 256 l.i l.text;
}

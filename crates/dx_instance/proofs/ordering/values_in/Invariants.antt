use Rattle.std.proofs.Common.{◌≡◌, length, take}
use Rattle.dx_instance.specs.Ranks.{texts_before}
use Rattle.dx_instance.proofs.JoinFacts.{values_at}
use Rattle.dx_instance.proofs.ordering.values_in.Given as goal

abbrev pub invariant-loop-i : goal.invariant-loop-i
invariant-loop-i l = record {
  all : l.values.items ≡ values_at l.symbols (take l.i l.keys);
  start : l.start ≡ length (texts_before l.symbols l.keys l.i);
}

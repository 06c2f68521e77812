use Rattle.dx_instance.specs.Keys.{ValuesAreKeyed}
use Rattle.dx_instance.specs.Ranks.{ShortLengths}
use Rattle.dx_instance.proofs.ordering.keyed_numbers.Given as goal

abbrev pub invariant-loop-number : goal.invariant-loop-number
invariant-loop-number l = record {
  keyed : ValuesAreKeyed l.symbols l.keys.items l.number;
  lengths : ShortLengths l.symbols l.lengths.items l.number;
}

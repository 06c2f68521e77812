use Rattle.dx_instance.specs.Numbers.{Extends}
use Rattle.clio_given.proofs.Parsed.{AreNumbered}
use Rattle.clio_given.proofs.values.number_row.Given as goal

abbrev pub invariant-loop-field : goal.invariant-loop-field
invariant-loop-field l = record {
  numbered : AreNumbered l.fields l.symbols l.numbers.items l.field-index;
  grows : Extends l.initial.symbols l.symbols;
}

use Rattle.dx_instance.specs.Numbers.{Extends}
use Rattle.clio_given.proofs.Parsed.{AreRows}
use Rattle.clio_given.proofs.values.rows_of.Given as goal

abbrev pub invariant-loop-place : goal.invariant-loop-place
invariant-loop-place l = record {
  made : AreRows l.records l.symbols l.width l.rows l.place;
  grows : Extends l.initial.symbols l.symbols;
}

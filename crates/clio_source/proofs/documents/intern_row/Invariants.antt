use Rattle.std.proofs.Common.{take}
use Rattle.dx_instance.specs.Numbers.{Extends}
use Rattle.dx_instance.specs.Shown.{Shows}
use Rattle.clio_source.proofs.documents.intern_row.Given as goal

abbrev pub invariant-loop-value : goal.invariant-loop-value
invariant-loop-value l = record {
  shows : Shows l.symbols l.numbers.items (take l.value-index l.value-items);
  grows : Extends l.initial.symbols l.symbols;
}

use Rattle.dx_instance.specs.Numbers.{ValuesDiffer, Extends}
use Rattle.dx_tgd.proofs.plain.intern_cells.Given as goal

abbrev pub invariant-loop-cell : goal.invariant-loop-cell
invariant-loop-cell l = record { grows : Extends l.fn.symbols l.symbols; apart : ValuesDiffer l.symbols }

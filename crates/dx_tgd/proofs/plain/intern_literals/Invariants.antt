use Rattle.dx_instance.specs.Numbers.{ValuesDiffer, Extends}
use Rattle.dx_tgd.proofs.plain.intern_literals.Given as goal

abbrev pub invariant-loop-atom : goal.invariant-loop-atom
invariant-loop-atom l = record { grows : Extends l.fn.symbols l.symbols; apart : ValuesDiffer l.symbols }

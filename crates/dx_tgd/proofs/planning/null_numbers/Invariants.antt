use Rattle.dx_instance.specs.Numbers.{Extends}
use Rattle.dx_tgd.specs.Planned.{NumbersOfNulls}
use Rattle.dx_tgd.proofs.planning.null_numbers.Given as goal

abbrev pub invariant-loop-place : goal.invariant-loop-place
invariant-loop-place l = record { nulls : NumbersOfNulls l.symbols l.rule l.variable l.place l.numbers.items; grows : Extends l.fn.symbols l.symbols }

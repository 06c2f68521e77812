use Rattle.std.proofs.Common.{take}
use Rattle.dx_joins.specs.Knowing.{NowKnown}
use Rattle.dx_joins.proofs.known.Known.add.Given as goal

abbrev pub invariant-loop-variable : goal.invariant-loop-variable
invariant-loop-variable l = NowKnown l.initial.self l.self (take l.variable-index l.variable-items)

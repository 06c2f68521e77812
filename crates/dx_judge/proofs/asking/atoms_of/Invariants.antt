use Rattle.std.proofs.Common.{take}
use Rattle.std.specs.List.{AllZip}
use Rattle.dx_judge.specs.Asking.{SaysTurned}
use Rattle.dx_judge.proofs.asking.atoms_of.Given as goal

abbrev pub invariant-loop-fact : goal.invariant-loop-fact
invariant-loop-fact l = AllZip (SaysTurned l.numbers.symbols l.orders l.nulls) (take l.fact-index l.facts) l.atoms.items

use Rattle.std.proofs.Common.{take, drop}
use Rattle.dx_joins.specs.Planning.{HoldsPartialMatches}
use Rattle.dx_joins.proofs.premise.premise_rows.Given as goal

abbrev pub invariant-loop-i : goal.invariant-loop-i
invariant-loop-i l = HoldsPartialMatches l.marked.source.now.tables l.marked.marks.now (take l.i l.patterns) (drop l.i l.patterns) l.shown l.partial

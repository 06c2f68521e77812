use Rattle.std.proofs.Common.{take}
use Rattle.dx_eval.proofs.Partners.{StaySoFar}
use Rattle.dx_eval.proofs.keeping.stay_places.Given as goal

abbrev pub invariant-loop-step : goal.invariant-loop-step
invariant-loop-step l = StaySoFar l.of.symbols.now l.of.tables.now l.of.rule (take l.step-index l.steps) l.places.items

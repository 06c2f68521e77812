use Rattle.std.proofs.Common.{rules}
use Rattle.dx_ways.proofs.Unlike.{variable_added, variable_left, variable_past}
use Rattle.dx_ways.proofs.seen.column_variables.Goals as goal
use Rattle.dx_ways.proofs.seen.column_variables.Goals.{then-occurrence-place+then-not-contains+in_ok-push, then-occurrence-place+else-not-contains, else-occurrence-place}

pub loop-occurrence-preserved : goal.loop-occurrence-preserved
loop-occurrence-preserved c = elim c.if-occurrence-place.branch [
  | then-occurrence-place+then-not-contains+in_ok-push w ↦
      variable_added c.args.place c.args.occurrences.now c.loop-occurrence.occurrence-index c.occurrence-item.result w.variable_in-variable.result c.loop-occurrence.variables.items _ _
      c.loop-occurrence-test.true c.occurrence-item.is (search rules) w.variable_in-variable.ensures (search rules) (search rules) c.loop-occurrence.invariant
  | then-occurrence-place+else-not-contains w ↦
      variable_left c.args.place c.args.occurrences.now c.loop-occurrence.occurrence-index c.occurrence-item.result w.variable_in-variable.result c.loop-occurrence.variables.items _ _
      c.loop-occurrence-test.true c.occurrence-item.is (search rules) w.variable_in-variable.ensures (search rules) (search rules) c.loop-occurrence.invariant
  | else-occurrence-place w ↦
      variable_past c.args.place c.args.occurrences.now c.loop-occurrence.occurrence-index c.occurrence-item.result c.loop-occurrence.variables.items _ _
      c.loop-occurrence-test.true c.occurrence-item.is (search rules) (search rules) c.loop-occurrence.invariant
]

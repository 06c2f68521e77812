use Rattle.dx_base.specs.Members.{◌∈◌, Each}
use Rattle.dx_core.proofs.sparing.Reduction.rows_near.Given as goal

abbrev pub invariant-loop-place : goal.invariant-loop-place
invariant-loop-place l = Each l.rows.items (λ r. r ∈ l.task.block.now.rows)

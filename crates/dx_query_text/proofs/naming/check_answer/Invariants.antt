use Rattle.std.proofs.Common.{◌≡◌, drop}
use Rattle.dx_query_text.specs.Naming.{answer_fault}
use Rattle.dx_query_text.proofs.naming.check_answer.Given as goal

-- the first fault is that of the rest
abbrev pub invariant-loop-cell : goal.invariant-loop-cell
invariant-loop-cell l = answer_fault l.known l.answer ≡ answer_fault l.known (drop l.cell-index l.answer)

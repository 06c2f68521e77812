use Rattle.dx_instance.specs.Stored.{facts}
use Rattle.dx_model.specs.Matches.{rows_of_matches}
use Rattle.dx_judge.proofs.Said.{HoldBefore}
use Rattle.dx_judge.proofs.opening.first_open.Given as goal

abbrev pub invariant-loop-i : goal.invariant-loop-i
invariant-loop-i l = HoldBefore l.rules (rows_of_matches l.matches) (facts l.given.plain.now) l.i

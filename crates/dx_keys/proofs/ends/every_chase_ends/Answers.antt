use Rattle.dx_keys.proofs.EndsReached.{ends_once, every_chase_ends, steps_are_few}
use Rattle.dx_keys.proofs.EndsAnswered.{clash_has_answer, every_chase_answers}
use Rattle.dx_keys.proofs.ends.every_chase_ends.Goals as goal

pub returns-clause-few : goal.returns-clause-few
returns-clause-few c = steps_are_few

pub returns-clause-ends : goal.returns-clause-ends
returns-clause-ends c = every_chase_ends

pub returns-clause-once : goal.returns-clause-once
returns-clause-once c = ends_once

pub returns-clause-clash : goal.returns-clause-clash
returns-clause-clash c = clash_has_answer

pub returns-clause-answers : goal.returns-clause-answers
returns-clause-answers c = every_chase_answers

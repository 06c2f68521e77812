use Rattle.dx_worked.proofs.Said.{two_are_planned, two_are_said}
use Rattle.dx_worked.proofs.examples.two_answers_are_counted.Goals as goal

pub returns : goal.returns
returns c = record { planned = two_are_planned; said = two_are_said }

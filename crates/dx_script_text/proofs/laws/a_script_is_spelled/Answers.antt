use Rattle.dx_script_text.proofs.Fronts.{texts_are_spelled, starts_are_spelled}
use Rattle.dx_script_text.proofs.laws.a_script_is_spelled.Goals as goal

pub returns-clause-spelled : goal.returns-clause-spelled
returns-clause-spelled c = texts_are_spelled

pub returns-clause-starts : goal.returns-clause-starts
returns-clause-starts c = starts_are_spelled

use Rattle.dx_model.proofs.MembersAre.{canonical_are, uncovered_are}
use Rattle.dx_model.proofs.laws.members_are.Goals as goal

pub returns-clause-canonical : goal.returns-clause-canonical
returns-clause-canonical c = canonical_are

pub returns-clause-uncovered : goal.returns-clause-uncovered
returns-clause-uncovered c = uncovered_are

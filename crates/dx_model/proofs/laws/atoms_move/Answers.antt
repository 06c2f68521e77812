use Rattle.dx_model.proofs.ByMembers.{said_by_moves, frozen_fits}
use Rattle.dx_model.proofs.laws.atoms_move.Goals as goal

pub returns-clause-said : goal.returns-clause-said
returns-clause-said c = said_by_moves

pub returns-clause-frozen : goal.returns-clause-frozen
returns-clause-frozen c = frozen_fits

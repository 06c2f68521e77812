use Rattle.dx_chase.proofs.PartFacts.{count_is}
use Rattle.dx_chase.proofs.asked.Demands.len.Goals as goal

pub returns : goal.returns
returns c = count_is _ _ _ _ c.self.invariant c.self.view_is

use Rattle.dx_used.proofs.MarkFacts.{asks_other}
use Rattle.dx_used.proofs.mentions.is_idle.Goals as goal

pub returns-in_default : goal.returns-in_default
returns-in_default c = record { idle = tt; asks = λ d h p. asks_other d c.args.cell.now c.in_default.not-Var }

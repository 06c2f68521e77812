use Rattle.dx_used.proofs.MarkFacts.{counted_other}
use Rattle.dx_used.proofs.mentions.add_cell.Goals as goal

pub returns-in_default : goal.returns-in_default
returns-in_default c = record { counts = λ before h. counted_other before c.args.cell.now c.args.counts.now c.in_default.not-Var h }

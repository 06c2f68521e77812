use Rattle.std.proofs.Common.{◌∙◌, sym}
use Rattle.dx_tgd_text.proofs.Sets.{number_absent}
use Rattle.dx_tgd_text.proofs.names.Names.number.Goals as goal

pub returns-in-None : goal.returns-in-None
returns-in-None c = c.len.ensures ∙ sym (number_absent c.args.name.now c.args.self.now c.in-None.ensures)

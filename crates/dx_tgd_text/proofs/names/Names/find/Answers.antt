use Rattle.std.proofs.Common.{◌∙◌, sym}
use Rattle.dx_tgd_text.proofs.Sets.{among_is_any, found_name}
use Rattle.dx_tgd_text.proofs.names.Names.find.Goals as goal

pub returns-in-Some : goal.returns-in-Some
returns-in-Some c = rw (← c.self.view_is) (found_name c.args.name.now c.self.inside.names.keys c.in-Some.number c.in-Some.ensures.index c.in-Some.ensures.found)

pub returns-in-None : goal.returns-in-None
returns-in-None c = rw (← c.self.view_is) (among_is_any c.args.name.now c.self.inside.names.keys ∙ sym c.in-None.ensures.found)

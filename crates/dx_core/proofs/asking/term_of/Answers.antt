use Rattle.dx_core.proofs.Terms.{not_found}
use Rattle.std.proofs.Common.{refl}
use Rattle.dx_core.proofs.asking.term_of.Goals as goal

pub returns-in-Err : goal.returns-in-Err
returns-in-Err c = (refl, not_found c.args.nulls.now c.args.number c.in-Err.field-0 c.requires.ascend c.in-Err.ensures.position)

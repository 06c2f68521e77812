use Rattle.dx_instance.proofs.NumberFacts.{found_in, missing}
use Rattle.dx_instance.proofs.symbols.searched.Goals as goal

pub returns-in-Ok : goal.returns-in-Ok
returns-in-Ok c = found_in c.args.ordered.now c.args.value.now c.in-Ok.number c.in-Ok.ensures.bound c.in-Ok.ensures.position

pub returns-in-Err : goal.returns-in-Err
returns-in-Err c = missing c.args.ordered.now c.args.value.now c.in-Err.field-0 c.requires c.in-Err.ensures.position

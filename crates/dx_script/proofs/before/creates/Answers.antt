use Rattle.std.proofs.lemmas.Bool.{false≢true}
use Rattle.dx_base.specs.Members.{here, there}
use Rattle.dx_script.proofs.Made.{no_create}
use Rattle.dx_script.proofs.before.creates.Goals as goal

pub returns-in-Create : goal.returns-in-Create
returns-in-Create c = rw c.in-Create.is ((λ t. here (c.is.ensures.0 t)), (λ m. elim m [ here q ↦ c.is.ensures.1 q | there k ↦ elim k [ ] ]))

pub returns-in_default : goal.returns-in_default
returns-in_default c = ((λ t. absurd (false≢true t)), (λ m. absurd (no_create c.args.step.now c.args.name.now c.in_default.not-Create m)))

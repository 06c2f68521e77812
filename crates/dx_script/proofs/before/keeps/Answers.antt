use Rattle.std.proofs.Common.{refl}
use Rattle.std.proofs.lemmas.Bool.{false≢true}
use Rattle.dx_base.specs.Members.{here, there}
use Rattle.dx_script.proofs.FitsTest.{same_number}
use Rattle.dx_script.proofs.Made.{no_keep}
use Rattle.dx_script.proofs.before.keeps.Goals as goal

pub returns-in-KeepRows : goal.returns-in-KeepRows
returns-in-KeepRows c =
    let same = same_number c.in-KeepRows.rule c.args.number c.args.number refl in
    rw c.in-KeepRows.is ((λ t. here (same.0 t)), (λ m. elim m [ here q ↦ same.1 q | there k ↦ elim k [ ] ]))

pub returns-in_default : goal.returns-in_default
returns-in_default c = ((λ t. absurd (false≢true t)), (λ m. absurd (no_keep c.args.step.now c.args.number c.in_default.not-KeepRows m)))

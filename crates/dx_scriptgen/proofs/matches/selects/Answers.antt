use Rattle.std.proofs.Common.{ℕ, ◌∙◌, subst, get_or}
use Rattle.dx_base.specs.Members.{◌∈◌}
use Rattle.dx_base.proofs.Members.{in_at}
use Rattle.dx_model.specs.Rules.{exported}
use Rattle.dx_model.proofs.Canonical.{exported_exactly}
use Rattle.dx_scriptgen.proofs.matches.selects.Goals as goal

pub select_of-requires-clause-calls : goal.select_of-requires-clause-calls
select_of-requires-clause-calls g c = λ e m. record { listed = c.requires.listed e m; within = c.requires.rule.derived e m }

pub select_of-requires-clause-known : goal.select_of-requires-clause-known
select_of-requires-clause-known g c =
    let x : ℕ = get_or c.deref-variable-items.result.now c.loop-variable.variable-index 0 in
    let m : x ∈ c.deref-variable-items.result.now = in_at c.deref-variable-items.result.now c.loop-variable.variable-index 0 c.loop-variable-test.true in
    let n : x ∈ exported c.args.rule.now = subst (λ z. x ∈ z) (c.deref-variable-items.ensures.value ∙ c.in_ok-variables.ensures) m in
    c.requires.rule.known x (((exported_exactly c.args.rule.now).1 x).0 n)

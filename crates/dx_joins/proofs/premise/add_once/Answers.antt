use Rattle.std.proofs.Common.{◌∙◌, sym, subst, List, ℕ}
use Rattle.std.proofs.lemmas.Bool.{true≢false}
use Rattle.dx_base.specs.Members.{◌∈◌}
use Rattle.dx_joins.proofs.Patterns.{adds_nothing, adds_one}
use Rattle.dx_joins.proofs.premise.add_once.Goals as goal

pub returns-then-has : goal.returns-then-has
returns-then-has c = adds_nothing c.args.variables.now.items c.args.x (subst (λ (l : List ℕ). c.args.x ∈ l) c.deref.ensures.value (c.has.ensures.0 c.if-has.true))

pub returns : goal.returns
returns c = rw c.in_ok-push.ensures.items (adds_one c.args.variables.now.items c.args.x (λ m. true≢false (sym (c.has.ensures.1 (subst (λ (l : List ℕ). c.args.x ∈ l) (sym c.deref.ensures.value) m)) ∙ c.if-has.false)))

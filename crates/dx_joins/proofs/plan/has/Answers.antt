use Rattle.std.proofs.lemmas.Iterator.{cases_from_any, YieldsList-from_slice}
use Rattle.dx_base.proofs.Asked.{any_tells}
use Rattle.std.proofs.Common.{◌≡◌, ℕ, refl, rules, subst, tests}
use Rattle.dx_base.specs.Members.{◌∈◌}
use Rattle.dx_joins.proofs.plan.has.Goals as goal

pub returns : goal.returns
returns c =
    let xs = c.args.numbers.now in
    let by_call = cases_from_any _ _ _ (λ (z : ℕ). z ≡ c.args.x) (λ z. ¬ (z ≡ c.args.x)) c.any.ensures.ran (YieldsList-from_slice xs cc) (λ x q k. search (rules, tests)) (λ x q k. search (rules, tests)) in
    let t = any_tells (λ (z : ℕ). z ≡ c.args.x) (λ z. ¬ (z ≡ c.args.x)) _ xs (λ z p n. n p) by_call in
    ((λ r. let s = t.0 r in subst (λ (z : ℕ). z ∈ xs) s.2 s.1), (λ m. t.1 (c.args.x, m, refl)))

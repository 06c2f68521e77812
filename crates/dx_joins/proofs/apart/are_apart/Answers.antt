use Rattle.std.proofs.Common.{ℕ, rules, tests}
use Rattle.std.proofs.lemmas.Iterator.{cases_from_any, YieldsList-from_slice}
use Rattle.dx_base.specs.Members.{◌∈◌}
use Rattle.dx_base.proofs.Asked.{any_tells}
use Rattle.dx_joins.specs.declared.pattern.Pattern.{Pattern}
use Rattle.dx_joins.specs.Joining.{variables_of_patterns}
use Rattle.dx_joins.proofs.Patterns.{none_shared}
use Rattle.dx_joins.proofs.apart.are_apart.Goals as goal

pub returns : goal.returns
returns c =
    let ps = c.args.others.now in
    let all = variables_of_patterns c.args.first.now in
    let P : Pattern → Type 0 = λ p. (x : ℕ) × (x ∈ p.variables.items) × (x ∈ all) in
    let by_call = cases_from_any _ _ _ P (λ p. ¬ (P p)) c.any.ensures.ran (YieldsList-from_slice ps cc) (λ x q k. search (rules, tests)) (λ x q k. search (rules, tests)) in
    none_shared _ c.args.first.now ps (any_tells P (λ p. ¬ (P p)) _ ps (λ z p n. n p) by_call)

use Rattle.std.proofs.lemmas.Iterator.{cases_from_any, YieldsList-from_slice}
use Rattle.dx_base.proofs.Asked.{any_tells}
use Rattle.std.proofs.Common.{ℕ, rules, tests}
use Rattle.dx_base.specs.Members.{◌∈◌}
use Rattle.dx_joins.specs.Joining.{variables_of_patterns}
use Rattle.dx_joins.proofs.apart.one_stands_in.Goals as goal

pub returns : goal.returns
returns c =
    let xs = c.args.variables.now in
    let all = variables_of_patterns c.args.patterns.now in
    let by_call = cases_from_any _ _ _ (λ (z : ℕ). z ∈ all) (λ z. ¬ (z ∈ all)) c.any.ensures.ran (YieldsList-from_slice xs cc) (λ x q k. search (rules, tests)) (λ x q k. search (rules, tests)) in
    any_tells (λ (z : ℕ). z ∈ all) (λ z. ¬ (z ∈ all)) _ xs (λ z p n. n p) by_call

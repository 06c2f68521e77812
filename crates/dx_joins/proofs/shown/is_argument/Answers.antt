use Rattle.std.proofs.lemmas.Iterator.{cases_from_any, YieldsList-from_slice}
use Rattle.dx_base.proofs.Asked.{any_tells}
use Rattle.std.proofs.Common.{rules, tests}
use Rattle.dx_base.specs.Members.{◌∈◌}
use Rattle.dx_model.specs.declared.rules.Derived.{Derived}
use Rattle.dx_joins.proofs.shown.is_argument.Goals as goal

pub returns : goal.returns
returns c =
    let es = c.args.derived.now in
    let x = c.args.x in
    let by_call = cases_from_any _ _ _ (λ (e : Derived). x ∈ e.args) (λ e. ¬ (x ∈ e.args)) c.any.ensures.ran (YieldsList-from_slice es cc) (λ x q k. search (rules, tests)) (λ x q k. search (rules, tests)) in
    any_tells (λ (e : Derived). x ∈ e.args) (λ e. ¬ (x ∈ e.args)) _ es (λ z p n. n p) by_call

use Rattle.std.proofs.lemmas.Iterator.{cases_from_any, YieldsList-from_slice}
use Rattle.dx_base.proofs.Asked.{any_tells}
use Rattle.std.proofs.Common.{rules, tests}
use Rattle.dx_base.specs.Members.{◌∈◌}
use Rattle.dx_base.proofs.Members.{from_flat_map}
use Rattle.dx_joins.specs.declared.pattern.Pattern.{Pattern}
use Rattle.dx_joins.proofs.Patterns.{in_pattern}
use Rattle.dx_joins.proofs.premise.stands_in.Goals as goal

pub returns : goal.returns
returns c =
    let ps = c.args.patterns.now in
    let x = c.args.x in
    let by_call = cases_from_any _ _ _ (λ (p : Pattern). x ∈ p.variables.items) (λ p. ¬ (x ∈ p.variables.items)) c.any.ensures.ran (YieldsList-from_slice ps cc) (λ x q k. search (rules, tests)) (λ x q k. search (rules, tests)) in
    let t = any_tells (λ (p : Pattern). x ∈ p.variables.items) (λ p. ¬ (x ∈ p.variables.items)) _ ps (λ z p n. n p) by_call in
    ((λ r. let s = t.0 r in in_pattern x s.0 ps s.1 s.2), (λ m. t.1 (from_flat_map (λ (p : Pattern). p.variables.items) ps m)))

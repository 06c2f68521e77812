use Rattle.std.proofs.Common.{rules, tests}
use Rattle.std.proofs.lemmas.Iterator.{cases_from_any, YieldsList-from_slice}
use Rattle.dx_base.specs.Members.{◌∈◌}
use Rattle.dx_base.proofs.Asked.{any_tells}
use Rattle.dx_base.proofs.Members.{from_flat_map, in_flat_map}
use Rattle.dx_script.specs.declared.form.Step.{Step}
use Rattle.dx_script.specs.Fits.{kept_in}
use Rattle.dx_script.proofs.before.is_kept.Goals as goal

pub returns : goal.returns
returns c =
    let steps = c.args.steps.now in
    let P : Step → Type 0 = λ s. c.args.number ∈ kept_in s in
    let by_call = cases_from_any _ _ _ P (λ s. ¬ (P s)) c.any.ensures.ran (YieldsList-from_slice steps cc) (λ x q k. search (rules, tests)) (λ x q k. search (rules, tests)) in
    let t = any_tells P (λ s. ¬ (P s)) _ steps (λ z p n. n p) by_call in
    ((λ r. let s = t.0 r in in_flat_map kept_in s.1 s.2), (λ m. t.1 (from_flat_map kept_in steps m)))

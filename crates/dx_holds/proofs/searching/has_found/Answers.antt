use Rattle.std.proofs.Common.{◌≡◌, ℕ, refl, subst, rules, tests}
use Rattle.std.proofs.lemmas.Iterator.{cases_from_any, YieldsList-from_slice}
use Rattle.dx_base.specs.Members.{◌∈◌}
use Rattle.dx_base.proofs.Asked.{any_tells}
use Rattle.dx_model.specs.declared.rules.Cell.{Cell}
use Rattle.dx_model.specs.declared.rules.Cell.TheVariants.{Ex}
use Rattle.dx_holds.specs.Searching.{found_variables}
use Rattle.dx_holds.proofs.searching.has_found.Goals as goal

pub returns : goal.returns
returns c =
    let cells = c.args.cells.now in
    let answer = any_tells (λ (z : Cell). (v : ℕ) × (z ≡ Ex v) × (v ∈ found_variables c.args.found.now)) (λ (z : Cell). ¬ ((v : ℕ) × (z ≡ Ex v) × (v ∈ found_variables c.args.found.now))) c.any.result cells
    (λ z p q. q p)
    (cases_from_any _ _ _ (λ (z : Cell). (v : ℕ) × (z ≡ Ex v) × (v ∈ found_variables c.args.found.now)) (λ (z : Cell). ¬ ((v : ℕ) × (z ≡ Ex v) × (v ∈ found_variables c.args.found.now))) c.any.ensures.ran (YieldsList-from_slice cells cc)
    (λ x q k. search (rules, tests)) (λ x q k. search (rules, tests))) in (
      (λ t. let s = answer.0 t in (s.2.0, subst (λ (z : Cell). z ∈ cells) s.2.1 s.1, s.2.2)),
      (λ s. answer.1 (Ex s.0, s.1, (s.0, refl, s.2))),
    )

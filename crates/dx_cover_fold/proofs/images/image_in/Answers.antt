use Rattle.std.proofs.Common.{◌<◌, ◌≤◌, ◌⊎◌, ℕ, get_or, length, arith, sym, ◌∙◌, inl, inr, min}
use Rattle.std.proofs.lemmas.Bool.{cases_lt}
use Rattle.std.proofs.lemmas.List.{get_or_default}
use Rattle.dx_model.specs.declared.rules.Cell.TheVariants.{Ex}
use Rattle.dx_cover_fold.proofs.TextsOf.{image_nowhere, image_past}
use Rattle.dx_cover_fold.proofs.images.image_in.Goals as goal

pub loop-i-preserved : goal.loop-i-preserved
loop-i-preserved c =
    let l : c.loop-i.i < length c.args.variables.now = omega (arith, c.loop-i-test.true, c.min-i-end.ensures) in
    let k : c.loop-i.i < length c.args.images.now = omega (arith, c.loop-i-test.true, c.min-i-end.ensures) in
    c.loop-i.invariant ∙ image_past c.args.variables.now c.args.images.now c.loop-i.i c.args.variable (get_or c.args.variables.now c.loop-i.i 0) (get_or c.args.images.now c.loop-i.i (Ex 0)) l k
    (get_or_default c.args.variables.now c.loop-i.i 0 _ l) (get_or_default c.args.images.now c.loop-i.i (Ex 0) _ k) c.if-variable-variables.false

nowhere : (m n i : ℕ) → min m n ≤ i → (m ≤ i) ⊎ (n ≤ i)
nowhere m n i h = elim (cases_lt i m) [ inl l ↦ inr (omega arith) | inr g ↦ inl g ]

pub returns : goal.returns
returns c =
    let w = image_nowhere c.args.variables.now c.args.images.now c.loop-i.i c.args.variable in
    sym (c.loop-i.invariant ∙ elim (nowhere (length c.args.variables.now) (length c.args.images.now) c.loop-i.i (omega (arith, c.loop-i-test.false, c.min-i-end.ensures))) [ inl l ↦ w.0 l | inr r ↦ w.1 r ])

use Rattle.std.proofs.Common.{refl, ◌∙◌, sym, inl, inr}
use Rattle.std.proofs.lemmas.Bool.{true≢false}
use Rattle.dx_joins.proofs.shown.is_wanted.Goals as goal

pub returns-then-has : goal.returns-then-has
returns-then-has c = ((λ _. inl (c.has.ensures.0 c.if-has.true)), (λ _. refl))

pub returns : goal.returns
returns c = (
  (λ t. inr (c.is_argument.ensures.0 t)),
  (λ n. elim n [ inr l ↦ c.is_argument.ensures.1 l | inl w ↦ absurd (true≢false (sym (c.has.ensures.1 w) ∙ c.if-has.false)) ]),
)

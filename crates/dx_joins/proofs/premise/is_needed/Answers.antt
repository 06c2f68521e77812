use Rattle.std.proofs.Common.{refl, ◌∙◌, sym, inl, inr}
use Rattle.std.proofs.lemmas.Bool.{true≢false}
use Rattle.dx_joins.proofs.premise.is_needed.Goals as goal

pub returns-then-has : goal.returns-then-has
returns-then-has c = ((λ _. inr (c.has.ensures.0 c.if-has.true)), (λ _. refl))

pub returns : goal.returns
returns c = (
  (λ t. inl (c.stands_in.ensures.0 t)),
  (λ n. elim n [ inl l ↦ c.stands_in.ensures.1 l | inr w ↦ absurd (true≢false (sym (c.has.ensures.1 w) ∙ c.if-has.false)) ]),
)

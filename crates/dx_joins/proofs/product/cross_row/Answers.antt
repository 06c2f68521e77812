use Rattle.std.proofs.Common.{◌≡◌, ◌∙◌, ◌⊎◌, ◌++◌, ap, subst, arith, ℕ, List}
use Rattle.dx_base.specs.Members.{◌∈◌}
use Rattle.dx_joins.specs.Collecting.{MoreThan}
use Rattle.dx_joins.specs.Looking.{numbers_at_places}
use Rattle.dx_joins.proofs.ByPlace.{by_all, by_full}
use Rattle.dx_joins.proofs.product.cross_row.Goals as goal

pub returns-then-branch : goal.returns-then-branch
returns-then-branch c =
    let E : List ℕ → List ℕ → Type 0 = λ s t. t ≡ numbers_at_places (c.args.left.now ++ s) c.args.places.now in
    let full : MoreThan c.loop-place.out.most (λ t. (t ∈ c.loop-place.out.rows) ⊎ (t ≡ c.deref.result.now)) = rw c.if-branch.true at c.in_ok-push.ensures in
    let is = c.deref.ensures.value ∙ c.in_ok-gather.ensures ∙ ap (λ (r : List ℕ). numbers_at_places (c.args.left.now ++ r) c.args.places.now) c.row.ensures.row in
    by_full E c.args.rights.now.rows c.args.out.now c.loop-place.out c.loop-place.place (omega (arith, c.loop-place-test.true, c.count-place-end.ensures.count)) c.loop-place.invariant
    (subst (λ (r : List ℕ). MoreThan c.loop-place.out.most (λ t. (t ∈ c.loop-place.out.rows) ⊎ (t ≡ r))) is full)

pub returns : goal.returns
returns c =
    by_all (λ s t. t ≡ numbers_at_places (c.args.left.now ++ s) c.args.places.now) c.args.rights.now.rows c.args.out.now c.loop-place.out c.loop-place.place
    (omega (arith, c.loop-place-test.false, c.count-place-end.ensures.count, c.loop-place.auto.place-end)) c.loop-place.invariant

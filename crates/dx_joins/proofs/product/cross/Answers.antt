use Rattle.std.proofs.Common.{◌⊎◌, subst, refl, arith, ℕ, List, [], length}
use Rattle.dx_base.specs.Members.{◌∈◌}
use Rattle.dx_joins.specs.Collecting.{Collection, CollectsRows, MoreThan}
use Rattle.dx_joins.specs.Products.{Crosses, CrossesWith}
use Rattle.dx_joins.proofs.ByPlace.{by_all, by_full, by_more}
use Rattle.dx_joins.proofs.Carrying.{step_done, step_full}
use Rattle.dx_joins.proofs.product.cross.Goals as goal

pub returns-then-branch-clause-rows : goal.returns-then-branch-clause-rows
returns-then-branch-clause-rows c =
    let E : List ℕ → List ℕ → Type 0 = λ r t. CrossesWith c.args.rights.now.rows c.args.places.now r t in
    let P : List ℕ → Type 0 = Crosses c.args.lefts.now.rows c.args.rights.now.rows c.args.places.now in
    let start : Collection = record { width = length c.args.places.now; most = c.args.most; rows = [] } in
    let full : MoreThan c.loop-place.out.most (λ t. (t ∈ c.loop-place.out.rows) ⊎ E c.row.result.now t) = rw c.if-branch.true at c.in_ok-cross_row.ensures in
    step_full start c.args.most P P refl refl (λ t p. p) (by_full E c.args.lefts.now.rows start c.loop-place.out c.loop-place.place (omega (arith, c.loop-place-test.true, c.count-place-end.ensures.count)) c.loop-place.invariant
    (subst (λ (r : List ℕ). MoreThan c.loop-place.out.most (λ t. (t ∈ c.loop-place.out.rows) ⊎ E r t)) c.row.ensures.row full))

pub loop-place-preserved : goal.loop-place-preserved
loop-place-preserved c =
    let E : List ℕ → List ℕ → Type 0 = λ r t. CrossesWith c.args.rights.now.rows c.args.places.now r t in
    let start : Collection = record { width = length c.args.places.now; most = c.args.most; rows = [] } in
    let more : CollectsRows c.loop-place.out c.cross_row.new.out (E c.row.result.now) = rw c.if-branch.false at c.in_ok-cross_row.ensures in
    by_more E c.args.lefts.now.rows start c.loop-place.out c.cross_row.new.out c.loop-place.place c.loop-place.invariant
    (subst (λ (r : List ℕ). CollectsRows c.loop-place.out c.cross_row.new.out (E r)) c.row.ensures.row more)

pub returns-clause-rows : goal.returns-clause-rows
returns-clause-rows c =
    let E : List ℕ → List ℕ → Type 0 = λ r t. CrossesWith c.args.rights.now.rows c.args.places.now r t in
    let P : List ℕ → Type 0 = Crosses c.args.lefts.now.rows c.args.rights.now.rows c.args.places.now in
    let start : Collection = record { width = length c.args.places.now; most = c.args.most; rows = [] } in
    step_done c.finish.result start c.loop-place.out c.args.most (length c.args.places.now) P P refl refl refl (λ t. ((λ p. p), (λ p. p)))
    (by_all E c.args.lefts.now.rows start c.loop-place.out c.loop-place.place (omega (arith, c.loop-place-test.false, c.count-place-end.ensures.count, c.loop-place.auto.place-end)) c.loop-place.invariant) c.finish.ensures

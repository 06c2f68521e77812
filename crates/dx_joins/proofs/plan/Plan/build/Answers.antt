use Rattle.std.proofs.Common.{◌≡◌, ◌∙◌, ◌++◌, ◌<◌, sym, subst, ap, arith, ℕ, List, get_or, length}
use Rattle.std.proofs.lemmas.List.{get_or_default, length-map}
use Rattle.std.specs.Prelude.{map, slice_index}
use Rattle.dx_base.specs.Members.{◌∈◌, ◌⊆◌, Distinct, Each}
use Rattle.dx_base.proofs.Members.{in_right}
use Rattle.dx_base.proofs.Loops.{each_push}
use Rattle.dx_joins.specs.Planning.{first_place}
use Rattle.dx_joins.proofs.Places.{shared_more}
use Rattle.dx_joins.proofs.plan.Plan.build.Goals as goal
use Rattle.dx_joins.proofs.plan.Plan.build.Goals.{then-first-left+in_ok-push+in_ok-push-2, else-first-left}

pub places-requires : goal.places-requires
places-requires c = λ x m. subst (λ (l : List ℕ). x ∈ l) (sym (c.deref.ensures.value ∙ c.in_ok-names.ensures)) (in_right c.args.left.now m)

pub loop-column-preserved : goal.loop-column-preserved
loop-column-preserved c = elim c.if-first-left.branch [
  | then-first-left+in_ok-push+in_ok-push-2 w ↦
      let firsts = c.in_ok-firsts.firsts.items in
      let here : c.loop-column.column < length firsts = omega (arith, c.in_ok-firsts.firsts.ok.0, c.loop-column-test.true) in
      let at : c.index-first.result.now ≡ get_or firsts c.loop-column.column 0 = c.index-first.ensures ∙ get_or_default firsts c.loop-column.column c.index-first.result.now 0 here in
      let e = c.in_ok-firsts.ensures ∙ ap (λ (l : List ℕ). map (first_place l) c.args.right.now) (c.deref.ensures.value ∙ c.in_ok-names.ensures) in
      let low : get_or firsts c.loop-column.column 0 < length c.args.left.now = rw (← at) w.if-first-left.true in
      rw (w.by_left-is, w.by_right-is, w.in_ok-push.ensures.items, w.in_ok-push-2.ensures.items) (record {
        left_within = each_push _ _ _ c.loop-column.invariant.left_within w.if-first-left.true;
        right_within = each_push _ _ _ c.loop-column.invariant.right_within here;
        shared = rw at (shared_more c.args.left.now c.args.right.now firsts c.loop-column.by_left.items c.loop-column.by_right.items c.loop-column.column e here low c.loop-column.invariant.shared);
      })
  | else-first-left w ↦ rw (w.by_left-is, w.by_right-is) c.loop-column.invariant
]

-- what holds of three lists holds of the same lists
of_same : (P : List ℕ → List ℕ → List ℕ → Type 0) (l r k left right kept : List ℕ) → l ≡ left → r ≡ right → k ≡ kept → P left right kept → P l r k
of_same P l r k left right kept a b c h = rw (a, b, c) h

pub returns-clause-plan : goal.returns-clause-plan
returns-clause-plan c =
    let left = c.args.left.now in
    let right = c.args.right.now in
    let kept = c.args.kept.now in
    let l = c.in_ok-copied.field-0.items in
    let r = c.in_ok-copied-2.field-0.items in
    let k = c.in_ok-copied-3.field-0.items in
    let el = c.in_ok-copied.ensures in
    let er = c.in_ok-copied-2.ensures in
    let ek = c.in_ok-copied-3.ensures in
    let fs = c.in_ok-firsts.firsts.items in
    let firsts : fs ≡ map (first_place (left ++ right)) right = c.in_ok-firsts.ensures ∙ ap (λ (z : List ℕ). map (first_place z) right) (c.deref.ensures.value ∙ c.in_ok-names.ensures) in
    let many : length fs ≡ length right = ap length firsts ∙ length-map right (first_place (left ++ right)) in
    let ps = c.in_ok-places.field-0.items in
    let places : ps ≡ map (first_place (left ++ right)) kept = c.in_ok-places.ensures ∙ ap (λ (z : List ℕ). map (first_place z) kept) (c.deref-2.ensures.value ∙ c.in_ok-names.ensures) in
    let inv = c.loop-column.invariant in
    let bl = c.loop-column.by_left.items in
    let br = c.loop-column.by_right.items in
    record {
      once = of_same (λ a b d. Distinct a) l r k left right kept el er ek c.requires.once;
      known = of_same (λ a b d. d ⊆ (a ++ b)) l r k left right kept el er ek c.requires.known;
      firsts = of_same (λ a b d. fs ≡ map (first_place (a ++ b)) b) l r k left right kept el er ek firsts;
      places = of_same (λ a b d. ps ≡ map (first_place (a ++ b)) d) l r k left right kept el er ek places;
      left_within = of_same (λ a b d. Each bl (λ i. i < length a)) l r k left right kept el er ek inv.left_within;
      right_within = of_same (λ a b d. Each br (λ i. i < length b)) l r k left right kept el er ek (subst (λ (n : ℕ). Each br (λ i. i < n)) many inv.right_within);
      shared = of_same (λ a b d. map (slice_index a) bl ≡ map (slice_index b) br) l r k left right kept el er ek inv.shared;
    }

-- Pairs of rows.
use Rattle.std.proofs.Common.{◌≡◌, ◌∙◌, ◌++◌, ℕ, List, Bool, sym, ap, length, Result, Ok, Err}
use Rattle.std.specs.Prelude.{slice_index, IfOk}
use Rattle.std.specs.declared.alloc.AllocError.{AllocError}
use Rattle.std.proofs.lemmas.List.{length-map}
use Rattle.dx_joins.specs.declared.plan.Plan.{Plan}
use Rattle.dx_joins.specs.Collecting.{Collection, Collects}
use Rattle.dx_joins.specs.Joining.{AllMarked}
use Rattle.dx_joins.specs.Looking.{numbers_at_places}
use Rattle.dx_joins.specs.Planning.{IsJoinPlan, Pairs, first_place}
use Rattle.dx_joins.proofs.Places.{joined_from, joined_is}
use Rattle.dx_joins.proofs.Collections.{collects_more}

pub gathered_width : (p : Plan) (row buffer : List ℕ) → IsJoinPlan p → buffer ≡ numbers_at_places row p.places.items → length buffer ≡ length p.kept.items
gathered_width p row buffer i e =
    let a = ap length e in
    let c = ap length i.places in
    let d = length-map p.kept.items (first_place (p.left.items ++ p.right.items)) in
    a ∙ long p.places.items ∙ c ∙ d
  where
    long : (xs : List ℕ) → length (numbers_at_places row xs) ≡ length xs
    long xs = length-map xs (slice_index row)

-- what is collected of a pair whose rows agree
pub paired : (result : Result Bool AllocError) (p : Plan) (marks : List Bool) (r s buffer : List ℕ) (old new : Collection) → IsJoinPlan p → length r ≡ length p.left.items → AllMarked marks s
    → numbers_at_places (r ++ s) p.firsts.items ≡ s → buffer ≡ numbers_at_places (r ++ s) p.places.items
    → IfOk result (λ full. Collects full old new (λ t. t ≡ buffer)) → IfOk result (λ full. Collects full old new (Pairs p marks r s))
paired (Err e) p marks r s buffer old new i w m a b k = tt
paired (Ok full) p marks r s buffer old new i w m a b k = collects_more full old new (λ t. t ≡ buffer) (Pairs p marks r s) (λ t. (
  (λ e. record { marked = m; joined = joined_from p.left.items p.right.items p.kept.items p.firsts.items p.places.items r s i.once w i.firsts i.places a t (e ∙ b) }),
  (λ q. joined_is p.left.items p.right.items p.kept.items p.places.items r s t i.known i.places q.joined ∙ sym b),
)) k

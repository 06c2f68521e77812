-- Sorted lists without doubles.
use Rattle.std.proofs.Common.{◌≡◌, ℕ, List, [], ◌∷◌, refl}
use Rattle.std.specs.Cmp.Lexicographic.{slice_cmp, pointwise}
use Rattle.std.specs.Ordering.{nat_cmp}
use Rattle.std.specs.Str.{bytes_eq}
use Rattle.std.specs.List.{dedup, AllByRecursion}
use Rattle.std.specs.List.Sorted.{IsStrictlySortedBy, IsSorted, IsPermutation}
use Rattle.std.specs.declared.cmp.Ordering.TheVariants.{Less}
use Rattle.std.proofs.lemmas.List.Kept.{IsStrictlySortedBy-dedup, Contains-dedup, Contains-from_dedup}
use Rattle.std.proofs.lemmas.List.Sorted.{Contains-permutation}
use Rattle.std.proofs.lemmas.Cmp.{lists_total, nat_list_cmp_total, lists_equiv, nat_list_eq_equiv}
use Rattle.std.proofs.lemmas.Slice.Eq.{bytes_eq-Decides, slice_eq-Decides}
use Rattle.std.specs.Cmp.Lexicographic.{lists_ties, texts_ties}
use Rattle.dx_base.specs.Members.{◌∈◌, here, there}
use Rattle.dx_model.specs.Rules.{TuplesAscend}
use Rattle.dx_base.proofs.Members.{contains_from_in, in_from_contains}

each_below : (t : List (List ℕ)) (ts : List (List (List ℕ))) → AllByRecursion (λ u. slice_cmp (slice_cmp nat_cmp) t u ≡ Less) ts
    → (u : List (List ℕ)) → u ∈ ts → slice_cmp (slice_cmp nat_cmp) t u ≡ Less
each_below t [] h u m = elim m [ ]
each_below t (v ∷ ts) h u (here e) = rw (← e) h.0
each_below t (v ∷ ts) h u (there m) = each_below t ts h.1 u m

ascend_from : (ts : List (List (List ℕ))) → IsStrictlySortedBy (slice_cmp (slice_cmp nat_cmp)) ts → TuplesAscend ts
unfolding IsStrictlySortedBy
ascend_from [] h = tt
ascend_from (t ∷ ts) h = (each_below t ts h.0, ascend_from ts h.1)

pub ascend_dedup : (ts : List (List (List ℕ))) → IsSorted (slice_cmp (slice_cmp nat_cmp)) ts → TuplesAscend (dedup (pointwise bytes_eq) ts)
ascend_dedup ts h = ascend_from _ (IsStrictlySortedBy-dedup (lists_total nat_list_cmp_total) (lists_ties (slice_cmp nat_cmp) texts_ties) ts h)

pub same_members : (xs ys : List (List (List ℕ))) → IsPermutation xs ys → IsPermutation ys xs → (t : List (List ℕ)) → (t ∈ dedup (pointwise bytes_eq) ys → t ∈ xs) × (t ∈ xs → t ∈ dedup (pointwise bytes_eq) ys)
same_members xs ys p q t = (
  (λ m. in_from_contains xs t (Contains-permutation ys xs t q (Contains-from_dedup (pointwise bytes_eq) ys t (contains_from_in m)))),
  (λ m. in_from_contains _ t (Contains-dedup (lists_equiv nat_list_eq_equiv) (λ x y e. (slice_eq-Decides bytes_eq-Decides x y _ refl).0 e) ys t (Contains-permutation xs ys t p (contains_from_in m)))),
)

-- Lists that were sorted, and of which equal items were taken out; facts among them.
use Rattle.std.proofs.Common.{◌≡◌, List, [], ◌∷◌, Bool, true, refl, sym, ◌∙◌}
use Rattle.std.specs.Cmp.{IsTotalOrder, IsEquivalence}
use Rattle.std.specs.List.{dedup, AllByRecursion}
use Rattle.std.specs.List.Sorted.{IsSorted, IsStrictlySortedBy, IsPermutation}
use Rattle.std.specs.List.Retain.{IsFiltered, DiffersFromLast}
use Rattle.std.specs.Ordering.{eq_by_cmp, ordering_then, nat_cmp}
use Rattle.std.specs.Cmp.Lexicographic.{slice_cmp}
use Rattle.std.specs.declared.cmp.Ordering.{Ordering}
use Rattle.std.specs.declared.cmp.Ordering.TheVariants.{Less, Equal, Greater}
use Rattle.std.proofs.lemmas.List.Filters.{dedup_is}
use Rattle.std.proofs.lemmas.List.Kept.{IsStrictlySortedBy-dedup, Contains-dedup, Contains-from_dedup}
use Rattle.std.proofs.lemmas.List.Sorted.{Contains-permutation, IsPermutation-sym}
use Rattle.std.proofs.lemmas.Map.Lookups.{exact_unsigned}
use Rattle.dx_base.specs.Members.{◌≈◌, here, there, Each}
use Rattle.dx_base.proofs.Members.{contains_from_in, in_from_contains}
use Rattle.dx_model.specs.declared.facts.Fact.{Fact}
use Rattle.dx_model.specs.contracts.facts.FactOrd.TheImpl.{cmp-value as fact_order}
use Rattle.dx_model.specs.contracts.facts.FactOrd.TheImpl.Laws.{total-law as fact_order_total, matches_eq-law as fact_ties}
use Rattle.dx_model.specs.contracts.facts.FactEq.TheImpl.Laws.{laws-law as fact_equiv}
use Rattle.dx_model.specs.contracts.facts.FactPartialEq.TheImpl.{eq-value as fact_same}
use Rattle.dx_model.specs.Values.{Ascends, FactsAscend, fact_cmp, value_cmp}
use Rattle.dx_model.proofs.Orders.{fact_exact, facts_compare}

module _ {X : Type 0} (cmp : X → X → Ordering) (total : IsTotalOrder cmp) (same : X → X → Bool) (equiv : IsEquivalence same)
    (ties : (x y : X) → same x y ≡ eq_by_cmp cmp x y) (exact : (x y : X) → cmp x y ≡ Equal → x ≡ y) where
  each_after : (x : X) (xs : List X) → AllByRecursion (λ y. cmp x y ≡ Less) xs → Each xs (λ y. cmp x y ≡ Less)
  each_after x [] h y k = elim k [ ]
  each_after x (z ∷ xs) h y (here e) = rw (← e) h.0
  each_after x (z ∷ xs) h y (there k) = each_after x xs h.1 y k

  ascend_from : (xs : List X) → IsStrictlySortedBy cmp xs → Ascends (λ x y. cmp x y ≡ Less) xs
  unfolding IsStrictlySortedBy
  ascend_from [] h = tt
  ascend_from (x ∷ xs) h = (each_after x xs h.0, ascend_from xs h.1)

  pub once_ascends : (ms ns : List X) → IsSorted cmp ms → IsFiltered (DiffersFromLast same) [] ms ns → Ascends (λ x y. cmp x y ≡ Less) ns
  once_ascends ms ns sorted filtered =
      rw (dedup_is same ms ns filtered) (ascend_from (dedup same ms) (IsStrictlySortedBy-dedup total ties ms sorted))

  same_exact : (x y : X) → same x y ≡ true → x ≡ y
  same_exact x y e = equal (cmp x y) refl (sym (ties x y) ∙ e)
    where
      equal : (o : Ordering) → cmp x y ≡ o → eq_by_cmp cmp x y ≡ true → x ≡ y
      equal Equal d e = exact x y d
      equal Less d e = absurd (cc)
      equal Greater d e = absurd (cc)

  pub once_same : (ls ms ns : List X) → IsPermutation ls ms → IsFiltered (DiffersFromLast same) [] ms ns → ns ≈ ls
  once_same ls ms ns moved filtered =
      rw (dedup_is same ms ns filtered) (
        (λ x k. in_from_contains ls x
            (Contains-permutation ms ls x (IsPermutation-sym ls ms moved) (Contains-from_dedup same ms x (contains_from_in k)))),
        (λ x k. in_from_contains (dedup same ms) x
            (Contains-dedup equiv same_exact ms x (Contains-permutation ls ms x moved (contains_from_in k)))),
      )

-- ---- facts

pub fact_exactly : (a b : Fact) → fact_order.it a b ≡ Equal → a ≡ b
fact_exactly a b e =
    let d : fact_cmp a b ≡ Equal = sym (facts_compare a b) ∙ e in
    let rows = fact_exact a b d in
    let tables = table (nat_cmp a.table b.table) refl d in
    λ i. record { table = tables i; row = rows i }
  where
    table : (o : Ordering) → nat_cmp a.table b.table ≡ o → ordering_then o (slice_cmp value_cmp a.row b.row) ≡ Equal → a.table ≡ b.table
    table Less d k = absurd (cc)
    table Greater d k = absurd (cc)
    table Equal d k = exact_unsigned a.table b.table d

ascend_as : (xs : List Fact) → Ascends (λ a b. fact_order.it a b ≡ Less) xs → FactsAscend xs
ascend_as [] a = tt
ascend_as (x ∷ xs) a = ((λ y m. sym (facts_compare x y) ∙ a.0 y m), ascend_as xs a.1)

pub facts_ascend : (ms ns : List Fact) → IsSorted fact_order.it ms → IsFiltered (DiffersFromLast fact_same.it) [] ms ns → FactsAscend ns
facts_ascend ms ns s f =
    ascend_as ns (once_ascends fact_order.it fact_order_total fact_same.it fact_equiv (λ a b. fact_ties a b) fact_exactly ms ns s f)

pub facts_same : (ls ms ns : List Fact) → IsPermutation ls ms → IsFiltered (DiffersFromLast fact_same.it) [] ms ns → ns ≈ ls
facts_same = once_same fact_order.it fact_order_total fact_same.it fact_equiv (λ a b. fact_ties a b) fact_exactly

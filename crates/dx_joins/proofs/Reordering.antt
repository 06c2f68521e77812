-- Patterns in another order have the same matches.
use Rattle.std.proofs.Common.{◌≡◌, ◌∙◌, ◌<◌, ◌^◌, ℕ, List, [], ◌∷◌, length, refl, sym, subst, Result, Ok, Err, Option, Some, None}
use Rattle.std.specs.Prelude.{IfOk, IsPermutation, MatchOption}
use Rattle.std.proofs.lemmas.List.Concat.{length-flat_map}
use Rattle.std.proofs.lemmas.List.Sorted.{Contains-permutation, IsPermutation-sym, sum_by-IsPermutation}
use Rattle.dx_base.specs.Members.{◌∈◌, ◌⊆◌, Each, here}
use Rattle.dx_base.proofs.Members.{contains_from_in, from_flat_map, in_flat_map, in_from_contains}
use Rattle.dx_instance.specs.Cells.{NumberTable}
use Rattle.dx_joins.specs.declared.pattern.Pattern.{Pattern}
use Rattle.dx_joins.specs.Collecting.{MoreThan}
use Rattle.dx_joins.specs.Joining.{variables_of_patterns}
use Rattle.dx_joins.specs.Planning.{IsMatchRow, HasMatchRows}
use Rattle.dx_joins.proofs.Collections.{more_same}
use Rattle.std.specs.Prelude.{Bool}

pub member : {X : Type 0} (xs ys : List X) → IsPermutation xs ys → xs ⊆ ys
member xs ys p x m = in_from_contains ys x (Contains-permutation xs ys x p (contains_from_in m))

pub member_back : {X : Type 0} (xs ys : List X) → IsPermutation xs ys → ys ⊆ xs
member_back xs ys p = member ys xs (IsPermutation-sym xs ys p)

pub each_in : {X : Type 0} (P : X → Type 0) (xs ys : List X) → IsPermutation xs ys → Each xs P → Each ys P
each_in P xs ys p h x m = h x (member_back xs ys p x m)

pub some_in : {X : Type 0} (xs ys : List X) → IsPermutation xs ys → ¬ (xs ≡ []) → ¬ (ys ≡ [])
some_in [] ys p some is = some refl
some_in (x ∷ xs) ys p some is = elim (subst (λ zs. x ∈ zs) is (member (x ∷ xs) ys p x (here refl))) [ ]

pub few_in : (ps qs : List Pattern) → IsPermutation ps qs → length (variables_of_patterns ps) < 2 ^ 32 → length (variables_of_patterns qs) < 2 ^ 32
few_in ps qs p few =
    let one = length-flat_map (λ (p : Pattern). p.variables.items) ps in
    let other = length-flat_map (λ (p : Pattern). p.variables.items) qs in
    let same = sum_by-IsPermutation (λ (p : Pattern). length p.variables.items) ps qs p in
    let e = other ∙ same ∙ sym one in
    subst (λ n. n < 2 ^ 32) (sym e) few

pub shown_in : (ps qs : List Pattern) (shown : List ℕ) → IsPermutation ps qs → shown ⊆ variables_of_patterns ps → shown ⊆ variables_of_patterns qs
shown_in ps qs shown p h x m =
    let k = from_flat_map (λ (p : Pattern). p.variables.items) ps (h x m) in
    in_flat_map (λ (p : Pattern). p.variables.items) (member ps qs p k.0 k.1) k.2

told_in : (T : List NumberTable) (marks : List Bool) (ps qs : List Pattern) (shown t : List ℕ) → IsPermutation ps qs → IsMatchRow T marks qs shown t → IsMatchRow T marks ps shown t
told_in T marks ps qs shown t p (numbers, says, is) = (numbers, λ q m. says q (member ps qs p q m), is)

pub reordered : (T : List NumberTable) (marks : List Bool) (ps qs : List Pattern) (shown : List ℕ) (most : ℕ) (o : Option NumberTable) → IsPermutation ps qs
    → MatchOption o (MoreThan most (IsMatchRow T marks qs shown)) (λ r. HasMatchRows T marks qs shown r)
    → MatchOption o (MoreThan most (IsMatchRow T marks ps shown)) (λ r. HasMatchRows T marks ps shown r)
reordered T marks ps qs shown most None p h = more_same most (IsMatchRow T marks qs shown) (IsMatchRow T marks ps shown) (λ t k. told_in T marks ps qs shown t p k) h
reordered T marks ps qs shown most (Some r) p h = record {
  width = h.width;
  ascend = h.ascend;
  exact = λ t. (
    λ m. told_in T marks ps qs shown t p ((h.exact t).0 m),
    λ k. (h.exact t).1 (told_in T marks qs ps shown t (IsPermutation-sym ps qs p) k),
  );
}

pub reordered_result : {E : Type 0} (T : List NumberTable) (marks : List Bool) (ps qs : List Pattern) (shown : List ℕ) (most : ℕ) (r : Result (Option NumberTable) E)
    → IsPermutation ps qs → IfOk r (λ o. MatchOption o (MoreThan most (IsMatchRow T marks qs shown)) (λ t. HasMatchRows T marks qs shown t))
    → IfOk r (λ o. MatchOption o (MoreThan most (IsMatchRow T marks ps shown)) (λ t. HasMatchRows T marks ps shown t))
reordered_result T marks ps qs shown most (Ok o) p h = reordered T marks ps qs shown most o p h
reordered_result T marks ps qs shown most (Err e) p h = tt

-- Lists of numbers that ascend.
use Rattle.std.proofs.Common.{◌≡◌, ◌∙◌, ℕ, zero, suc, ◌<◌, ◌≤◌, true, List, [], ◌∷◌, refl, sym, arith, inl, inr, eqb}
use Rattle.std.proofs.Common.{length, get_or, drop, Result, Ok, Err, add-one}
use Rattle.std.specs.Prelude.{◌⊎◌}
use Rattle.std.specs.Result.{is_ok}
use Rattle.std.specs.Ordering.{nat_cmp}
use Rattle.std.specs.List.{dedup}
use Rattle.std.specs.List.Retain.{IsFiltered, DiffersFromLast}
use Rattle.std.specs.List.Sorted.{IsBinarySearchResult, IsPermutation, IsSorted, IsStrictlyIncreasing}
use Rattle.std.proofs.lemmas.Bool.{cases_lt}
use Rattle.std.proofs.lemmas.List.{get_or_default}
use Rattle.std.proofs.lemmas.List.Filters.{dedup_is}
use Rattle.std.proofs.lemmas.List.Kept.{Contains-dedup_nat}
use Rattle.std.proofs.lemmas.List.Sorted.{Contains-permutation, searched}
use Rattle.std.proofs.lemmas.Map.Keys.{IsStrictlyIncreasing-dedup}
use Rattle.dx_base.specs.Members.{◌∈◌, ◌⊆◌, here, there}
use Rattle.dx_base.proofs.Members.{contains_from_in, in_from_contains}

pub far : (xs : List ℕ) → IsStrictlyIncreasing xs → (i j : ℕ) → i ≤ j → j < length xs → get_or xs i 0 ≤ get_or xs j 0
far xs up i zero h k = let e : i ≡ 0 = omega arith in rw e (omega arith)
far xs up i (suc j) h k = elim (cases_lt i (suc j)) [
  | inl l ↦
      let r = far xs up i j (omega arith) (omega arith) in
      let s = rw add-one at (up j (omega arith)) in
      omega (arith, r, s)
  | inr l ↦ let e : i ≡ suc j = omega arith in rw e (omega arith)
]

-- a number that is there is found
pub is_among : (xs : List ℕ) (x : ℕ) (r : Result ℕ ℕ) → IsBinarySearchResult (λ y. nat_cmp y x) xs r → IsStrictlyIncreasing xs
    → x ∈ xs → is_ok r ≡ true
is_among xs x (Ok i) b up m = refl
is_among xs x (Err i) b up m =
    let s = searched xs x (Err i) b (far xs up) in
    let k = contains_from_in m in
    let e : get_or xs k.0 0 ≡ x = get_or_default xs k.0 0 x k.1 ∙ k.2 in
    elim (cases_lt k.0 i) [
      | inl l ↦ let f = s.1 k.0 l in absurd (omega (arith, e, f))
      | inr l ↦ let f = s.2 k.0 l k.1 in absurd (omega (arith, e, f))
    ]

-- numbers in order, each once
pub all_of : (xs ys zs : List ℕ) → IsPermutation xs ys → IsFiltered (DiffersFromLast eqb) [] ys zs → xs ⊆ zs
all_of xs ys zs p f x m =
    rw (dedup_is eqb ys zs f) (in_from_contains (dedup eqb ys) x (Contains-dedup_nat ys x (Contains-permutation xs ys x p (contains_from_in m))))

pub up_of : (ys zs : List ℕ) → IsSorted nat_cmp ys → IsFiltered (DiffersFromLast eqb) [] ys zs → IsStrictlyIncreasing zs
up_of ys zs s f = rw (dedup_is eqb ys zs f) (IsStrictlyIncreasing-dedup ys s)

-- the first, and the rest
pub rest_all : (xs : List ℕ) (n : ℕ) → n ∈ xs → (n ≡ get_or xs 0 0) ⊎ (n ∈ drop 1 xs)
rest_all [] n m = elim m [ ]
rest_all (x ∷ xs) n (here e) = inl (sym e)
rest_all (x ∷ xs) n (there m) = inr m

pub only : (xs : List ℕ) (n : ℕ) → length xs ≡ 1 → n ∈ xs → n ≡ get_or xs 0 0
only [] n l m = absurd (omega arith)
only (y ∷ []) n l (here d) = sym d
only (y ∷ []) n l (there m) = elim m [ ]
only (y ∷ (z ∷ xs)) n l m = absurd (omega arith)

pub at_most_one : (xs : List ℕ) (n m : ℕ) → length xs ≤ 1 → n ∈ xs → m ∈ xs → n ≡ m
at_most_one [] n m l i j = elim i [ ]
at_most_one (y ∷ []) n m l (here d) (here e) = sym d ∙ e
at_most_one (y ∷ []) n m l (there i) j = elim i [ ]
at_most_one (y ∷ []) n m l (here d) (there j) = elim j [ ]
at_most_one (y ∷ (z ∷ xs)) n m l i j = absurd (omega arith)

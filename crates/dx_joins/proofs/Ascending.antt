-- Rows whose first ones ascend.
use Rattle.std.proofs.Common.{◌≡◌, ◌+◌, ◌-◌, ◌<◌, ◌++◌, ◌∷◌, ℕ, List, [], subst, arith, length, get_or, take, inl, inr}
use Rattle.std.specs.declared.cmp.Ordering.TheVariants.{Less}
use Rattle.std.proofs.lemmas.Bool.{cases_lt}
use Rattle.std.proofs.lemmas.Cmp.{nat_list_cmp_total}
use Rattle.std.proofs.lemmas.List.{length_push, take_all, take-append-le, get_or_default}
use Rattle.std.proofs.lemmas.List.Quantifiers.{all_pairs_push}
use Rattle.dx_instance.specs.Cells.{NumbersAscend, numbers_at}
use Rattle.dx_instance.proofs.TableFacts.{numbers_cmp}
use Rattle.dx_joins.specs.Collecting.{FirstAscend}

pub first_push : (n : ℕ) (rows : List (List ℕ)) (row : List ℕ) → FirstAscend n rows → FirstAscend n (rows ++ row ∷ [])
first_push n rows row f =
    let e = take-append-le n rows (row ∷ []) f.0 in
    (omega (arith, f.0, length_push rows row), rw e f.1)

pub first_one : (rows : List (List ℕ)) (row : List ℕ) → 0 ≡ length rows → FirstAscend 1 (rows ++ row ∷ [])
first_one [] row e = (omega arith, λ i j d h k. absurd (omega arith))
first_one (r ∷ rows) row e = absurd (omega arith)

pub first_more : (n : ℕ) (rows : List (List ℕ)) (row : List ℕ) → n ≡ length rows → 0 < length rows → numbers_cmp (numbers_at rows (length rows - 1)) row ≡ Less → FirstAscend n rows → FirstAscend (n + 1) (rows ++ row ∷ [])
first_more n rows row e some less f =
    let long = length_push rows row in
    let all : take (n + 1) (rows ++ row ∷ []) ≡ rows ++ row ∷ [] = take_all (n + 1) (rows ++ row ∷ []) (omega (arith, long)) in
    let up : NumbersAscend rows = subst NumbersAscend (take_all n rows (omega arith)) f.1 in
    (omega (arith, long), rw all (all_pairs_push (λ r s. numbers_cmp r s ≡ Less) rows row up (under up)))
  where
    under : NumbersAscend rows → (k : ℕ) (d : List ℕ) → k < length rows → numbers_cmp (get_or rows k d) row ≡ Less
    under up k d b =
        let p = numbers_at rows (length rows - 1) in
        elim (cases_lt k (length rows - 1)) [
          | inl c ↦
              let g = up k (length rows - 1) d c (omega (arith, b)) in
              let g2 : numbers_cmp (get_or rows k d) p ≡ Less = rw (get_or_default rows (length rows - 1) [] d (omega (arith, b))) g in
              nat_list_cmp_total.trans (get_or rows k d) p row g2 less
          | inr c ↦
              let q : k ≡ length rows - 1 = omega (arith, b, c) in
              rw (get_or_default rows k d [] b, q) less
        ]

pub first_all : (n : ℕ) (rows : List (List ℕ)) → n ≡ length rows → NumbersAscend rows → FirstAscend n rows
first_all n rows e up = (omega arith, rw (take_all n rows (omega arith)) up)

pub all_first : (n : ℕ) (rows : List (List ℕ)) → n ≡ length rows → FirstAscend n rows → NumbersAscend rows
all_first n rows e f = subst NumbersAscend (take_all n rows (omega arith)) f.1

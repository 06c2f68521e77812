-- What rows become in a document.
use Rattle.std.proofs.Common.{◌≡◌, ℕ, zero, suc, ◌+◌, ◌-◌, ◌<◌, ◌≤◌, List, [], ◌∷◌, length, get_or, drop, Some, None, Bool, true, false, refl, ap, ◌∙◌, subst, arith}
use Rattle.std.specs.Prelude.{cond, filter}
use Rattle.std.proofs.lemmas.List.{drop_all, drop_more}
use Rattle.dx_model.specs.declared.values.Value.{Value}
use Rattle.dx_model.specs.Covers.{same_value}
use Rattle.dx_model.specs.Tables.{cell}
use Rattle.dx_schema.specs.Forest.{Forest, set, Tree, forest_of}
use Rattle.dx_schema.specs.Tables.{count}
use Rattle.dx_instance.specs.Places.{IsFirstWith, row_at, value_at}
use Rattle.dx_instance.specs.Stored.{TableRows, rows_of}
use Rattle.dx_instance.proofs.PlaceFacts.{other_value}
use Rattle.dx_model.proofs.Before.{same_value-refl}
use Rattle.dx_schema.proofs.Numbered.{dropped_here}
use Rattle.dx_json.specs.Standing.{Stand}

-- ---- rows that pass a test

kept_gap : {X : Type 0} (test : X → Bool) (xs : List X) (d : X) (a k : ℕ) → a + k ≤ length xs → ((p : ℕ) → a ≤ p → p < a + k → test (get_or xs p d) ≡ false) → filter test (drop a xs) ≡ filter test (drop (a + k) xs)
kept_gap test xs d a zero h n = let z : a ≡ a + 0 = omega arith in ap (λ m. filter test (drop m xs)) z
kept_gap test xs d a (suc k) h n =
    let s : (a + 1) + k ≡ a + suc k = omega arith in
    let this : filter test (drop a xs) ≡ cond (test (get_or xs a d)) (get_or xs a d ∷ filter test (drop (a + 1) xs)) (filter test (drop (a + 1) xs)) = ap (filter test) (drop_more xs a d (omega (arith, h))) in
    let gone : cond (test (get_or xs a d)) (get_or xs a d ∷ filter test (drop (a + 1) xs)) (filter test (drop (a + 1) xs)) ≡ filter test (drop (a + 1) xs) = rw (n a (omega arith) (omega arith)) refl in
    this ∙ gone ∙ kept_gap test xs d (a + 1) k (omega (arith, h)) (λ p g c. n p (omega (arith, g)) (omega (arith, c))) ∙ ap (λ m. filter test (drop m xs)) s

kept_next : {X : Type 0} (test : X → Bool) (xs : List X) (d : X) (p : ℕ) → p < length xs → test (get_or xs p d) ≡ true → filter test (drop p xs) ≡ get_or xs p d ∷ filter test (drop (p + 1) xs)
kept_next test xs d p h y =
    let this : filter test (drop p xs) ≡ cond (test (get_or xs p d)) (get_or xs p d ∷ filter test (drop (p + 1) xs)) (filter test (drop (p + 1) xs)) = ap (filter test) (drop_more xs p d h) in
    let stays : cond (test (get_or xs p d)) (get_or xs p d ∷ filter test (drop (p + 1) xs)) (filter test (drop (p + 1) xs)) ≡ get_or xs p d ∷ filter test (drop (p + 1) xs) = rw y refl in
    this ∙ stays

-- the rows from a place on that have this value in a column
abbrev pub rows_left : List TableRows → ℕ → ℕ → Value → ℕ → List (List Value)
rows_left I t c x a = filter (λ row. same_value (cell row c) x) (drop a (rows_of I t))

-- the next of them
pub next_row : (I : List TableRows) (t c a p : ℕ) (x : Value) (columns : List ℕ) (values : List Value) → columns ≡ c ∷ [] → values ≡ x ∷ [] → IsFirstWith I t columns values a (Some p)
    → (p < length (rows_of I t)) × (rows_left I t c x a ≡ row_at I t p ∷ rows_left I t c x (p + 1))
next_row I t c a p x columns values cs vs first = go (subst (λ ws. IsFirstWith I t (c ∷ []) ws a (Some p)) vs (subst (λ ds. IsFirstWith I t ds values a (Some p)) cs first))
  where
    go : IsFirstWith I t (c ∷ []) (x ∷ []) a (Some p) → (p < length (rows_of I t)) × (rows_left I t c x a ≡ row_at I t p ∷ rows_left I t c x (p + 1))
    go f =
        let test : List Value → Bool = λ row. same_value (cell row c) x in
        let has : value_at I t p c ≡ x = (let e : value_at I t p c ∷ [] ≡ x ∷ [] = f.3 in cc e) in
        let yes : test (row_at I t p) ≡ true = ap (λ v. same_value v x) has ∙ same_value-refl x in
        let s : a + (p - a) ≡ p = omega (arith, f.0) in
        let gap : rows_left I t c x a ≡ filter test (drop (a + (p - a)) (rows_of I t)) = kept_gap test (rows_of I t) [] a (p - a) (omega (arith, s, f.1)) (λ q g k. other_value (value_at I t q c) x (λ e. f.2 q g (omega (arith, k, s)) (ap (λ v. v ∷ []) e))) in
        (f.1, gap ∙ ap (λ m. filter test (drop m (rows_of I t))) s ∙ kept_next test (rows_of I t) [] p f.1 yes)

-- none is left
pub no_row_left : (I : List TableRows) (t c a : ℕ) (x : Value) (columns : List ℕ) (values : List Value) → columns ≡ c ∷ [] → values ≡ x ∷ [] → a ≤ length (rows_of I t) → IsFirstWith I t columns values a None → rows_left I t c x a ≡ []
no_row_left I t c a x columns values cs vs le first = go (subst (λ ws. IsFirstWith I t (c ∷ []) ws a None) vs (subst (λ ds. IsFirstWith I t ds values a None) cs first))
  where
    go : IsFirstWith I t (c ∷ []) (x ∷ []) a None → rows_left I t c x a ≡ []
    go f =
        let test : List Value → Bool = λ row. same_value (cell row c) x in
        let m = length (rows_of I t) in
        let s : a + (m - a) ≡ m = omega (arith, le) in
        let gap : rows_left I t c x a ≡ filter test (drop (a + (m - a)) (rows_of I t)) = kept_gap test (rows_of I t) [] a (m - a) (omega (arith, s)) (λ q g k. other_value (value_at I t q c) x (λ e. f q g (omega (arith, k, s)) (ap (λ v. v ∷ []) e))) in
        gap ∙ ap (filter test) (drop_all (a + (m - a)) (rows_of I t) (omega (arith, s)))

-- ---- inner sets

-- the next of the sets has its table there, and so have those after it
pub stand_at : (I : List TableRows) (table : ℕ) (ts : List Tree) (k : ℕ) (t : Tree) → k < length ts → t ≡ get_or ts k t → Stand I table (forest_of (drop k ts)) → Stand I table (set t.label t.inner (forest_of (drop (k + 1) ts)))
stand_at I table ts k t lt is s = subst (Stand I table) (dropped_here ts k t lt is) s

-- so have its inner sets
pub stand_inner : (I J : List TableRows) (table next : ℕ) (ts : List Tree) (k : ℕ) (t : Tree) (inner : Forest) → k < length ts → t ≡ get_or ts k t → Stand I table (forest_of (drop k ts)) → J ≡ I → inner ≡ t.inner → next ≡ suc table → Stand J next inner
stand_inner I J table next ts k t inner lt is s j i n = rw (j, i, n) (stand_at I table ts k t lt is s).2

pub stand_rest : (I J : List TableRows) (table next : ℕ) (ts : List Tree) (k : ℕ) (t : Tree) → k < length ts → t ≡ get_or ts k t → Stand I table (forest_of (drop k ts)) → J ≡ I → next ≡ suc (table + count t.inner) → Stand J next (forest_of (drop (k + 1) ts))
stand_rest I J table next ts k t lt is s j n = rw (j, n) (stand_at I table ts k t lt is s).3

-- Terms of atoms: numbers for variables and maps of nulls are one thing.
use Rattle.std.proofs.Common.{◌≡◌, ◌∙◌, ℕ, zero, suc, ◌+◌, ◌<◌, ◌≤◌, ◌⊎◌, List, [], ◌∷◌, inl, inr, refl, sym, ap, arith, length, get_or, map}
use Rattle.std.specs.List.{AllZip}
use Rattle.std.specs.List.Sorted.{IsNonDecreasingBy, IsPartitionPoint}
use Rattle.std.specs.Ordering.{is_lt, nat_cmp, ordering_index, ordering_reverse}
use Rattle.std.specs.declared.cmp.Ordering.TheVariants.{Less, Greater}
use Rattle.std.proofs.lemmas.Cmp.{nat_cmp_total}
use Rattle.std.proofs.lemmas.List.Sorted.{searchable_from_sorted}
use Rattle.dx_base.proofs.Ranges.{nat_less, nat_self}
use Rattle.std.proofs.lemmas.Bool.{cases_Bool, cases_eq, cases_order}
use Rattle.std.proofs.lemmas.List.{get_or_default}
use Rattle.dx_base.specs.Members.{◌∈◌, Each, here, there}
use Rattle.dx_base.proofs.Members.{contains_from_in, in_at}
use Rattle.dx_model.specs.declared.values.NullId.{NullId}
use Rattle.dx_model.specs.declared.values.Value.{Value}
use Rattle.dx_model.specs.declared.values.Value.TheVariants.{Const, Null}
use Rattle.dx_model.specs.Instances.{given, moved, same_null}
use Rattle.dx_model.proofs.Decided.{decide_in, same_value}
use Rattle.dx_model.proofs.Maps.{same_null-refl, same_null-true}
use Rattle.dx_instance.specs.Numbers.{ValuesDiffer, value_of}
use Rattle.dx_instance.specs.Shown.{NumbersBelow, NumberedInstance, shown_row}
use Rattle.dx_instance.proofs.ShownFacts.{number_same}
use Rattle.dx_blocks.specs.Numbered.{IsNullNumber, null_under}
use Rattle.dx_solver.specs.declared.atom.Term.{Term}
use Rattle.dx_solver.specs.declared.atom.Term.TheVariants.{Number, Variable}
use Rattle.dx_solver.specs.Questions.{answered, number_under}
use Rattle.dx_core.specs.Asking.{AscendStrictly, IsTermOf, pairs_by}

-- ---- the number of a value

abbrev place_in : (S : List Value) (v : Value) → (v ∈ S) ⊎ (¬ (v ∈ S)) → ℕ
place_in S v (inl m) = (contains_from_in m).0
place_in S v (inr k) = 0

abbrev pub number_in : List Value → Value → ℕ
number_in S v = place_in S v (decide_in same_value v S)

pub number_is : (S : List Value) (y : ℕ) → ValuesDiffer S → y < length S → number_in S (value_of S y) ≡ y
number_is S y a h = by (decide_in same_value (value_of S y) S)
  where
    by : (d : (value_of S y ∈ S) ⊎ (¬ (value_of S y ∈ S))) → place_in S (value_of S y) d ≡ y
    by (inl m) =
        let c = contains_from_in m in
        number_same S c.0 y a c.1 h (get_or_default S c.0 (Const []) (value_of S y) c.1 ∙ c.2)
    by (inr k) = absurd (k (in_at S y (Const []) h))

-- ---- ascending numbers

at_least : (ns : List ℕ) (i : ℕ) → AscendStrictly ns → i < length ns → i ≤ get_or ns i 0
at_least ns zero up h = omega arith
at_least ns (suc i) up h =
    let l = up i (suc i) 0 (omega arith) h in
    let k = at_least ns i up (omega (arith, h)) in
    omega (arith, l, k)

-- there are no more of them than numbers below the bound
pub ascend_few : (ns : List ℕ) (n : ℕ) → AscendStrictly ns → Each ns (λ x. x < n) → length ns ≤ n
ascend_few [] n up below = omega arith
ascend_few (x ∷ ns) n up below =
    let h : length ns < length (x ∷ ns) = omega arith in
    let k = at_least (x ∷ ns) (length ns) up h in
    let b = below (get_or (x ∷ ns) (length ns) 0) (in_at (x ∷ ns) (length ns) 0 h) in
    omega (arith, k, b)

pub rises : (ns : List ℕ) → AscendStrictly ns → (i j : ℕ) → i ≤ j → j < length ns → get_or ns i 0 ≤ get_or ns j 0
rises ns up i j h k = elim (cases_eq i j) [
  | inl e ↦ omega (arith, ap (λ x. get_or ns x 0) e)
  | inr d ↦ let l = up i j 0 (omega arith) k in omega (arith, l)
]

searchable : (ns : List ℕ) (x : ℕ) → AscendStrictly ns → IsNonDecreasingBy (λ y. ordering_index (nat_cmp y x)) ns
searchable ns x up = searchable_from_sorted nat_cmp_total (λ y. y) ns x (λ k d l h.
    let less = up k (k + 1) d (omega arith) h in
    ap is_lt (nat_cmp_total.antisymm (get_or ns (k + 1) d) (get_or ns k d)
    ∙ ap ordering_reverse (nat_less (get_or ns k d) (get_or ns (k + 1) d) less)))

-- what is not found is not there
pub not_found : (ns : List ℕ) (x i : ℕ) → AscendStrictly ns
    → (IsNonDecreasingBy (λ y. ordering_index (nat_cmp y x)) ns
    → IsPartitionPoint (λ y. nat_cmp y x ≡ Less) (λ y. nat_cmp y x ≡ Greater) ns i) → ¬ (x ∈ ns)
not_found ns x i up p m =
    let w = contains_from_in m in
    let e : get_or ns w.0 0 ≡ x = get_or_default ns w.0 0 x w.1 ∙ w.2 in
    let split = p (searchable ns x up) in
    elim (cases_order w.0 i) [
      | inl d ↦ above (rw e at (split.1 w.0 0 (omega arith) w.1))
      | inr o ↦ elim o [
        | inl l ↦ below (rw e at (split.0 w.0 0 (omega arith) l))
        | inr l ↦ above (rw e at (split.1 w.0 0 (omega arith) w.1))
      ]
    ]
  where
    above : nat_cmp x x ≡ Greater → ⊥
    above q = let s = nat_self x in cc (q, s)

    below : nat_cmp x x ≡ Less → ⊥
    below q = let s = nat_self x in cc (q, s)

-- ---- a map of nulls gives numbers for variables

-- the number of what the null of a variable becomes
abbrev pub answer_of : List Value → (NullId → Value) → List ℕ → ℕ → ℕ
answer_of S g nulls v = number_in S (moved g (value_of S (get_or nulls v 0)))

module _ (S : List Value) (apart : ValuesDiffer S) (nulls : List ℕ) (g : NullId → Value) where
  term_is : (x y : ℕ) (t : Term) → IsTermOf nulls x t → x < length S → y < length S
      → (¬ (x ∈ nulls) → moved g (value_of S x) ≡ value_of S x) → moved g (value_of S x) ≡ value_of S y
      → y ≡ number_under (answer_of S g nulls) t
  term_is x y (Number n) z h k own e = sym (z.0 ∙ number_same S x y apart h k (sym (own z.1) ∙ e))
  term_is x y (Variable v) z h k own e =
      sym (ap (λ (i : ℕ). number_in S (moved g (value_of S i))) z.1 ∙ (ap (number_in S) e ∙ number_is S y apart k))

  head : (v w : Value) (vs ws : List Value) → ◌≡◌ {A = List Value} (v ∷ vs) (w ∷ ws) → v ≡ w
  head v w vs ws e = cc e

  tail : (v w : Value) (vs ws : List Value) → ◌≡◌ {A = List Value} (v ∷ vs) (w ∷ ws) → vs ≡ ws
  tail v w vs ws e = cc e

  pub terms_become : (xs ys : List ℕ) (ts : List Term) → AllZip (IsTermOf nulls) xs ts → NumbersBelow (length S) xs → NumbersBelow (length S) ys
      → ((x : ℕ) → x ∈ xs → ¬ (x ∈ nulls) → moved g (value_of S x) ≡ value_of S x)
      → map (moved g) (shown_row S xs) ≡ shown_row S ys → ys ≡ map (number_under (answer_of S g nulls)) ts
  terms_become [] [] [] z h k own e = refl
  terms_become [] [] (t ∷ ts) z h k own e = absurd z
  terms_become [] (y ∷ ys) ts z h k own e = absurd (cc e)
  terms_become (x ∷ xs) ys [] z h k own e = absurd z
  terms_become (x ∷ xs) [] (t ∷ ts) z h k own e = absurd (cc e)
  terms_become (x ∷ xs) (y ∷ ys) (t ∷ ts) z h k own e =
      let first : y ≡ number_under (answer_of S g nulls) t = term_is x y t z.0 (h x (here refl)) (k y (here refl)) (own x (here refl)) (head _ _ _ _ e) in
      let rest : ys ≡ map (number_under (answer_of S g nulls)) ts = terms_become xs ys ts z.1 (λ i m. h i (there m)) (λ i m. k i (there m)) (λ i m. own i (there m)) (tail _ _ _ _ e) in
      ap (λ i. i ∷ ys) first ∙ ap (λ is. number_under (answer_of S g nulls) t ∷ is) rest

-- ---- numbers for variables give a map of nulls

module _ (N : NumberedInstance) (apart : ValuesDiffer N.symbols) where
  -- numbers of nulls differ where their nulls do
  pub null_same : (n m : ℕ) → IsNullNumber N n → IsNullNumber N m → null_under N n ≡ null_under N m → n ≡ m
  null_same n m a b e = number_same N.symbols n m apart a.within b.within (a.is ∙ (ap Null e ∙ sym b.is))

  pub not_given : (nulls xs : List ℕ) (k : NullId) → ((n : ℕ) → n ∈ nulls → ¬ (null_under N n ≡ k)) → given (pairs_by N nulls xs) k ≡ Null k
  not_given [] xs k none = refl
  not_given (n ∷ nulls) [] k none = refl
  not_given (n ∷ nulls) (x ∷ xs) k none = elim (cases_Bool (same_null (null_under N n) k)) [
    | inl t ↦ absurd (none n (here refl) (same_null-true (null_under N n) k t))
    | inr f ↦ rw f (not_given nulls xs k (λ m i. none m (there i)))
  ]

  pub is_given : (nulls xs : List ℕ) (v : ℕ) → Each nulls (IsNullNumber N) → AscendStrictly nulls → length xs ≡ length nulls → v < length nulls
      → given (pairs_by N nulls xs) (null_under N (get_or nulls v 0)) ≡ value_of N.symbols (get_or xs v 0)
  is_given [] xs v are up long h = absurd (omega (arith, h))
  is_given (n ∷ nulls) [] v are up long h = absurd (omega (arith, long))
  is_given (n ∷ nulls) (x ∷ xs) zero are up long h = rw (same_null-refl (null_under N n)) refl
  is_given (n ∷ nulls) (x ∷ xs) (suc v) are up long h =
      let k : v < length nulls = omega (arith, h) in
      let m = get_or nulls v 0 in
      elim (cases_Bool (same_null (null_under N n) (null_under N m))) [
        | inl t ↦
            let e : n ≡ m = null_same n m (are n (here refl)) (are m (there (in_at nulls v 0 k))) (same_null-true (null_under N n) (null_under N m) t) in
            let l : n < m = up 0 (suc v) 0 (omega arith) h in
            absurd (omega (arith, e, l))
        | inr f ↦ rw f (is_given nulls xs v (λ i j. are i (there j)) (λ i j d a b. up (suc i) (suc j) d (omega (arith, a)) (omega (arith, b)))
            (omega (arith, long)) k)
      ]

  module _ (nulls xs : List ℕ) (are : Each nulls (IsNullNumber N)) (up : AscendStrictly nulls) (long : length xs ≡ length nulls) where
    -- what is none of the nulls stays
    pub stays : (x : ℕ) → x < length N.symbols → ¬ (x ∈ nulls) → moved (given (pairs_by N nulls xs)) (value_of N.symbols x) ≡ value_of N.symbols x
    stays x h k = by (value_of N.symbols x) refl
      where
        by : (v : Value) → value_of N.symbols x ≡ v → moved (given (pairs_by N nulls xs)) v ≡ v
        by (Const t) e = refl
        by (Null n) e = not_given nulls xs n (λ m i d.
            let q : m ≡ x = number_same N.symbols m x apart (are m i).within h ((are m i).is ∙ (ap Null d ∙ sym e)) in
            k (rw (← q) i))

    pub term_given : (x : ℕ) (t : Term) → IsTermOf nulls x t → x < length N.symbols
        → value_of N.symbols (number_under (answered xs) t) ≡ moved (given (pairs_by N nulls xs)) (value_of N.symbols x)
    term_given x (Number n) z h = ap (value_of N.symbols) z.0 ∙ sym (stays x h z.1)
    term_given x (Variable v) z h =
        let n = get_or nulls v 0 in
        let a = are n (in_at nulls v 0 z.0) in
        sym (ap (λ (i : ℕ). moved (given (pairs_by N nulls xs)) (value_of N.symbols i)) (sym z.1)
        ∙ (ap (moved (given (pairs_by N nulls xs))) a.is ∙ is_given nulls xs v are up long z.0))

    pub terms_given : (row : List ℕ) (ts : List Term) → AllZip (IsTermOf nulls) row ts → NumbersBelow (length N.symbols) row
        → shown_row N.symbols (map (number_under (answered xs)) ts) ≡ map (moved (given (pairs_by N nulls xs))) (shown_row N.symbols row)
    terms_given [] [] z h = refl
    terms_given [] (t ∷ ts) z h = absurd z
    terms_given (x ∷ row) [] z h = absurd z
    terms_given (x ∷ row) (t ∷ ts) z h =
        let first = term_given x t z.0 (h x (here refl)) in
        let rest = terms_given row ts z.1 (λ i m. h i (there m)) in
        cc (first, rest)

-- ---- terms of a row

pub terms_within : (nulls xs : List ℕ) (ts : List Term) → AllZip (IsTermOf nulls) xs ts → (v : ℕ) → Variable v ∈ ts → v < length nulls
terms_within nulls [] [] z v m = elim m [ ]
terms_within nulls [] (t ∷ ts) z v m = absurd z
terms_within nulls (x ∷ xs) [] z v m = absurd z
terms_within nulls (x ∷ xs) (t ∷ ts) z v (here e) = (rw e at z.0).0
terms_within nulls (x ∷ xs) (t ∷ ts) z v (there m) = terms_within nulls xs ts z.1 v m

-- the variable of a null that stands in the row is a term
pub has_variable : (nulls xs : List ℕ) (ts : List Term) → AllZip (IsTermOf nulls) xs ts → (x : ℕ) → x ∈ xs → x ∈ nulls
    → (v : ℕ) × (Variable v ∈ ts) × (v < length nulls) × (get_or nulls v 0 ≡ x)
has_variable nulls [] ts z x m i = elim m [ ]
has_variable nulls (y ∷ xs) [] z x m i = absurd z
has_variable nulls (y ∷ xs) (Number n ∷ ts) z x (here e) i = absurd (z.0.1 (rw e i))
has_variable nulls (y ∷ xs) (Variable v ∷ ts) z x (here e) i = (v, here refl, z.0.0, z.0.1 ∙ e)
has_variable nulls (y ∷ xs) (t ∷ ts) z x (there m) i =
    let r = has_variable nulls xs ts z.1 x m i in (r.0, there r.1, r.2, r.3)

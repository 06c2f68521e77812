-- Lists that grow in loops.
use Rattle.std.proofs.Common.{◌≡◌, ℕ, ◌+◌, ◌<◌, ◌≤◌, List, [], ◌∷◌, ◌++◌, length, get_or, take, refl, sym, ◌∙◌, ap, subst, arith, inl, inr, ◌⊎◌, Result, Ok, Err}
use Rattle.std.specs.Prelude.{map, flat_map, sum, ◌↔◌, IfOk}
use Rattle.std.proofs.lemmas.Bool.{cases_lt}
use Rattle.std.proofs.lemmas.List.{append-nil, map_push, take_all, take_more}
use Rattle.std.proofs.lemmas.List.Concat.{flat_map-append}
use Rattle.std.proofs.lemmas.List.Sums.{sum_by_push}
use Rattle.dx_base.specs.Members.{◌∈◌, here, there}
use Rattle.dx_base.proofs.Members.{from_append, from_map, in_left, in_map, in_right}
use Rattle.dx_script.specs.declared.form.Test.{Test}
use Rattle.dx_script.specs.declared.form.Test.TheVariants.{Columns, Literal}
use Rattle.std.specs.declared.alloc.AllocError.{AllocError}
use Rattle.dx_instance.specs.Cells.{IsOrderOf, NumberTable}
use Rattle.dx_eval.specs.Keeping.{AreKeys, column_numbers, other_in, own_in}

pub flat_more : {X Y : Type 0} (f : X → List Y) (xs : List X) (i : ℕ) (x : X) (old new more : List Y) → i < length xs → x ≡ get_or xs i x → f x ≡ more → old ≡ flat_map f (take i xs) → new ≡ old ++ more → new ≡ flat_map f (take (i + 1) xs)
flat_more {X} {Y} f xs i x old new more h is same o n =
    let all : take (i + 1) xs ≡ take i xs ++ x ∷ [] = take_more xs i x h ∙ ap (λ (z : X). take i xs ++ z ∷ []) (sym is) in
    n ∙ (ap (λ (z : List Y). z ++ more) o ∙ sym (ap (flat_map f) all ∙ (flat_map-append f (take i xs) (x ∷ []) ∙ ap (λ (z : List Y). flat_map f (take i xs) ++ z) (append-nil (f x) ∙ same))))

pub flat_same : {X Y : Type 0} (f : X → List Y) (xs : List X) (i : ℕ) (x : X) (old : List Y) → i < length xs → x ≡ get_or xs i x → f x ≡ [] → old ≡ flat_map f (take i xs) → old ≡ flat_map f (take (i + 1) xs)
flat_same {X} {Y} f xs i x old h is same o = flat_more f xs i x old old [] h is same o (sym (append-nil old))

-- ---- tests

pub no_other : (t : Test) → ((c d : ℕ) → ¬ (t ≡ Columns c d)) → other_in t ≡ []
no_other (Columns c d) n = absurd (n c d refl)
no_other (Literal d text) n = refl

pub no_own : (t : Test) → ((c d : ℕ) → ¬ (t ≡ Columns c d)) → own_in t ≡ []
no_own (Columns c d) n = absurd (n c d refl)
no_own (Literal d text) n = refl

-- ---- places

pub one_place_more : (n : ℕ) (old new : List ℕ) → ((k : ℕ) → (k ∈ old) ↔ (k < n)) → new ≡ old ++ n ∷ [] → (k : ℕ) → (k ∈ new) ↔ (k < n + 1)
one_place_more n old new f e k = rw e (
  (λ m. elim (from_append old m) [ inl l ↦ let h = (f k).0 l in omega (arith, h) | inr r ↦ last r ]),
  (λ h. elim (below h) [ inl l ↦ in_left (n ∷ []) ((f k).1 l) | inr q ↦ in_right old (here q) ]),
)
  where
    last : k ∈ (n ∷ []) → k < n + 1
    last (here q) = omega (arith, q)
    last (there m) = elim m [ ]

    below : k < n + 1 → (k < n) ⊎ (n ≡ k)
    below h = elim (cases_lt k n) [ inl l ↦ inl l | inr g ↦ inr (omega (arith, h, g)) ]

-- ---- rows

-- one key more
pub keys_more : (f : List ℕ → List ℕ) (rows keys new : List (List ℕ)) (i : ℕ) (row key : List ℕ) → i < length rows → row ≡ get_or rows i [] → key ≡ f row → keys ≡ map f (take i rows) → new ≡ keys ++ key ∷ [] → new ≡ map f (take (i + 1) rows)
keys_more f rows keys new i row key h is k o n =
    let all : take (i + 1) rows ≡ take i rows ++ row ∷ [] = take_more rows i [] h ∙ ap (λ z. take i rows ++ z ∷ []) (sym is) in
    n ∙ (ap (λ z. z ++ key ∷ []) o ∙ (ap (λ z. map f (take i rows) ++ z ∷ []) k ∙ sym (ap (map f) all ∙ map_push f (take i rows) row)))

-- ---- cells

pub sum_more : {X : Type 0} (f : X → ℕ) (xs : List X) (i : ℕ) (x : X) (n m : ℕ) → i < length xs → x ≡ get_or xs i x → m ≡ f x → n ≡ sum (map f (take i xs)) → n + m ≡ sum (map f (take (i + 1) xs))
sum_more {X} f xs i x n m h is k o =
    let all : take (i + 1) xs ≡ take i xs ++ x ∷ [] = take_more xs i x h ∙ ap (λ (z : X). take i xs ++ z ∷ []) (sym is) in
    let e : sum (map f (take (i + 1) xs)) ≡ sum (map f (take i xs)) + f x = ap (λ z. sum (map f z)) all ∙ (ap sum (map_push f (take i xs) x) ∙ sum_by_push (λ (y : ℕ). y) (map f (take i xs)) (f x)) in
    omega (arith, e, k, o)

-- the keys of all rows, in order
pub keys_are : (r : Result NumberTable AllocError) (old : NumberTable) (columns : List ℕ) (rows : List (List ℕ)) (n : ℕ) → length rows ≤ n → old.rows ≡ map (column_numbers columns) (take n rows) → IfOk r (IsOrderOf old)
    → IfOk r (λ keys. AreKeys columns rows keys.rows)
keys_are (Err e) old columns rows n h is k = tt
keys_are (Ok keys) old columns rows n h is k =
    let all : old.rows ≡ map (column_numbers columns) rows = is ∙ ap (map (column_numbers columns)) (take_all n rows h) in
    record {
      ascend = k.ascend;
      exact = λ key. (
        (λ m. let w = from_map (column_numbers columns) rows (subst (λ (l : List (List ℕ)). key ∈ l) all (k.only key m)) in (w.0, w.1, sym w.2)),
        (λ w. k.kept key (subst (λ (l : List (List ℕ)). key ∈ l) (sym all) (subst (λ z. z ∈ map (column_numbers columns) rows) (sym w.2) (in_map (column_numbers columns) w.1)))),
      );
    }

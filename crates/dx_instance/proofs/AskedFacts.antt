-- What `all` and `find` answer over a range of numbers or a list, and `all` over two lists at once.
use Rattle.std.proofs.Common.{◌≡◌, ℕ, zero, suc, ◌+◌, ◌<◌, ◌≤◌, List, [], ◌∷◌, length, map, refl, sym, ap, subst, arith, Bool, true, false, MatchBool, IsTrue, ◌↔◌, Option, None, Some, Bor, get_or}
use Rattle.std.specs.Prelude.{MatchOption, IfSome}
use Rattle.std.specs.Bool.{OnTrue}
use Rattle.std.specs.List.{AllWithin, HoldsAt, range_with_len, zip}
use Rattle.std.proofs.lemmas.Bool.{false≢true}
use Rattle.dx_base.specs.Members.{◌∈◌, Each, here, there}
use Rattle.dx_base.proofs.Asked.{all_tells}
use Rattle.dx_base.proofs.Members.{contains_from_in, item_in}
use Rattle.dx_base.proofs.Ranges.{to_range}

pub on_true : (b : Bool) (P : Type 0) → (IsTrue b → P) → OnTrue b P
on_true true P f = f refl
on_true false P f = tt

-- `all` over n numbers from a on, if it answered true
pub all_in_range : (P Q : ℕ → Type 0) (r : Bool) (a n : ℕ)
    → MatchBool r (AllWithin P (range_with_len a n) 0 (length (range_with_len a n))) ((k : ℕ) × (k < length (range_with_len a n)) × HoldsAt Q (range_with_len a n) k)
    → IsTrue r → (x : ℕ) → a ≤ x → x < a + n → P x
all_in_range P Q true a n h t x l u = let c = contains_from_in (to_range a n x l u) in subst P c.2 (h c.0 x (omega arith) c.1)
all_in_range P Q false a n h t x l u = absurd (false≢true t)

-- `find` over numbers up to a known end
pub first_until : (P : ℕ → Type 0) (o : Option ℕ) (a e n : ℕ) → e ≡ n
    → MatchOption o ((k : ℕ) → a ≤ k → k < e → ¬ (P k)) (λ i. (a ≤ i) × (i < e) × P i × ((k : ℕ) → a ≤ k → k < i → ¬ (P k)))
    → MatchOption o ((k : ℕ) → a ≤ k → k < n → ¬ (P k)) (λ i. (a ≤ i) × (i < n) × P i × ((k : ℕ) → a ≤ k → k < i → ¬ (P k)))
first_until P o a e n s h = subst (λ (m : ℕ). MatchOption o ((k : ℕ) → a ≤ k → k < m → ¬ (P k)) (λ i. (a ≤ i) × (i < m) × P i × ((k : ℕ) → a ≤ k → k < i → ¬ (P k)))) s h

-- `find` over a list, if it found something
pub found_item : {X : Type 0} (P Q : X → Type 0) (xs : List X) (o : Option (Bor X))
    → MatchOption o (AllWithin Q xs 0 (length xs)) (λ x. P x.now × (i : ℕ) × (i < length xs) × HoldsAt (λ y. y ≡ x.now) xs i × AllWithin Q xs 0 i)
    → IfSome o (λ x. (x.now ∈ xs) × P x.now)
found_item P Q xs None h = tt
found_item P Q xs (Some x) h = (item_in xs h.1 x.now h.2 (sym (h.3 x.now)), h.0)

maps_from_zip : {A C : Type 0} (f : A → C) (xs : List A) (ys : List C) → length xs ≡ length ys → Each (zip xs ys) (λ (p : A × C). f p.0 ≡ p.1) → map f xs ≡ ys
maps_from_zip f [] [] h e = refl
maps_from_zip f [] (y ∷ ys) h e = absurd (omega (arith, h))
maps_from_zip f (x ∷ xs) [] h e = absurd (omega (arith, h))
maps_from_zip f (x ∷ xs) (y ∷ ys) h e =
    let p = e (x, y) (here refl) in
    let q = maps_from_zip f xs ys (omega (arith, h)) (λ p m. e p (there m)) in
    cc (p, q)

zip_from_maps : {A C : Type 0} (f : A → C) (xs : List A) (ys : List C) → map f xs ≡ ys → Each (zip xs ys) (λ (p : A × C). f p.0 ≡ p.1)
zip_from_maps f [] ys h p m = elim m [ ]
zip_from_maps f (x ∷ xs) [] h p m = elim m [ ]
zip_from_maps {A} {C} f (x ∷ xs) (y ∷ ys) h p (here e) = subst (λ (q : A × C). f q.0 ≡ q.1) e (cc h)
zip_from_maps f (x ∷ xs) (y ∷ ys) h p (there m) = zip_from_maps f xs ys (cc h) p m

-- `all` over two lists of one length, of which it asks whether f takes the first to the second
pub maps_to : {A C : Type 0} (f : A → C) (r : Bool) (xs : List A) (ys : List C) → length xs ≡ length ys
    → MatchBool r (AllWithin (λ (p : A × C). f p.0 ≡ p.1) (zip xs ys) 0 (length (zip xs ys))) ((k : ℕ) × (k < length (zip xs ys)) × HoldsAt (λ (p : A × C). ¬ (f p.0 ≡ p.1)) (zip xs ys) k)
    → IsTrue r ↔ (map f xs ≡ ys)
maps_to f r xs ys h t =
    let each = all_tells (λ p. f p.0 ≡ p.1) (λ p. ¬ (f p.0 ≡ p.1)) r (zip xs ys) (λ p e n. n e) t in
    ((λ e. maps_from_zip f xs ys h (each.0 e)), (λ e. each.1 (zip_from_maps f xs ys e)))

-- of a pair of two lists the first is in the first list
pub first_in_zip : {A C : Type 0} (xs : List A) (ys : List C) (k : ℕ) (p : A × C) → k < length (zip xs ys) → p ≡ get_or (zip xs ys) k p → p.0 ∈ xs
first_in_zip [] ys k p h e = absurd (omega (arith, h))
first_in_zip (x ∷ xs) [] k p h e = absurd (omega (arith, h))
first_in_zip {A} {C} (x ∷ xs) (y ∷ ys) zero p h e = here (sym (ap (λ (q : A × C). q.0) e))
first_in_zip (x ∷ xs) (y ∷ ys) (suc k) p h e = there (first_in_zip xs ys k p (omega (arith, h)) e)

-- What `all` answers over a range, and over two lists at once.
use Rattle.std.proofs.Common.{◌≡◌, ℕ, zero, suc, ◌+◌, ◌<◌, ◌≤◌, List, [], ◌∷◌, length, map, refl, sym, ap, subst, arith, Bool, true, false, MatchBool, IsTrue, ◌↔◌, get_or}
use Rattle.std.specs.List.{AllWithin, HoldsAt, range_with_len, zip}
use Rattle.std.proofs.lemmas.Bool.{false≢true}
use Rattle.dx_base.specs.Members.{◌∈◌, Each, here, there}
use Rattle.dx_base.proofs.Asked.{all_tells}
use Rattle.dx_base.proofs.Members.{contains_from_in, in_at}
use Rattle.dx_base.proofs.Ranges.{from_range, to_range}

-- what `cases_from_all` gives, if all that have P make R, and with R none has Q: `all` answered true exactly if R
pub range_tells : (P Q : ℕ → Type 0) (R : Type 0) (r : Bool) (a n : ℕ) → (((x : ℕ) → a ≤ x → x < a + n → P x) → R) → ((x : ℕ) → a ≤ x → x < a + n → Q x → R → ⊥)
    → MatchBool r (AllWithin P (range_with_len a n) 0 (length (range_with_len a n))) ((k : ℕ) × (k < length (range_with_len a n)) × HoldsAt Q (range_with_len a n) k)
    → IsTrue r ↔ R
range_tells P Q R true a n whole apart h = ((λ t. whole each), (λ e. refl))
  where
    each : (x : ℕ) → a ≤ x → x < a + n → P x
    each x l u = let c = contains_from_in (to_range a n x l u) in subst P c.2 (h c.0 x (omega arith) c.1)
range_tells P Q R false a n whole apart h = ((λ t. absurd (false≢true t)), (λ e. absurd (no e)))
  where
    no : R → ⊥
    no e =
        let x = get_or (range_with_len a n) h.0 0 in
        let w = from_range a n x (in_at (range_with_len a n) h.0 0 h.1) in
        apart x w.0 w.1 (h.2 0) e

meet_from_zip : {A B C : Type 0} (f : A → C) (g : B → C) (xs : List A) (ys : List B) → length xs ≡ length ys → Each (zip xs ys) (λ (p : A × B). f p.0 ≡ g p.1) → map f xs ≡ map g ys
meet_from_zip f g [] [] h e = refl
meet_from_zip f g [] (y ∷ ys) h e = absurd (omega (arith, h))
meet_from_zip f g (x ∷ xs) [] h e = absurd (omega (arith, h))
meet_from_zip f g (x ∷ xs) (y ∷ ys) h e =
    let p = e (x, y) (here refl) in
    let q = meet_from_zip f g xs ys (omega (arith, h)) (λ p m. e p (there m)) in
    cc (p, q)

zip_from_meet : {A B C : Type 0} (f : A → C) (g : B → C) (xs : List A) (ys : List B) → map f xs ≡ map g ys → Each (zip xs ys) (λ (p : A × B). f p.0 ≡ g p.1)
zip_from_meet f g [] ys h p m = elim m [ ]
zip_from_meet f g (x ∷ xs) [] h p m = elim m [ ]
zip_from_meet {A} {B} {C} f g (x ∷ xs) (y ∷ ys) h p (here e) = subst (λ (q : A × B). f q.0 ≡ g q.1) e (cc h)
zip_from_meet f g (x ∷ xs) (y ∷ ys) h p (there m) = zip_from_meet f g xs ys (cc h) p m

-- `all` over two lists of one length, of which it asks whether f of the first is g of the second
pub maps_meet : {A B C : Type 0} (f : A → C) (g : B → C) (r : Bool) (xs : List A) (ys : List B) → length xs ≡ length ys
    → MatchBool r (AllWithin (λ (p : A × B). f p.0 ≡ g p.1) (zip xs ys) 0 (length (zip xs ys))) ((k : ℕ) × (k < length (zip xs ys)) × HoldsAt (λ (p : A × B). ¬ (f p.0 ≡ g p.1)) (zip xs ys) k)
    → IsTrue r ↔ (map f xs ≡ map g ys)
maps_meet f g r xs ys h t =
    let each = all_tells (λ p. f p.0 ≡ g p.1) (λ p. ¬ (f p.0 ≡ g p.1)) r (zip xs ys) (λ p e n. n e) t in
    ((λ e. meet_from_zip f g xs ys h (each.0 e)), (λ e. each.1 (zip_from_meet f g xs ys e)))

-- of a pair of two lists the second is in the second list
pub second_in_zip : {A C : Type 0} (xs : List A) (ys : List C) (k : ℕ) (p : A × C) → k < length (zip xs ys) → p ≡ get_or (zip xs ys) k p → p.1 ∈ ys
second_in_zip [] ys k p h e = absurd (omega (arith, h))
second_in_zip (x ∷ xs) [] k p h e = absurd (omega (arith, h))
second_in_zip {A} {C} (x ∷ xs) (y ∷ ys) zero p h e = here (sym (ap (λ (q : A × C). q.1) e))
second_in_zip (x ∷ xs) (y ∷ ys) (suc k) p h e = there (second_in_zip xs ys k p (omega (arith, h)) e)

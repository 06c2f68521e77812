-- Loops that are true exactly where each member has a property.
use Rattle.std.proofs.Common.{◌≡◌, ℕ, ◌<◌, ◌≤◌, ◌+◌, List, [], ◌∷◌, ◌++◌, length, get_or, take, refl, sym, ◌∙◌, subst, inl, inr}
use Rattle.std.specs.Prelude.{IsTrue, ◌↔◌, ◌||◌, Bool, true, false}
use Rattle.std.specs.Bool.{OnTrue}
use Rattle.std.proofs.lemmas.Bool.{false≢true, true≢false}
use Rattle.std.proofs.lemmas.List.{take_more, take_all}
use Rattle.dx_base.specs.Members.{◌∈◌, here, there, Each}
use Rattle.dx_base.proofs.Members.{in_at, from_append}

-- a test that failed tells that the whole does not hold
pub not_so : {b : Bool} {P Q : Type 0} → b ≡ false → (IsTrue b ↔ P) → (Q → P) → (IsTrue false ↔ Q)
not_so e w f = ((λ t. absurd (false≢true t)), (λ q. absurd (true≢false (sym (w.1 (f q)) ∙ e))))

-- what each of the first members has, and the next has
pub each_more : {X : Type 0} (P : X → Type 0) (xs : List X) (i : ℕ) (x : X) → i < length xs → x ≡ get_or xs i x
    → Each (take i xs) P → P x → Each (take (i + 1) xs) P
each_more {X} P xs i x h e a p y m = elim (from_append (take i xs) (rw (take_more xs i x h) at m)) [ inl l ↦ a y l | inr r ↦ last r ]
  where
    last : y ∈ (get_or xs i x ∷ []) → P y
    last (here d) = subst P (e ∙ d) p
    last (there n) = elim n [ ]

-- what each member has, the one at a place has
pub each_item : {X : Type 0} (P : X → Type 0) (xs : List X) (i : ℕ) (x : X) → i < length xs → x ≡ get_or xs i x → Each xs P → P x
each_item P xs i x h e a = a x (rw e (in_at xs i x h))

-- a loop that came to its end tells that the whole holds
pub all_so : {X Q : Type 0} (P : X → Type 0) (xs : List X) (i : ℕ) → length xs ≤ i → Each (take i xs) P → (Each xs P → Q) → (IsTrue true ↔ Q)
all_so P xs i h a f = ((λ t. f (λ x m. a x (rw (take_all i xs h) m))), (λ q. refl))

-- what follows from a test that is true
pub on_true : (b : Bool) (P : Type 0) → (b ≡ true → P) → OnTrue b P
on_true true P f = f refl
on_true false P f = tt

-- neither of two tests is true
pub neither : (a b : Bool) → (a || b) ≡ false → (a ≡ false) × (b ≡ false)
neither true b h = absurd (cc h)
neither false b h = (refl, h)

-- each member of a list, and of one more
pub each_push : (P : ℕ → Type 0) (xs : List ℕ) (x : ℕ) → Each xs P → P x → Each (xs ++ x ∷ []) P
each_push P xs x h p y m = elim (from_append xs m) [ inl l ↦ h y l | inr r ↦ last r ]
  where
    last : y ∈ (x ∷ []) → P y
    last (here e) = subst P e p
    last (there n) = elim n [ ]

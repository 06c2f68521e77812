-- What `all` and `any` answer, as a fact of the members of a list.
use Rattle.std.proofs.Common.{◌≡◌, ℕ, ◌<◌, List, [], ◌∷◌, length, get_or, refl, sym, subst, arith, Bool, true, false, MatchBool, IsTrue, ◌↔◌}
use Rattle.std.specs.List.{AllWithin, HoldsAt}
use Rattle.std.proofs.lemmas.Bool.{false≢true}
use Rattle.dx_base.specs.Members.{◌∈◌, Each}
use Rattle.dx_base.proofs.Members.{contains_from_in, in_at}

-- a list with a place has a first member
first_of : {X : Type 0} (xs : List X) (k : ℕ) → k < length xs → X
first_of [] k h = absurd (omega (arith, h))
first_of (x ∷ xs) k h = x

-- what `cases_from_all` gives, if no member has both P and Q: `all` answered true exactly if each member has P
pub all_tells : {X : Type 0} (P Q : X → Type 0) (r : Bool) (xs : List X) → ((x : X) → P x → Q x → ⊥)
    → MatchBool r (AllWithin P xs 0 (length xs)) ((k : ℕ) × (k < length xs) × HoldsAt Q xs k) → IsTrue r ↔ Each xs P
all_tells {X} P Q true xs apart h = (λ t. each, λ e. refl)
  where
    each : Each xs P
    each x m = let c = contains_from_in m in subst P c.2 (h c.0 x (omega arith) c.1)
all_tells {X} P Q false xs apart h = (λ t. absurd (false≢true t), λ e. absurd (no e))
  where
    no : Each xs P → ⊥
    no e = let d = first_of xs h.0 h.1 in apart (get_or xs h.0 d) (e (get_or xs h.0 d) (in_at xs h.0 d h.1)) (h.2 d)

-- what `cases_from_any` gives, if no member has both P and Q: `any` answered true exactly if some member has P
pub any_tells : {X : Type 0} (P Q : X → Type 0) (r : Bool) (xs : List X) → ((x : X) → P x → Q x → ⊥)
    → MatchBool r ((k : ℕ) × (k < length xs) × HoldsAt P xs k) (AllWithin Q xs 0 (length xs)) → IsTrue r ↔ ((x : X) × (x ∈ xs) × P x)
any_tells {X} P Q true xs apart h = let d = first_of xs h.0 h.1 in (λ t. (get_or xs h.0 d, in_at xs h.0 d h.1, h.2 d), λ e. refl)
any_tells {X} P Q false xs apart h = (λ t. absurd (false≢true t), λ s. absurd (no s))
  where
    no : (x : X) × (x ∈ xs) × P x → ⊥
    no s = let c = contains_from_in s.1 in apart s.0 s.2 (subst Q c.2 (h c.0 s.0 (omega arith) c.1))

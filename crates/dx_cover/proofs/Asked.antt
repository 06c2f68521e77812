-- What `all` and `any` answer with false, as a fact of the members of a list.
use Rattle.std.proofs.Common.{◌≡◌, ℕ, ◌<◌, List, [], ◌∷◌, length, get_or, subst, sym, arith, Bool, true, false, MatchBool}
use Rattle.std.specs.List.{AllWithin, HoldsAt}
use Rattle.std.proofs.lemmas.Bool.{false≢true}
use Rattle.dx_base.specs.Members.{◌∈◌, Each}
use Rattle.dx_base.proofs.Members.{contains_from_in, in_at}

-- what `cases_from_any` gives: where `any` answered false, each member has Q
pub told_none : {X : Type 0} (P Q : X → Type 0) (r : Bool) (xs : List X)
    → MatchBool r ((k : ℕ) × (k < length xs) × HoldsAt P xs k) (AllWithin Q xs 0 (length xs)) → r ≡ false → Each xs Q
told_none {X} P Q true xs h e = absurd (false≢true (sym e))
told_none {X} P Q false xs h e = λ x m. let c = contains_from_in m in subst Q c.2 (h c.0 x (omega arith) c.1)

-- what `cases_from_any` gives: where `any` answered true, some member has P
pub told_one : {X : Type 0} (P Q : X → Type 0) (r : Bool) (xs : List X)
    → MatchBool r ((k : ℕ) × (k < length xs) × HoldsAt P xs k) (AllWithin Q xs 0 (length xs)) → r ≡ true → (x : X) × (x ∈ xs) × P x
told_one {X} P Q false xs h e = absurd (false≢true e)
told_one {X} P Q true [] h e = absurd (omega (arith, h.1))
told_one {X} P Q true (y ∷ ys) h e = (get_or (y ∷ ys) h.0 y, in_at (y ∷ ys) h.0 y h.1, h.2 y)

-- what `cases_from_all` gives: where `all` answered false, some member has Q
pub told_some : {X : Type 0} (P Q : X → Type 0) (r : Bool) (xs : List X)
    → MatchBool r (AllWithin P xs 0 (length xs)) ((k : ℕ) × (k < length xs) × HoldsAt Q xs k) → r ≡ false → (x : X) × (x ∈ xs) × Q x
told_some {X} P Q true xs h e = absurd (false≢true (sym e))
told_some {X} P Q false [] h e = absurd (omega (arith, h.1))
told_some {X} P Q false (y ∷ ys) h e = (get_or (y ∷ ys) h.0 y, in_at (y ∷ ys) h.0 y h.1, h.2 y)

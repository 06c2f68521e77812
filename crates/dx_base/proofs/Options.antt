-- What holds of a `MatchOption` if its option is known.
use Rattle.std.proofs.Common.{◌≡◌, ℕ, zero, suc, get_or, refl, subst}
use Rattle.std.specs.Prelude.{MatchOption, None, Option, Some, replicate}

-- the option has a value
pub some_left : {X : Type 0} (A : Type 0) (B : X → Type 0) (o : Option X) (x : X) → o ≡ Some x → MatchOption o A B → B x
some_left {X} A B o x e m = subst (λ (p : Option X). MatchOption p A B) e m

-- the option has no value
pub none_left : {X : Type 0} (A : Type 0) (B : X → Type 0) (o : Option X) → MatchOption o A B → ((x : X) → ¬ (o ≡ Some x)) → A
none_left A B None m n = m
none_left A B (Some x) m n = absurd (n x refl)

-- the option is none
pub none_of : {X : Type 0} (A : Type 0) (B : X → Type 0) (o : Option X) → o ≡ None → MatchOption o A B → A
none_of {X} A B o e m = subst (λ (p : Option X). MatchOption p A B) e m

-- no number
abbrev pub nothing : Option ℕ
nothing = None

-- where nothing is known of any, nothing is known of each
pub none_known : (n v : ℕ) → get_or (replicate n nothing) v nothing ≡ nothing
none_known zero v = refl
none_known (suc n) zero = refl
none_known (suc n) (suc v) = none_known n v

-- none is not some
pub no_number : (n : ℕ) → ◌≡◌ {A = Option ℕ} None (Some n) → ⊥
no_number n e = cc

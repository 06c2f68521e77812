-- A text has one first fault, and none where its tokens are a text of the form and go up to its end.
use Rattle.std.proofs.Common.{◌≡◌, ◌⊎◌, ℕ, suc, ◌≤◌, List, length, take, get_or, Result, Ok, Err, Option, Some, None, refl, sym, ap, ◌∙◌, subst, inl, inr}
use Rattle.std.proofs.Math.Nat.{le_refl}
use Rattle.std.proofs.lemmas.List.{take_all, get_or_default}
use Rattle.std.proofs.lemmas.Option.{none-some, some_pair_parts}
use Rattle.std.proofs.lemmas.Result.{IfOk-at_ok, IfErr-at_err}
use Rattle.dx_grammar.specs.Forms.{Form, Derives, Starts, IsFirstUnexpected}
use Rattle.dx_grammar.specs.Faults.{IsUnexpectedAt, IsStoppedAt}
use Rattle.dx_grammar.proofs.Told.{start_take, fault_is_one}

-- ---- answers

pub same_ok : {A E : Type 0} (a b : A) → ◌≡◌ {A = Result A E} (Ok a) (Ok b) → a ≡ b
same_ok a b e = IfOk-at_ok (λ x. a ≡ x) e refl

pub same_err : {A E : Type 0} (e f : E) → ◌≡◌ {A = Result A E} (Err e) (Err f) → e ≡ f
same_err e f is = IfErr-at_err (λ x. e ≡ x) is refl

-- ---- a token that can't stand

-- the tokens up to a token, of tokens that are a start
pub stands : {X : Type 0} (f : Form X) (xs : List X) (k : ℕ) → k ≤ length xs → Starts f xs → Starts f (take k xs)
stands f xs k le s = start_take f k (length xs) xs le (subst (Starts f) (sym (take_all (length xs) xs (le_refl (length xs)))) s)

-- the first token that can't stand, by its number
abbrev pub unexpected_at : {X : Type 0} (f : Form X) (place_of : X → ℕ) (xs : List X) (k : ℕ) (blank : X) → IsFirstUnexpected f xs k → IsUnexpectedAt f place_of xs (place_of (get_or xs k blank))
unexpected_at f place_of xs k blank first =
    record { number = k; first = first; token = get_or xs k blank; is = get_or_default xs k blank (get_or xs k blank) first.inside; at = refl }

-- there is none where all tokens can stand
pub never_both : {X : Type 0} {f : Form X} {place_of : X → ℕ} {xs : List X} {place : ℕ} → IsUnexpectedAt f place_of xs place → ¬ (Starts f xs)
never_both {f = f} {xs = xs} u s = u.first.here (stands f xs (suc u.number) u.first.inside s)

pub one_unexpected : {X : Type 0} {f : Form X} {place_of : X → ℕ} {xs : List X} {p q : ℕ} (u : IsUnexpectedAt f place_of xs p) (v : IsUnexpectedAt f place_of xs q)
    → (u.number ≡ v.number) × (p ≡ q)
one_unexpected {f = f} {place_of = place_of} {xs = xs} u v =
    let n : u.number ≡ v.number = fault_is_one f xs u.number v.number u.first v.first in
    let same : u.token ≡ v.token = u.is ∙ ap (λ k. get_or xs k u.token) n ∙ get_or_default xs v.number u.token v.token v.first.inside ∙ sym v.is in
    (n, u.at ∙ ap place_of same ∙ sym v.at)

-- ---- a stop after all tokens

one_stop : {X K : Type 0} {f : Form X} {xs : List X} {stop : Option (ℕ × K)} {end : ℕ} {ended : K} {p q : ℕ} {k l : K}
    → IsStoppedAt f xs stop end ended p k → IsStoppedAt f xs stop end ended q l → (p ≡ q) × (k ≡ l)
one_stop {f = f} {xs = xs} {stop = stop} {end = end} {ended = ended} {p = p} {q = q} {k = k} {l = l} a b = whys a.why b.why where
  whys : (stop ≡ Some (p, k)) ⊎ ((stop ≡ None) × (p ≡ end) × (k ≡ ended) × ¬ (Derives f xs))
      → (stop ≡ Some (q, l)) ⊎ ((stop ≡ None) × (q ≡ end) × (l ≡ ended) × ¬ (Derives f xs))
      → (p ≡ q) × (k ≡ l)
  whys (inl x) (inl y) = some_pair_parts p q k l (sym x ∙ y)
  whys (inl x) (inr y) = absurd (none-some (p, k) (sym y.0 ∙ x))
  whys (inr x) (inl y) = absurd (none-some (q, l) (sym x.0 ∙ y))
  whys (inr x) (inr y) = (x.1 ∙ sym y.1, x.2 ∙ sym y.2)

-- so what is told of it is one
pub one_told : {X K E : Type 0} {f : Form X} {xs : List X} {stop : Option (ℕ × K)} {end : ℕ} {ended : K} {p q : ℕ} {k l : K} {e g : E} (told : ℕ → K → E)
    → IsStoppedAt f xs stop end ended p k → e ≡ told p k → IsStoppedAt f xs stop end ended q l → g ≡ told q l → e ≡ g
one_told {q = q} {k = k} told a x b y = let o = one_stop a b in x ∙ ap (λ i. told i k) o.0 ∙ ap (λ i. told q i) o.1 ∙ sym y

-- there is none after a text of the form that goes up to the end
pub never_stopped : {X K : Type 0} {f : Form X} {xs : List X} {stop : Option (ℕ × K)} {end : ℕ} {ended : K} {p : ℕ} {k : K}
    → stop ≡ None → Derives f xs → ¬ (IsStoppedAt f xs stop end ended p k)
never_stopped {f = f} {xs = xs} {stop = stop} {end = end} {ended = ended} {p = p} {k = k} none all s = no_why s.why where
  no_why : ¬ ((stop ≡ Some (p, k)) ⊎ ((stop ≡ None) × (p ≡ end) × (k ≡ ended) × ¬ (Derives f xs)))
  no_why (inl x) = none-some (p, k) (sym none ∙ x)
  no_why (inr x) = x.3 all

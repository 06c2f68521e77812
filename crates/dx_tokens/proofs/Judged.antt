-- A text has one fault, and what is answered of it is that fault.
use Rattle.std.proofs.Common.{◌≡◌, ◌⊎◌, ℕ, Result, Ok, Err, Option, Some, None, refl, sym, ap, ◌∙◌, subst, inl, inr}
use Rattle.std.specs.Prelude.{IfOk, IfErr}
use Rattle.dx_tokens.specs.declared.faults.TextFault.{TextFault}
use Rattle.dx_tokens.specs.declared.faults.TextFault.TheVariants.{At, TooDeep, Memory}
use Rattle.dx_tokens.specs.declared.faults.TextKind.{TextKind}
use Rattle.dx_tokens.specs.declared.faults.TextKind.TheVariants.{Character, Expected, Ended, UnknownName, Width, Unsafe}
use Rattle.dx_tokens.specs.Judged.{IsFaultBy, stop_fault, Reads}

-- ---- faults

-- a token that can't stand, one that could stand one level deeper, or a stop after all tokens
abbrev Seen : (ℕ → Type 0) → (ℕ → Type 0) → (ℕ → TextKind → Type 0) → TextFault → Type 0
Seen U D S e = ((p : ℕ) × U p × (e ≡ At p Expected)) ⊎ (((p : ℕ) × D p × (e ≡ TooDeep p)) ⊎ ((p : ℕ) × (k : TextKind) × S p k × (e ≡ At p k)))

seen : (U D : ℕ → Type 0) (S : ℕ → TextKind → Type 0) (e : TextFault) → IsFaultBy U D S e → Seen U D S e
seen U D S (At p Character) h = inr (inr (p, Character, h, refl))
seen U D S (At p Expected) h = inl (p, h, refl)
seen U D S (At p Ended) h = inr (inr (p, Ended, h, refl))
seen U D S (At p UnknownName) h = absurd h
seen U D S (At p Width) h = absurd h
seen U D S (At p Unsafe) h = absurd h
seen U D S (TooDeep p) h = inr (inl (p, h, refl))
seen U D S Memory h = absurd h

-- each way to be at fault has one place, and no two go together
pub record KeptApart (U D : ℕ → Type 0) (S : ℕ → TextKind → Type 0) : Type 0 where
  pub unexpected : (p q : ℕ) → U p → U q → p ≡ q
  pub deeper : (p q : ℕ) → D p → D q → p ≡ q
  pub stopped : (p q : ℕ) (k l : TextKind) → S p k → S q l → At p k ≡ At q l
  pub not_both : (p q : ℕ) → U p → ¬ (D q)
  pub not_stopped : (p q : ℕ) (k : TextKind) → U p ⊎ D p → ¬ (S q k)

pub one_fault_by : (U D : ℕ → Type 0) (S : ℕ → TextKind → Type 0) → KeptApart U D S → (e f : TextFault) → IsFaultBy U D S e → IsFaultBy U D S f → e ≡ f
one_fault_by U D S apart e f a b = both (seen U D S e a) (seen U D S f b) where
  both : Seen U D S e → Seen U D S f → e ≡ f
  both (inl x) (inl y) = x.2 ∙ ap (λ p. At p Expected) (apart.unexpected x.0 y.0 x.1 y.1) ∙ sym y.2
  both (inl x) (inr (inl y)) = absurd (apart.not_both x.0 y.0 x.1 y.1)
  both (inl x) (inr (inr y)) = absurd (apart.not_stopped x.0 y.0 y.1 (inl x.1) y.2)
  both (inr (inl x)) (inl y) = absurd (apart.not_both y.0 x.0 y.1 x.1)
  both (inr (inl x)) (inr (inl y)) = x.2 ∙ ap (λ p. TooDeep p) (apart.deeper x.0 y.0 x.1 y.1) ∙ sym y.2
  both (inr (inl x)) (inr (inr y)) = absurd (apart.not_stopped x.0 y.0 y.1 (inr x.1) y.2)
  both (inr (inr x)) (inl y) = absurd (apart.not_stopped y.0 x.0 x.1 (inl y.1) x.2)
  both (inr (inr x)) (inr (inl y)) = absurd (apart.not_stopped y.0 x.0 x.1 (inr y.1) x.2)
  both (inr (inr x)) (inr (inr y)) = x.3 ∙ apart.stopped x.0 y.0 x.1 y.1 x.2 y.2 ∙ sym y.3

-- there is none where none of the ways is there
pub never_faulty : (U D : ℕ → Type 0) (S : ℕ → TextKind → Type 0) → ((p : ℕ) → U p ⊎ D p → ⊥) → ((p : ℕ) (k : TextKind) → ¬ (S p k)) → (e : TextFault) → ¬ (IsFaultBy U D S e)
never_faulty U D S token stop e h = none (seen U D S e h) where
  none : ¬ (Seen U D S e)
  none (inl x) = token x.0 (inl x.1)
  none (inr (inl x)) = token x.0 (inr x.1)
  none (inr (inr x)) = stop x.0 x.1 x.2

-- a stop after all tokens is a fault
pub stop_is_fault : (U D : ℕ → Type 0) (S : ℕ → TextKind → Type 0) (end : ℕ) (stop : Option (ℕ × TextKind))
    → ((p : ℕ × TextKind) → stop ≡ Some p → ((p.1 ≡ Character) ⊎ (p.1 ≡ Ended)) × S p.0 p.1) → (stop ≡ None → S end Ended) → IsFaultBy U D S (stop_fault end stop)
stop_is_fault U D S end None some none = none refl
stop_is_fault U D S end (Some p) some none = by_kind (some p refl).0 (some p refl).1 where
  by_kind : (p.1 ≡ Character) ⊎ (p.1 ≡ Ended) → S p.0 p.1 → IsFaultBy U D S (At p.0 p.1)
  by_kind (inl e) s = subst (λ k. IsFaultBy U D S (At p.0 k)) (sym e) (subst (S p.0) e s)
  by_kind (inr e) s = subst (λ k. IsFaultBy U D S (At p.0 k)) (sym e) (subst (S p.0) e s)

-- ---- answers

-- what is answered is said, or is at fault
pub said_or_faulty : {V : Type 0} (Says : V → Type 0) (F : TextFault → Type 0) (answer : Result V TextFault) → ((v : V) → answer ≡ Ok v → Says v) → ((e : TextFault) → answer ≡ Err e → F e)
    → ((v : V) × Says v) ⊎ ((e : TextFault) × F e)
said_or_faulty Says F (Ok v) said faulty = inl (v, said v refl)
said_or_faulty Says F (Err e) said faulty = inr (e, faulty e refl)

-- the only fault is answered
pub fault_answered : {V : Type 0} (F : TextFault → Type 0) (answer : Result V TextFault) → ((e f : TextFault) → F e → F f → e ≡ f) → ((e : TextFault) → answer ≡ Err e → F e) → ((v : V) → answer ≡ Ok v → (e : TextFault) → ¬ (F e))
    → (e : TextFault) → F e → answer ≡ Err e
fault_answered F (Ok v) one faulty said e h = absurd (said v refl e h)
fault_answered {V} F (Err f) one faulty said e h = ap refused (one f e (faulty f refl) h) where
  refused : TextFault → Result V TextFault
  refused g = Err g

-- ---- what a call answers, unless memory ran out

pub reads_fault : {V : Type 0} (f : TextFault) (answer : Result V TextFault) → answer ≡ Err f → Reads (Err f) answer
reads_fault Memory answer e = tt
reads_fault (At place kind) answer e = e
reads_fault (TooDeep place) answer e = e

pub reads_ok : {V : Type 0} (Says : V → Type 0) (r answer : Result V TextFault) → Reads r answer → ((v : V) → answer ≡ Ok v → Says v) → IfOk r Says
reads_ok Says (Ok v) answer h said = said v h
reads_ok Says (Err e) answer h said = tt

pub reads_err : {V : Type 0} (F : TextFault → Type 0) (r answer : Result V TextFault) → Reads r answer → ((e : TextFault) → answer ≡ Err e → F e) → IfErr r (λ e. (e ≡ Memory) ⊎ F e)
reads_err F (Ok v) answer h faulty = tt
reads_err F (Err Memory) answer h faulty = inl refl
reads_err F (Err (At place kind)) answer h faulty = inr (faulty (At place kind) h)
reads_err F (Err (TooDeep place)) answer h faulty = inr (faulty (TooDeep place) h)

-- Which faults the ways to be at fault give, and what a call may answer, on small values.
use Rattle.std.proofs.Common.{◌≡◌, ℕ, Result, Ok, Err, Some, None, refl, ap, arith}
use Rattle.dx_tokens.specs.declared.faults.TextFault.{TextFault}
use Rattle.dx_tokens.specs.declared.faults.TextFault.TheVariants.{At, TooDeep, Memory}
use Rattle.dx_tokens.specs.declared.faults.TextKind.TheVariants.{Character, Expected, Ended, UnknownName}
use Rattle.dx_tokens.specs.Judged.{IsFaultBy, stop_fault, Reads}

-- ---- ways to be at fault

-- the token at 1 can't stand, that at 2 could one level deeper, and the text ends at 3
abbrev IsFault : TextFault → Type 0
IsFault e = IsFaultBy (λ p. p ≡ 1) (λ p. p ≡ 2) (λ p kind. (p ≡ 3) × (kind ≡ Ended)) e

-- each way gives the fault of its name
cannot_stand : IsFault (At 1 Expected)
cannot_stand = refl

one_level_deeper : IsFault (TooDeep 2)
one_level_deeper = refl

ends_early : IsFault (At 3 Ended)
ends_early = (refl, refl)

-- and no other
not_too_deep : ¬ (IsFault (TooDeep 1))
not_too_deep e = omega (arith, e)

not_a_character : ¬ (IsFault (At 3 Character))
not_a_character h = let e : Character ≡ Ended = h.1 in absurd (cc e)

no_name : ¬ (IsFault (At 1 UnknownName))
no_name h = h

no_want_of_memory : ¬ (IsFault Memory)
no_want_of_memory h = h

-- if all tokens can stand and more are wanted, the token fault behind them is told, or else the end of the text
stops_at_a_fault : stop_fault 9 (Some (4, Character)) ≡ At 4 Character
stops_at_a_fault = refl

stops_at_the_end : stop_fault 9 None ≡ At 9 Ended
stops_at_the_end = refl

-- ---- what a call may answer

abbrev value_in : Result ℕ TextFault → ℕ
value_in (Ok v) = v
value_in (Err e) = 0

abbrev place_in : Result ℕ TextFault → ℕ
place_in (Ok v) = 0
place_in (Err (At place kind)) = place
place_in (Err (TooDeep place)) = place
place_in (Err Memory) = 0

-- no other value or fault than is given
another_value : ¬ (Reads {V = ℕ} (Ok 1) (Ok 2))
another_value h = let e : 2 ≡ 1 = ap value_in h in omega (arith, e)

another_place : ¬ (Reads {V = ℕ} (Err (At 1 Ended)) (Err (At 2 Ended)))
another_place h = let e : 2 ≡ 1 = ap place_in h in omega (arith, e)

another_kind : ¬ (Reads {V = ℕ} (Err (At 1 Ended)) (Err (At 1 Character)))
another_kind h = absurd (cc h)

another_depth : ¬ (Reads {V = ℕ} (Err (TooDeep 1)) (Err (TooDeep 2)))
another_depth h = let e : 2 ≡ 1 = ap place_in h in omega (arith, e)

-- but memory may run out on any text
out_of_memory : Reads {V = ℕ} (Err Memory) (Ok 1)
out_of_memory = tt

-- What is at fault in a text whose tokens are judged one after the other, and what a call answers of it.
use Rattle.std.specs.Prelude.{◌≡◌, ℕ, Option, Some, None, Result, Ok, Err}
use Rattle.dx_tokens.specs.declared.faults.TextFault.{TextFault}
use Rattle.dx_tokens.specs.declared.faults.TextFault.TheVariants.{At, TooDeep, Memory}
use Rattle.dx_tokens.specs.declared.faults.TextKind.{TextKind}
use Rattle.dx_tokens.specs.declared.faults.TextKind.TheVariants.{Character, Expected, Ended}

-- The text is at fault so: a token can't stand, or could if sets might be nested one level deeper,
-- or the text stops after all tokens.
abbrev pub IsFaultBy : (ℕ → Type 0) → (ℕ → Type 0) → (ℕ → TextKind → Type 0) → TextFault → Type 0
IsFaultBy Unexpected Deeper Stopped (At place Expected) = Unexpected place
IsFaultBy Unexpected Deeper Stopped (At place Character) = Stopped place Character
IsFaultBy Unexpected Deeper Stopped (At place Ended) = Stopped place Ended
IsFaultBy Unexpected Deeper Stopped (At place other) = ⊥
IsFaultBy Unexpected Deeper Stopped (TooDeep place) = Deeper place
IsFaultBy Unexpected Deeper Stopped Memory = ⊥

-- the fault if all tokens can stand and more are wanted: the token fault, or that the text ends
abbrev pub stop_fault : ℕ → Option (ℕ × TextKind) → TextFault
stop_fault end (Some p) = At p.0 p.1
stop_fault end None = At end Ended

-- a call answers so, unless memory ran out
abbrev pub Reads : {V : Type 0} → Result V TextFault → Result V TextFault → Type 0
Reads (Ok v) given = given ≡ Ok v
Reads (Err Memory) given = Unit {0}
Reads (Err (At place kind)) given = given ≡ Err (At place kind)
Reads (Err (TooDeep place)) given = given ≡ Err (TooDeep place)

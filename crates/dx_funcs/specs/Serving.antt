-- What is known of a closure that computes conversions.
use Rattle.std.specs.Prelude.{◌≡◌, ℕ, List, length, Result, IfOk, IsUtf8}
use Rattle.std.specs.Fn.{Shared}
use Rattle.std.specs.declared.alloc.AllocError.{AllocError}
use denote.Ref.{Bor}
use Rattle.dx_base.specs.Members.{Each}
use Rattle.dx_funcs.specs.declared.conversion.Conversion.{Conversion}
use Rattle.dx_funcs.specs.declared.host.Host.{Host}
use Rattle.dx_funcs.specs.Offers.{IsListed}

-- the calls of a closure of type F with a code and texts
abbrev pub Calls : Type 0 → Type 1
Calls F = Shared F (ℕ × (Bor (List (List ℕ)) × Unit {0})) (Result (List ℕ) AllocError)

-- a conversion of this code is listed, and these are as many texts as it takes
abbrev pub AreArguments : List Conversion → ℕ → List (List ℕ) → Type 0
AreArguments list code args = IsListed list code (length args) × Each args IsUtf8

-- f may be called with each listed code and as many texts as it takes, and each Ok is what is meant
pub record AnswersCalls {F : Type 0} (calls : Calls F) (f : F) (apply : ℕ → List (List ℕ) → List ℕ)
    (list : List Conversion) : Type 0 where
  pub callable : (code : ℕ) (args : Bor (List (List ℕ))) → AreArguments list code args.now
      → calls.pre f (code, (args, tt))
  pub means : (code : ℕ) (args : Bor (List (List ℕ))) (r : Result (List ℕ) AllocError) → AreArguments list code args.now
      → calls.post f (code, (args, tt)) r → IfOk r (λ t. t ≡ apply code args.now)

module _ {F M : Type 0} where
  -- the conversions that a host lists
  abbrev pub offered : Host F M → List Conversion
  offered h = h.list

  -- the closure of a host answers all that the host lists
  abbrev pub Serves : Calls F → (ℕ → List (List ℕ) → List ℕ) → Host F M → Type 0
  Serves calls apply h = AnswersCalls calls h.function apply h.list

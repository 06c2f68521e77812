-- What is known of a closure that decides row tests.
use Rattle.std.specs.Prelude.{◌≡◌, ℕ, Bool, List, map, Result, IfOk, IsUtf8}
use Rattle.std.specs.Fn.{Shared}
use Rattle.std.specs.declared.alloc.AllocError.{AllocError}
use denote.Ref.{Bor}
use Rattle.dx_base.specs.Members.{◌∈◌}
use Rattle.dx_funcs.specs.declared.row_test.RowTest.{RowTest}
use Rattle.dx_funcs.specs.declared.row_tests.Tests.{Tests}

-- the calls of a closure of type P with a code and a text
abbrev pub TestCalls : Type 0 → Type 1
TestCalls P = Shared P (ℕ × (Bor (List ℕ) × Unit {0})) (Result Bool AllocError)

-- a row test of this code is listed
abbrev pub IsTestOf : List RowTest → ℕ → List ℕ → Type 0
IsTestOf list code text = (code ∈ map (λ (t : RowTest). t.code) list) × IsUtf8 text

-- f may be called with each listed code and any text, and each Ok is what is meant
pub record Judges {P : Type 0} (calls : TestCalls P) (f : P) (passes : ℕ → List ℕ → Bool)
    (list : List RowTest) : Type 0 where
  pub callable : (code : ℕ) (text : Bor (List ℕ)) → IsTestOf list code text.now → calls.pre f (code, (text, tt))
  pub means : (code : ℕ) (text : Bor (List ℕ)) (r : Result Bool AllocError) → IsTestOf list code text.now
      → calls.post f (code, (text, tt)) r → IfOk r (λ b. b ≡ passes code text.now)

module _ {P M : Type 0} where
  -- the row tests that are listed
  abbrev pub tested : Tests P M → List RowTest
  tested t = t.list

  -- the closure decides all that is listed
  abbrev pub Decides : TestCalls P → (ℕ → List ℕ → Bool) → Tests P M → Type 0
  Decides calls passes t = Judges calls t.function passes t.list

-- Answers of readers: what a text says, or its first fault.
use Rattle.std.specs.Prelude.{◌≡◌, ◌⊎◌, Option, Some, None, Result, MatchResult}
use Rattle.dx_tokens.specs.declared.faults.TextFault.{TextFault}
use Rattle.dx_tokens.specs.declared.faults.TextFault.TheVariants.{Memory}

-- an Ok is x, and there is no fault; an Err is the fault
abbrev pub AnswersOrFault : {A : Type 0} → Result A TextFault → A → Option TextFault → Type 0
AnswersOrFault {A} result x fault = MatchResult result (λ (y : A). (y ≡ x) × (fault ≡ None)) (λ e. fault ≡ Some e)

-- the same, but an Err may also say that there is no memory
abbrev pub ReadsOrMemory : {A : Type 0} → Result A TextFault → A → Option TextFault → Type 0
ReadsOrMemory {A} result x fault =
    MatchResult result (λ (y : A). (y ≡ x) × (fault ≡ None)) (λ e. (e ≡ Memory) ⊎ (fault ≡ Some e))

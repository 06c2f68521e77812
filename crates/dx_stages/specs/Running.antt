-- What is computed of a stage, and what a run does with it.
use Rattle.std.specs.Prelude.{◌≡◌, ◌⊎◌, ◌≤◌, ◌++◌, ℕ, List, Option, IfSome, Result, Ok, Err}
use Rattle.dx_base.specs.Entries.{FileMap}
use Rattle.dx_ports.specs.Faults.{Rose}
use Rattle.dx_ports.specs.States.{Found, InputState}
use Rattle.dx_stages.specs.declared.stop.Stop.{Stop}
use Rattle.dx_stages.specs.declared.stop.Stop.TheVariants as stops
use Rattle.dx_stages.specs.Worlds.{World, Agrees, HoldsFound, IsOnce, WasAsked}
use Rattle.dx_stages.specs.Stages.{Stage}

-- the result is one that the stage gives in this world; for want of memory there is no reason
abbrev pub Meets : {E A B : Type 0} → Stage E A B → World → A → Result B (Stop E) → Type 0
Meets s c a (Ok b) = s.passes c a b
Meets s c a (Err (stops.Refused e)) = s.refuses c a e
Meets s c a (Err (stops.Failed n)) = s.asks c a n
Meets s c a (Err stops.Memory) = Unit {0}

-- the result is one that the stage gives in every world, and no file was read for it
abbrev pub Gives : {E A B : Type 0} → Stage E A B → A → Result B (Stop E) → Type 0
Gives s a (Ok b) = (c : World) → s.passes c a b
Gives s a (Err (stops.Refused e)) = (c : World) → s.refuses c a e
Gives s a (Err (stops.Failed n)) = ⊥
Gives s a (Err stops.Memory) = Unit {0}

-- a read failed at this name, and else none failed
abbrev pub FailedAt : {E B : Type 0} → InputState → InputState → Result B (Stop E) → Type 0
FailedAt old new (Ok b) = new.faults ≡ old.faults
FailedAt old new (Err (stops.Refused e)) = new.faults ≡ old.faults
FailedAt old new (Err (stops.Failed n)) = Rose old.faults new.faults × IfSome new.stopped (λ k. k ≡ n)
FailedAt old new (Err stops.Memory) = new.faults ≡ old.faults

-- These files were found under names that the stage asks for, each once; in each world in which they are so the
-- result is the stage's.
pub record Finds {E A B : Type 0} (s : Stage E A B) (holds : Option FileMap) (a : A) (r : Result B (Stop E)) : Type 0
  where
    pub found : List Found
    pub told : HoldsFound holds found
    pub once : IsOnce found
    pub asked : (c : World) → Agrees c found → (n : List ℕ) → WasAsked n found → s.asks c a n
    pub meets : (c : World) → Agrees c found → Meets s c a r

-- The inputs hold what they held, and a fault is answered exactly if one was counted. What the reads answered is what
-- was found.
pub record Ran {E A B : Type 0} (s : Stage E A B) (a : A) (r : Result B (Stop E)) (old new : InputState) : Type 0 where
  pub kept : new.holds ≡ old.holds
  pub counted : old.faults ≤ new.faults
  pub failed : FailedAt old new r
  pub finds : Finds s old.holds a r
  pub answered : new.answered ≡ old.answered ++ finds.found

-- the result of a call that has a word of its own for want of memory is one that the stage gives in every world
abbrev pub Answers : {E A B : Type 0} → E → Stage E A B → A → Result B E → Type 0
Answers memory s a (Ok b) = (c : World) → s.passes c a b
Answers memory s a (Err e) = (e ≡ memory) ⊎ ((c : World) → s.refuses c a e)

-- the same result, of which a refusal is said so
abbrev pub with_refusal : {E F B : Type 0} → (E → F) → Result B (Stop E) → Result B (Stop F)
with_refusal f (Ok b) = Ok b
with_refusal f (Err (stops.Refused e)) = Err (stops.Refused (f e))
with_refusal f (Err (stops.Failed n)) = Err (stops.Failed n)
with_refusal f (Err stops.Memory) = Err stops.Memory

-- How a run ends, why, and what it leaves.
use Rattle.std.specs.Prelude.{◌≡◌, ◌⊎◌, ◌<◌, ◌≤◌, ◌++◌, ℕ, List, take, length, IfSome, Result, Ok, Err}
use Rattle.dx_base.specs.Entries.{Entry, entries_of}
use Rattle.dx_ports.specs.Told.{appended, GrewByPart, GrewByPrefix}
use Rattle.dx_ports.specs.Faults.{Rose}
use Rattle.dx_ports.specs.States.{Found, InputState, OutputState}
use Rattle.dx_stages.specs.declared.stop.Stop.{Stop}
use Rattle.dx_stages.specs.declared.stop.Stop.TheVariants as stops
use Rattle.dx_stages.specs.declared.writing.WriteStop.{WriteStop}
use Rattle.dx_stages.specs.declared.writing.WriteStop.TheVariants as write_stops
use Rattle.dx_stages.specs.declared.plan.Plan.{Plan}
use Rattle.dx_stages.specs.declared.plan.Ended.{Ended}
use Rattle.dx_stages.specs.declared.plan.Ended.TheVariants as endeds
use Rattle.dx_stages.specs.Worlds.{World, Agrees, IsOf, IsOnce, WasAsked}
use Rattle.dx_stages.specs.Stages.{Stage}

-- ---- what is planned, and what is written of it

-- what is done, the files in order, and the text that is said after them
pub record PlanContent (D : Type 0) : Type 0 where
  pub done : D
  pub files : List Entry
  pub text : List ℕ

abbrev pub planned_of : {D : Type 0} → Plan D → PlanContent D
planned_of p = record { done = p.done; files = entries_of p.files.items; text = p.text.items }

-- a computed plan, by what it plans
abbrev pub planned : {D R : Type 0} → Result (Plan D) (Stop R) → Result (PlanContent D) (Stop R)
planned (Ok p) = Ok (planned_of p)
planned (Err e) = Err e

-- all was written and said
pub record WroteAll (files : List Entry) (text : List ℕ) (old new : OutputState) : Type 0 where
  pub put : new.files ≡ appended old.files files
  pub said : new.said ≡ appended old.said text

-- the first files were written, and only after all of them a prefix of the text was said
pub record WroteFirst (files : List Entry) (text : List ℕ) (count : ℕ) (old new : OutputState) : Type 0 where
  pub within : count ≤ length files
  pub put : new.files ≡ appended old.files (take count files)
  pub said : GrewByPrefix old.said text new.said
  pub silent : count < length files → new.said ≡ old.said

-- the same, and of the text, if all files were written, not all was said
abbrev pub WroteLess : List Entry → List ℕ → ℕ → OutputState → OutputState → Type 0
WroteLess files text count old new = WroteFirst files text count old new × GrewByPart old.said text new.said

-- what writing that stopped leaves
abbrev pub StoppedBy : List Entry → List ℕ → OutputState → OutputState → WriteStop → Type 0
StoppedBy files text old new (write_stops.Failed count) = WroteFirst files text count old new
StoppedBy files text old new write_stops.OutOfMemory = (count : ℕ) × WroteLess files text count old new

-- a write fault was counted if one is told, and else none
abbrev pub CountedAt : ℕ → ℕ → WriteStop → Type 0
CountedAt old new (write_stops.Failed count) = Rose old new
CountedAt old new write_stops.OutOfMemory = new ≡ old

-- ---- how a run ends

-- In a world, of what it was given: why it ended so, and what it leaves.
abbrev pub Ends : {A D R : Type 0} → Stage R A (PlanContent D) → World → A → OutputState → OutputState → Ended D R
    → Type 0
Ends {A} {D} {R} s c a old new (endeds.Done d) =
    (p : PlanContent D) × s.passes c a p × (p.done ≡ d) × WroteAll p.files p.text old new
Ends {A} {D} {R} s c a old new (endeds.Refused e) = s.refuses c a e × (new ≡ old)
Ends {A} {D} {R} s c a old new (endeds.ReadFault n) = s.asks c a n × (new ≡ old)
Ends {A} {D} {R} s c a old new (endeds.WriteFault count) =
    (p : PlanContent D) × s.passes c a p × WroteFirst p.files p.text count old new
Ends {A} {D} {R} s c a old new endeds.Memory =
    (new ≡ old) ⊎ ((p : PlanContent D) × s.passes c a p × ((count : ℕ) × WroteLess p.files p.text count old new))

-- a fault is answered exactly if one was counted
abbrev pub Counts : {D R : Type 0} → InputState → InputState → ℕ → ℕ → Ended D R → Type 0
Counts old new writes writes' (endeds.Done d) = (new.faults ≡ old.faults) × (writes' ≡ writes)
Counts old new writes writes' (endeds.Refused e) = (new.faults ≡ old.faults) × (writes' ≡ writes)
Counts old new writes writes' (endeds.ReadFault n) =
    Rose old.faults new.faults × IfSome new.stopped (λ k. k ≡ n) × (writes' ≡ writes)
Counts old new writes writes' (endeds.WriteFault count) = (new.faults ≡ old.faults) × Rose writes writes'
Counts old new writes writes' endeds.Memory = (new.faults ≡ old.faults) × (writes' ≡ writes)

-- an ending that nothing which is given or held rules out
abbrev pub IsOutside : {D R : Type 0} → Ended D R → Type 0
IsOutside (endeds.Done d) = ⊥
IsOutside (endeds.Refused e) = ⊥
IsOutside (endeds.ReadFault n) = Unit {0}
IsOutside (endeds.WriteFault count) = ⊥
IsOutside endeds.Memory = Unit {0}

-- it was refused, for a reason like this
abbrev pub IsRefusedAs : {D R : Type 0} → (R → R → Type 0) → R → Ended D R → Type 0
IsRefusedAs {D} {R} Alike r e = (k : R) × (e ≡ endeds.Refused k) × Alike k r

-- In this world the run ended so for its reason, and left what it had to; if there is a reason to refuse there, no
-- other ending comes but one of outside, and if there is a plan, no refusal.
pub record RunsIn {A D R : Type 0} (Alike : R → R → Type 0) (s : Stage R A (PlanContent D)) (c : World) (a : A)
    (e : Ended D R) (before after : OutputState) : Type 0 where
  pub ends : Ends s c a before after e
  pub exact : (r : R) → s.refuses c a r → IsRefusedAs Alike r e ⊎ IsOutside e
  pub complete : (p : PlanContent D) → s.passes c a p → (r : R) → ¬ (e ≡ endeds.Refused r)

-- The reads have found this: each file once, and only such as the stages ask for. There is a world in which it is so,
-- and which is what the inputs hold if they tell; and in each world in which it is so the run ended as it has to.
pub record Runs {A D R : Type 0} (Alike : R → R → Type 0) (s : Stage R A (PlanContent D)) (a : A) (e : Ended D R)
    (old new : InputState) (before after : OutputState) (writes writes' : ℕ) : Type 0 where
  pub found : List Found
  pub answered : new.answered ≡ old.answered ++ found
  pub once : IsOnce found
  pub asked : (c : World) → Agrees c found → (n : List ℕ) → WasAsked n found → s.asks c a n
  pub world : (c : World) × IsOf old.holds c × Agrees c found
  pub right : (c : World) → Agrees c found → RunsIn Alike s c a e before after
  pub kept : new.holds ≡ old.holds
  pub counts : Counts old new writes writes' e

-- how a plan was carried out
pub data CarriesOut {D R : Type 0} (r : Result (PlanContent D) (Stop R)) (before after : OutputState)
    (writes writes' : ℕ) (e : Ended D R) : Type 0 where
  done_all : (p : PlanContent D) → r ≡ Ok p → e ≡ endeds.Done p.done → WroteAll p.files p.text before after
      → writes' ≡ writes → CarriesOut r before after writes writes' e
  done_some : (p : PlanContent D) (count : ℕ) → r ≡ Ok p → e ≡ endeds.WriteFault count
      → WroteFirst p.files p.text count before after → Rose writes writes' → CarriesOut r before after writes writes' e
  out_of_memory : (p : PlanContent D) (count : ℕ) → r ≡ Ok p → e ≡ endeds.Memory
      → WroteLess p.files p.text count before after → writes' ≡ writes → CarriesOut r before after writes writes' e
  was_refused : (k : R) → r ≡ Err (stops.Refused k) → e ≡ endeds.Refused k → after ≡ before → writes' ≡ writes
      → CarriesOut r before after writes writes' e
  was_failed : (n : List ℕ) → r ≡ Err (stops.Failed n) → e ≡ endeds.ReadFault n → after ≡ before → writes' ≡ writes
      → CarriesOut r before after writes writes' e
  had_none : r ≡ Err stops.Memory → e ≡ endeds.Memory → after ≡ before → writes' ≡ writes
      → CarriesOut r before after writes writes' e

-- What the top call promises of a run, in each world in which all that its reads have answered is so.
use Rattle.std.specs.Prelude.{◌≡◌, ℕ, List}
use Rattle.dx_ports.specs.Faults.{Rose}
use Rattle.dx_ports.specs.States.{InputState, OutputState}
use Rattle.dx_base.specs.Texts.{Text}
use Rattle.dx_stages.specs.declared.plan.Ended.{Ended}
use Rattle.dx_stages.specs.Ending.{Runs}
use Rattle.dx_stages.specs.Worlds.{World, Agrees}
use Rattle.dx_keys.specs.declared.answers.Clash.{Clash}
use Rattle.clio_ending.specs.declared.ending.Done.{Done}
use Rattle.clio_ending.specs.declared.ending.Ending.{Ending}
use Rattle.clio_ending.specs.declared.ending.Ending.TheVariants as endings
use Rattle.clio_ending.specs.declared.ending.Refusal.{Refusal}
use Rattle.clio_ending.specs.Ending.{AreAlike, ending_of}
use Rattle.clio_steps.specs.Steps.{Program}
use Rattle.clio_steps.specs.Outcomes.{wrote_all}
use Rattle.clio_top.specs.Words.{Word}
use Rattle.clio_top.specs.Commands.{run_stages}
use Rattle.clio_top.specs.Promises.{AsAsked, IsClashOf}
use Rattle.clio_top.specs.Completing.{Completes, CompletesDemo}
use Rattle.clio_top.specs.Leaving.{Leaves}

-- Of a run that ended so in this world. What is done is as the words ask for it: an exchange, rules that were shown,
-- a demo, answers, a verdict, a comparison (specs/Promises), and its files and its text were written. After `Clash`
-- there is no solution. What is left after any other ending says specs/Leaving. If no read and no write failed, what
-- can be done is done, or memory ran out (specs/Completing).
pub record IsRightIn (P : Program) (c : World) (words : List Word) (r : Ending) (old new : InputState)
    (before after : OutputState) (writes writes' : ℕ) : Type 0 where
  pub done : (d : Done) → r ≡ endings.Done d → AsAsked P c words d (wrote_all before after)
  pub clash : (k : Clash) (table : Text) (key : List Text) (column : Text) → r ≡ endings.Clash k table key column
      → IsClashOf P c words k table key column
  pub left : Leaves P c words before after r
  pub complete : ¬ (Rose old.faults new.faults) → ¬ (Rose writes writes') → Completes P c words r
  pub complete_demo : ¬ (Rose writes writes') → CompletesDemo P words r

-- The stages of the words gave this ending (`Runs`); and it is right in each world in which all that the reads
-- answered since `old` is so. There is such a world, and it is what the inputs hold, if they show it.
abbrev pub IsRight : Program → List Word → Ending → InputState → InputState → OutputState → OutputState → ℕ → ℕ
    → Type 0
IsRight P words r old new before after writes writes' =
    (e : Ended Done Refusal) × (r ≡ ending_of e)
    × (runs : Runs AreAlike (run_stages P) words e old new before after writes writes')
    × ((c : World) → Agrees c runs.found → IsRightIn P c words r old new before after writes writes')

-- What a run answers if nothing outside fails: what is asked for, as far as there is such a thing, or out of memory.
use Rattle.std.specs.Prelude.{◌≡◌, ◌⊎◌, ℕ, List, [], ◌∷◌, codes, Some, Bool}
use Rattle.std.specs.FinMap.{from_entries, get}
use Rattle.dx_base.specs.Entries.{Entry, FileMap}
use Rattle.dx_base.specs.Texts.{Text}
use Rattle.dx_stages.specs.Worlds.{World}
use Rattle.dx_stages.specs.Ending.{PlanContent}
use Rattle.dx_keys.specs.declared.answers.Clash.{Clash}
use Rattle.dx_exchange.specs.declared.mode.Mode.{Mode}
use Rattle.dx_exchange.specs.declared.result.Exchange.{Exchange}
use Rattle.dx_judge.specs.declared.verdict.Verdict.{Verdict}
use Rattle.dx_compare.specs.declared.comparing.Comparison.{Comparison}
use Rattle.clio_accept.specs.declared.mapping.Mapping.{Mapping}
use Rattle.clio_ending.specs.declared.ending.Done.{Done}
use Rattle.clio_ending.specs.declared.ending.Answers.{Answers}
use Rattle.clio_ending.specs.declared.ending.Done.TheVariants.{Answered, Compared, Demo, Exchanged, Judged, Shown}
use Rattle.clio_ending.specs.declared.ending.Ending.{Ending}
use Rattle.clio_ending.specs.declared.ending.Ending.TheVariants as endings
use Rattle.clio_ending.specs.declared.ending.Refusal.{Refusal}
use Rattle.clio_ending.specs.declared.ending.Refusal.TheVariants as refusals
use Rattle.clio_ending.specs.Ending.{AreAlike, refusal_ending}
use Rattle.clio_steps.specs.Steps.{Program}
use Rattle.clio_steps.specs.declared.texts.Side.TheVariants.{First}
use Rattle.clio_steps.specs.Outcomes.{AcceptedIn, HasNoSolutionIn, HasSolutionIn}
use Rattle.clio_answer.specs.Outcomes.{HasQueryIn, HasFewAnswers}
use Rattle.clio_top.specs.declared.command.Command.{Command}
use Rattle.clio_top.specs.declared.command.Command.TheVariants.{Answering, Comparing, Demonstrating}
use Rattle.clio_top.specs.declared.command.Command.TheVariants.{Exchanging, Judging, Showing}
use Rattle.clio_top.specs.Words.{Word, says}
use Rattle.clio_top.specs.Demo.{demo_world}
use Rattle.clio_top.specs.Commands.{run_stages}

-- ---- the stages

-- there is a plan to do this
abbrev pub HasPlanFor : Program → World → List Word → Done → Type 0
HasPlanFor P c words d = (plan : PlanContent Done) × (run_stages P).passes c words plan × (plan.done ≡ d)

-- there is a clash
abbrev pub IsClashing : Program → World → List Word → Type 0
IsClashing P c words =
    (k : Clash) × (table : Text) × (key : List Text) × (column : Text)
    × (run_stages P).refuses c words (refusals.Clash k table key column)

-- if there is a solution, an exchange of it is planned
abbrev pub SolutionIsPlanned : Type 0
SolutionIsPlanned =
    (P : Program) (c : World) (words : List Word) (mode : Mode) (nested : Bool)
    → says words ≡ Some (Exchanging mode nested)
    → HasSolutionIn P c → (e : Exchange) × HasPlanFor P c words (Exchanged e)

-- an accepted mapping is shown
abbrev pub MappingIsShown : Type 0
MappingIsShown =
    (P : Program) (c : World) (words : List Word) (mode : Mode) → says words ≡ Some (Showing mode)
    → (M : Mapping) → AcceptedIn P First c M → HasPlanFor P c words Shown

-- if the files of a demo have a solution, its exchange is planned, whatever is outside; and if they have none,
-- there is a clash
abbrev pub DemoIsPlanned : Type 0
DemoIsPlanned =
    (P : Program) (c : World) (words : List Word) (number : ℕ) (mode : Mode)
    → says words ≡ Some (Demonstrating number mode)
    → HasSolutionIn P (demo_world number) → (e : Exchange) × HasPlanFor P c words (Demo e)

abbrev pub DemoIsAClash : Type 0
DemoIsAClash =
    (P : Program) (c : World) (words : List Word) (number : ℕ) (mode : Mode)
    → says words ≡ Some (Demonstrating number mode)
    → HasNoSolutionIn P (demo_world number) → IsClashing P c words

-- if there is a solution, the answers of a query are planned; and if there is none, there is a clash
abbrev pub AnswersArePlanned : Type 0
AnswersArePlanned =
    (P : Program) (c : World) (words : List Word) → says words ≡ Some Answering
    → (h : HasSolutionIn P c) (k : HasQueryIn h.mapping.target c)
    → HasFewAnswers P c h k → (a : Answers) × HasPlanFor P c words (Answered a)

abbrev pub NoAnswerIsAClash : Type 0
NoAnswerIsAClash =
    (P : Program) (c : World) (words : List Word) → says words ≡ Some Answering
    → (h : HasNoSolutionIn P c) → HasQueryIn h.mapping.target c
    → IsClashing P c words

-- ---- the answers

-- this, or out of memory
abbrev pub OrMemory : Ending → Type 0 → Type 0
OrMemory r A = A ⊎ (r ≡ endings.Memory)

-- a clash is answered
abbrev pub AnswersClash : Ending → Type 0
AnswersClash r =
    (k : Clash) × (table : Text) × (key : List Text) × (column : Text) × (r ≡ endings.Clash k table key column)

-- what a command has done that is done
abbrev pub HasDone : Command → Done → Type 0
HasDone (Exchanging mode nested) d = (e : Exchange) × (d ≡ Exchanged e)
HasDone (Showing mode) d = d ≡ Shown
HasDone (Demonstrating number mode) d = (e : Exchange) × (d ≡ Demo e)
HasDone Answering d = (a : Answers) × (d ≡ Answered a)
HasDone Judging d = (v : Verdict) × (d ≡ Judged v)
HasDone Comparing d = (k : Comparison) × (d ≡ Compared k)

-- nothing is at fault
abbrev pub HasNoFault : Program → World → List Word → Type 0
HasNoFault P c words = (e : Refusal) → ¬ ((run_stages P).refuses c words e)

-- In a world of a run, if no read and no write failed: if nothing is at fault, the command of the words is done; if
-- there is a reason to refuse, it is the answer, or one that is alike; and what these come to for an exchange,
-- for showing and for an answer.
pub record Completes (P : Program) (c : World) (words : List Word) (r : Ending) : Type 0 where
  pub done : (k : Command) → says words ≡ Some k → HasNoFault P c words
      → OrMemory r ((d : Done) × HasDone k d × (r ≡ endings.Done d))
  pub refused : (e : Refusal) → (run_stages P).refuses c words e
      → OrMemory r ((f : Refusal) × AreAlike f e × (r ≡ refusal_ending f))
  pub exchanged : (mode : Mode) (nested : Bool) → says words ≡ Some (Exchanging mode nested) → HasSolutionIn P c
      → OrMemory r ((e : Exchange) × (r ≡ endings.Done (Exchanged e)))
  pub clash : (mode : Mode) (nested : Bool) → says words ≡ Some (Exchanging mode nested)
      → HasNoSolutionIn P c → OrMemory r (AnswersClash r)
  pub shown : (mode : Mode) → says words ≡ Some (Showing mode) → (M : Mapping) → AcceptedIn P First c M
      → OrMemory r (r ≡ endings.Done Shown)
  pub answers : says words ≡ Some Answering
      → (h : HasSolutionIn P c) (k : HasQueryIn h.mapping.target c) → HasFewAnswers P c h k
      → OrMemory r ((a : Answers) × (r ≡ endings.Done (Answered a)))
  pub no_answer : says words ≡ Some Answering → (h : HasNoSolutionIn P c)
      → HasQueryIn h.mapping.target c → OrMemory r (AnswersClash r)

-- over the files of a demo, whatever is outside, if no write failed
pub record CompletesDemo (P : Program) (words : List Word) (r : Ending) : Type 0 where
  pub demo : (number : ℕ) (mode : Mode) → says words ≡ Some (Demonstrating number mode)
      → HasSolutionIn P (demo_world number)
      → OrMemory r ((e : Exchange) × (r ≡ endings.Done (Demo e)))
  pub clash : (number : ℕ) (mode : Mode) → says words ≡ Some (Demonstrating number mode)
      → HasNoSolutionIn P (demo_world number)
      → OrMemory r (AnswersClash r)

-- ---- a small world in which there is something to exchange

-- a mapping that makes persons of employees by their names
abbrev pub small_text : Text
small_text =
    codes "mapping 1; source { set emp { name; } } target { set person { name, phone; } } line emp.name -> person.name;"

-- and the table of two employees
abbrev pub small_entries : List Entry
small_entries =
    (codes "mapping.clio", small_text) ∷ (codes "emp.csv", codes "name\nann\nbob\n") ∷ []

abbrev pub small_held : FileMap
small_held = from_entries small_entries

abbrev pub small_world : World
small_world n = get small_held n

-- there an exchange is planned in each mode, whatever conversions the program lists
abbrev pub SmallIsPlanned : Type 0
SmallIsPlanned =
    (P : Program)
    → ((e : Exchange) × HasPlanFor P small_world (codes "exchange" ∷ []) (Exchanged e))
    × ((e : Exchange) × HasPlanFor P small_world (codes "exchange" ∷ codes "--core" ∷ []) (Exchanged e))

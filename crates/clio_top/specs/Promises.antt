-- What a run that is done comes to, an exchange above all, and what a clash does: the sentence at the top of
-- docs/ASSURANCE.md, of a run. And laws of its stages.
use Rattle.std.specs.Prelude.{◌≡◌, ◌⊎◌, ◌↔◌, ℕ, List, codes, map, Some, None, Bool}
use Rattle.dx_base.specs.Members.{Distinct}
use Rattle.dx_base.specs.Texts.{Text}
use Rattle.dx_ports.specs.States.{OutputState}
use Rattle.dx_stages.specs.declared.plan.Ended.TheVariants as endeds
use Rattle.dx_stages.specs.Worlds.{World}
use Rattle.dx_stages.specs.Laws.{HasWords, IsDecided}
use Rattle.dx_stages.specs.Ending.{Ends}
use Rattle.dx_schema.specs.Forest.{Forest}
use Rattle.dx_keys.specs.declared.answers.Clash.{Clash}
use Rattle.dx_exchange.specs.declared.mode.Mode.{Mode}
use Rattle.dx_exchange.specs.declared.mode.Mode.TheVariants.{Plain}
use Rattle.dx_exchange.specs.declared.result.Exchange.{Exchange}
use Rattle.dx_exchange.specs.declared.fault.ExFault.TheVariants as exchange_faults
use Rattle.dx_exchange.specs.Exchanging.{ExchangeInput, exchanging}
use Rattle.dx_queries.specs.declared.query.Query.{Query}
use Rattle.dx_judge.specs.declared.verdict.Verdict.{Verdict}
use Rattle.dx_judge.specs.Verdicts.{judging}
use Rattle.dx_compare.specs.declared.comparing.Comparison.{Comparison}
use Rattle.clio_accept.specs.declared.mapping.Mapping.{Mapping}
use Rattle.clio_accept.specs.declared.fault.AcceptFault.TheVariants as accept_faults
use Rattle.clio_accept.specs.Accepting.{accepting}
use Rattle.clio_files.specs.Sheets.{PrintedFile}
use Rattle.clio_ending.specs.declared.ending.Answers.{Answers}
use Rattle.clio_ending.specs.declared.ending.Done.{Done}
use Rattle.clio_ending.specs.declared.ending.Done.TheVariants.{Answered, Compared, Demo, Exchanged, Judged, Shown}
use Rattle.clio_ending.specs.declared.ending.Refusal.TheVariants as refusals
use Rattle.clio_ending.specs.Ending.{AreAlike, exchange_refusal, query_refusal}
use Rattle.clio_steps.specs.declared.texts.Side.{Side}
use Rattle.clio_steps.specs.declared.texts.Side.TheVariants.{First}
use Rattle.clio_steps.specs.Steps.{Program, side_refusal}
use Rattle.clio_steps.specs.Outcomes.{AcceptedIn, HasNoSolutionIn, IsClashIn, IsNextFile, Writing, wrote_all}
use Rattle.clio_answer.specs.Answering.{query_in_text, query_over, query_name}
use Rattle.clio_answer.specs.Outcomes.{IsAnsweredIn}
use Rattle.clio_judge.specs.Judging.{RowsAndBytes, judge_refusal, rows_and_bytes, wanted_given}
use Rattle.clio_judge.specs.Outcomes.{IsJudgedIn, IsNextGiven}
use Rattle.clio_compare.specs.Outcomes.{IsComparedIn}
use Rattle.clio_top.specs.declared.command.Command.{Command}
use Rattle.clio_top.specs.declared.command.Command.TheVariants.{Answering, Comparing, Demonstrating}
use Rattle.clio_top.specs.declared.command.Command.TheVariants.{Exchanging, Judging, Showing}
use Rattle.clio_top.specs.Words.{Word, says}
use Rattle.clio_top.specs.Demo.{demo_world}
use Rattle.clio_top.specs.Commands.{run_stages}
use Rattle.clio_top.specs.Outcomes.{IsDemoIn, IsShownIn, WrittenIn}

-- there is one reason to refuse a run, up to which clash is reported, or a plan, and never both
abbrev pub RefusedOrPlanned : Type 0
RefusedOrPlanned = (P : Program) → IsDecided AreAlike (λ words. Unit {0}) (run_stages P)

-- ---- what is done

-- an exchange, as the words ask for it
abbrev pub IsExchanged : Program → World → List Word → Exchange → Writing → Type 0
IsExchanged P c words e Wrote =
    (mode : Mode) × (nested : Bool) × (says words ≡ Some (Exchanging mode nested)) × WrittenIn P mode nested c e Wrote

-- a mapping that is shown
abbrev pub IsShown : Program → World → List Word → Writing → Type 0
IsShown P c words Wrote = (mode : Mode) × (says words ≡ Some (Showing mode)) × IsShownIn P mode c Wrote

-- a demo
abbrev pub IsDemo : Program → List Word → Exchange → Writing → Type 0
IsDemo P words e Wrote =
    (number : ℕ) × (mode : Mode) × (says words ≡ Some (Demonstrating number mode)) × IsDemoIn P number mode e Wrote

-- the certain answers of a query
abbrev pub IsAnswered : Program → World → List Word → Answers → Writing → Type 0
IsAnswered P c words a Wrote = (says words ≡ Some Answering) × IsAnsweredIn P c a Wrote

-- a verdict
abbrev pub IsJudged : Program → World → List Word → Verdict → Writing → Type 0
IsJudged P c words v Wrote = (says words ≡ Some Judging) × IsJudgedIn P c v Wrote

-- a comparison
abbrev pub IsCompared : Program → World → List Word → Comparison → Writing → Type 0
IsCompared P c words k Wrote = (says words ≡ Some Comparing) × IsComparedIn P c k Wrote

-- the words ask for this, over the texts and files of a world, and its files and its text were written so
abbrev pub AsAsked : Program → World → List Word → Done → Writing → Type 0
AsAsked P c words (Exchanged e) Wrote = IsExchanged P c words e Wrote
AsAsked P c words Shown Wrote = IsShown P c words Wrote
AsAsked P c words (Demo e) Wrote = IsDemo P words e Wrote
AsAsked P c words (Answered a) Wrote = IsAnswered P c words a Wrote
AsAsked P c words (Judged v) Wrote = IsJudged P c words v Wrote
AsAsked P c words (Compared k) Wrote = IsCompared P c words k Wrote

-- what is done is as the words ask for it, whether or not the inputs show what they hold
abbrev pub DoneIsAsAsked : Type 0
DoneIsAsAsked =
    (P : Program) (c : World) (words : List Word) (before after : OutputState) (d : Done)
    → Ends (run_stages P) c words before after (endeds.Done d) → AsAsked P c words d (wrote_all before after)

-- ---- a clash

-- the clash that the words ask for: of the files outside, or of those of a demo
abbrev pub IsClashOf : Program → World → List Word → Clash → Text → List Text → Text → Type 0
IsClashOf P c words k table key column =
    ((mode : Mode) × (nested : Bool) × (says words ≡ Some (Exchanging mode nested))
    × IsClashIn P mode c k table key column)
    ⊎ (((number : ℕ) × (mode : Mode) × (says words ≡ Some (Demonstrating number mode))
    × IsClashIn P mode (demo_world number) k table key column)
    ⊎ ((says words ≡ Some Answering) × IsClashIn P Plain c k table key column))

-- a clash is that of an accepted mapping text and the source of some files, or of a demo's files, in the mode that
-- the words say, whether or not the inputs show what they hold
abbrev pub ClashesAreOfTexts : Type 0
ClashesAreOfTexts =
    (P : Program) (c : World) (words : List Word) (before after : OutputState) (k : Clash)
    (table : Text) (key : List Text) (column : Text)
    → Ends (run_stages P) c words before after (endeds.Refused (refusals.Clash k table key column))
    → IsClashOf P c words k table key column

-- if there is no solution, an exchange is refused with a clash
abbrev pub NoSolutionIsAClash : Type 0
NoSolutionIsAClash =
    (P : Program) (c : World) (words : List Word) (mode : Mode) (nested : Bool)
    → says words ≡ Some (Exchanging mode nested)
    → HasNoSolutionIn P c
    → (k : Clash) × (table : List ℕ) × (key : List (List ℕ)) × (column : List ℕ)
    × (run_stages P).refuses c words (refusals.Clash k table key column)

-- ---- files

-- The files that a command asks for. An exchange: the mapping text and then, if it is accepted, the source files in
-- order. Showing: the mapping text. A demo: none. An answer: the mapping text, then if it is accepted the query, and
-- then, if that is over its target, the source files in order. Judging: the mapping text, then if it is accepted the
-- source files in order, and then, if these are in form, the given files in order. Comparing: the mapping text and
-- then, if it is accepted, the other one.
abbrev pub AsksFor : Program → World → Command → List ℕ → Type 0
AsksFor P c (Exchanging mode nested) n =
    (n ≡ codes "mapping.clio") ⊎ ((M : Mapping) × AcceptedIn P First c M × IsNextFile c M.source n)
AsksFor P c (Showing mode) n = n ≡ codes "mapping.clio"
AsksFor P c (Demonstrating number mode) n = ⊥
AsksFor P c Answering n =
    (n ≡ codes "mapping.clio")
    ⊎ ((M : Mapping) × AcceptedIn P First c M
    × ((n ≡ query_name) ⊎ ((q : Query) × (query_over M).passes c M q × IsNextFile c M.source n)))
AsksFor P c Judging n =
    (n ≡ codes "mapping.clio")
    ⊎ ((M : Mapping) × AcceptedIn P First c M
    × (IsNextFile c M.source n ⊎ ((p : RowsAndBytes) × (rows_and_bytes P).passes c M p
    × IsNextGiven c (wanted_given p) n)))
AsksFor P c Comparing n =
    (n ≡ codes "mapping.clio") ⊎ ((M : Mapping) × AcceptedIn P First c M × (n ≡ codes "other.clio"))

-- a run asks for exactly the files of the command that its words say
abbrev pub AskedInOrder : Type 0
AskedInOrder =
    (P : Program) (c : World) (words : List Word) (n : List ℕ)
    → (run_stages P).asks c words n ↔ ((k : Command) × (says words ≡ Some k) × AsksFor P c k n)

-- ---- usage

-- a run is refused with `Usage` exactly if its words say no command
abbrev pub UsageIsOfWords : Type 0
UsageIsOfWords =
    (P : Program) (c : World) (words : List Word)
    → (run_stages P).refuses c words refusals.Usage ↔ (says words ≡ None)

-- running out of memory is no reason to refuse a text, nor an exchange
abbrev pub MemoryIsNoReason : Type 0
MemoryIsNoReason =
    (P : Program) (c : World) (text : List ℕ) (a : ExchangeInput)
    → (¬ ((accepting P.list P.tests).refuses c text accept_faults.Memory))
    × (¬ ((exchanging P.apply).refuses c a exchange_faults.Memory))

-- what a mapping text, a query's text, an exchange or a verdict is refused for has its word among the refusals of a run
abbrev pub ReasonsHaveWords : Type 0
ReasonsHaveWords =
    (P : Program) (side : Side) (target : Forest)
    → HasWords (side_refusal side) (accepting P.list P.tests)
    × HasWords query_refusal (query_in_text target)
    × HasWords (exchange_refusal target) (exchanging P.apply)
    × HasWords judge_refusal (judging P.apply)

-- no two files that an exchange writes have one name: each is as it was put
abbrev pub FilesHaveOwnNames : Type 0
FilesHaveOwnNames =
    (P : Program) (mode : Mode) (nested : Bool) (c : World) (e : Exchange) (before after : OutputState)
    → (d : WrittenIn P mode nested c e (wrote_all before after)) → Distinct (map (λ (f : PrintedFile). f.name) d.files)

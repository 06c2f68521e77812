-- The stages of an exchange and of showing, and what is written of them.
use Rattle.std.specs.Prelude.{◌≡◌, List, [], Bool}
use Rattle.dx_stages.specs.Ending.{PlanContent}
use Rattle.dx_stages.specs.Stages.{Stage, become, into}
use Rattle.dx_funcs.specs.declared.conversion.Conversion.{Conversion}
use Rattle.dx_exchange.specs.declared.mode.Mode.{Mode}
use Rattle.dx_exchange.specs.declared.result.Exchange.{Exchange}
use Rattle.clio_accept.specs.declared.mapping.Mapping.{Mapping}
use Rattle.clio_files.specs.Files.{AreFiles, contents_of, files_of, summary_of}
use Rattle.clio_files.specs.Sheets.{PrintedFile}
use Rattle.clio_files.specs.Texts.{texts_told}
use Rattle.clio_ending.specs.declared.ending.Done.{Done}
use Rattle.clio_ending.specs.declared.ending.Done.TheVariants.{Exchanged, Shown}
use Rattle.clio_ending.specs.declared.ending.Refusal.{Refusal}
use Rattle.clio_steps.specs.Steps.{Program, mapping_stages, exchanges}

-- what is written of an exchange: its files, and their summary
abbrev pub IsPlanOf : List Conversion → Mode → Bool → Mapping → Exchange → PlanContent Done → Type 0
IsPlanOf list mode nested M e plan =
    (files : List PrintedFile) × AreFiles M.source M.target list mode nested M.rules e files
    × (plan ≡ record { done = Exchanged e; files = files_of files; text = summary_of files })

-- an exchange, and what is written of it
abbrev pub exchange_stages : Program → Mode → Bool → Stage Refusal (Unit {0}) (PlanContent Done)
exchange_stages P mode nested = become (λ u q plan. IsPlanOf P.list mode nested q.0 q.1 plan) (exchanges P mode)

-- ---- showing

-- what is said of a mapping that is shown: the text of its rules, and then that of their script
abbrev pub shown_plan : List Conversion → Mode → Mapping → PlanContent Done
shown_plan list mode M =
    record { done = Shown; files = []; text = contents_of (texts_told M.source M.target list mode M.rules) }

abbrev pub show_stages : Program → Mode → Stage Refusal (Unit {0}) (PlanContent Done)
show_stages P mode = into (λ (u : Unit {0}) (M : Mapping). shown_plan P.list mode M) (mapping_stages P)

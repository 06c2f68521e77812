-- The exchange of a demo, and what is said of it.
use Rattle.std.specs.Prelude.{◌≡◌, ◌≤◌, ◌++◌, ℕ, suc, List, [], ◌∷◌, length, codes}
use Rattle.std.specs.Fmt.{decimal}
use Rattle.std.specs.FinMap.{from_entries, get}
use Rattle.dx_base.specs.Entries.{FileMap}
use Rattle.dx_model.specs.declared.values.NullId.{NullId}
use Rattle.dx_stages.specs.Ending.{PlanContent}
use Rattle.dx_stages.specs.Stages.{Stage, become}
use Rattle.dx_stages.specs.Worlds.{World}
use Rattle.dx_schema.specs.Tables.{TableOf, tables_of}
use Rattle.dx_instance.specs.Stored.{TableRows, facts, rows_of}
use Rattle.dx_exchange.specs.declared.mode.Mode.{Mode}
use Rattle.dx_exchange.specs.declared.result.Exchange.{Exchange}
use Rattle.dx_gen.specs.declared.files.TheConstants.{EMPLOYEES}
use Rattle.dx_gen.specs.Demo.{demo}
use Rattle.clio_accept.specs.declared.mapping.Mapping.{Mapping}
use Rattle.clio_files.specs.Sheets.{AreTargetNulls}
use Rattle.clio_ending.specs.declared.ending.Done.{Done}
use Rattle.clio_ending.specs.declared.ending.Done.TheVariants as dones
use Rattle.clio_ending.specs.declared.ending.Refusal.{Refusal}
use Rattle.clio_steps.specs.Steps.{Program, exchanges}

-- ---- stages over given files

-- the same stage in a world that is given, whatever is outside; it asks for no file
abbrev pub in_world : {E A B : Type 0} → World → Stage E A B → Stage E A B
in_world {E} {A} {B} w s = record {
  refuses = λ c a e. s.refuses w a e;
  passes = λ c a b. s.passes w a b;
  asks = λ c a n. ⊥;
}

-- the files of the demo for a number of employees, by name
abbrev pub demo_file_map : ℕ → FileMap
demo_file_map number = from_entries (demo number)

abbrev pub demo_world : ℕ → World
demo_world number name = get (demo_file_map number) name

-- ---- what is said

-- the line of a table: its name and how many rows it has
abbrev pub count_line : TableOf → ℕ → List ℕ
count_line t many = t.name ++ (codes " " ++ (decimal many ++ codes "\n"))

-- a line for each table from number n on
abbrev pub counts_text : ℕ → List TableOf → List TableRows → List ℕ
counts_text n [] target = []
counts_text n (t ∷ ts) target = count_line t (length (rows_of target n)) ++ counts_text (suc n) ts target

-- the number of the demo, the number of rules, the rows of each target table, and the number of nulls
abbrev pub demo_text : ℕ → Mapping → List TableRows → ℕ → List ℕ
demo_text number M target nulls =
    (codes "demo " ++ (decimal number ++ (codes "\nrules " ++ (decimal (length M.rules) ++ codes "\n"))))
    ++ (counts_text 0 (tables_of M.target) target ++ (codes "nulls " ++ (decimal nulls ++ codes "\n")))

-- what is said of the exchange of a demo; no file is put
abbrev pub IsDemoPlan : ℕ → Mapping → Exchange → PlanContent Done → Type 0
IsDemoPlan number M e plan =
    (nulls : List NullId) × AreTargetNulls (facts e.target) nulls
    × (plan ≡ record { done = dones.Demo e; files = []; text = demo_text number M e.target (length nulls) })

-- a demo is made for 1 to 100,000 employees
abbrev pub IsDemoNumber : ℕ → Type 0
IsDemoNumber number = (1 ≤ number) × (number ≤ EMPLOYEES)

-- the exchange of the demo's files, and what is said of it
abbrev pub demo_stages : Program → ℕ → Mode → Stage Refusal (Unit {0}) (PlanContent Done)
demo_stages P number mode =
    become (λ u q plan. IsDemoPlan number q.0 q.1 plan) (in_world (demo_world number) (exchanges P mode))

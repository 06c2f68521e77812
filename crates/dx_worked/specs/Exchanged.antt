-- What is put of exchanges in core mode, and of those with documents.
use Rattle.std.specs.Prelude.{◌≡◌, Bool, true, false, List, [], ◌∷◌, ◌++◌, codes, map}
use Rattle.dx_base.specs.Entries.{Entry}
use Rattle.dx_base.specs.Texts.{Text}
use Rattle.dx_ports.specs.States.{OutputState}
use Rattle.dx_stages.specs.Ending.{PlanContent}
use Rattle.dx_stages.specs.Worlds.{World}
use Rattle.dx_schema.specs.Forest.{Forest, bare_set, none, set}
use Rattle.dx_funcs.specs.declared.conversion.Conversion.{Conversion}
use Rattle.dx_exchange.specs.declared.mode.Mode.{Mode}
use Rattle.dx_exchange.specs.declared.mode.Mode.TheVariants.{Core}
use Rattle.dx_exchange.specs.declared.result.Exchange.{Exchange}
use Rattle.clio_accept.specs.declared.mapping.Mapping.{Mapping}
use Rattle.clio_ending.specs.declared.ending.Done.{Done}
use Rattle.clio_steps.specs.Outcomes.{wrote_all}
use Rattle.clio_steps.specs.Steps.{Program}
use Rattle.clio_top.specs.Outcomes.{WrittenIn}
use Rattle.clio_top.specs.Running.{IsPlanOf}
use Rattle.dx_worked.specs.Judged.{of_persons}

-- ---- core mode

-- a person of whom no telephone is known isn't made if there is one with it: the step of `k0`
abbrev pub core_script : Text
core_script =
    codes "CREATE TABLE target.\"person\" (\"name\" TEXT, \"num\" TEXT);\n"
    ++ (codes "CREATE TABLE m0 AS SELECT DISTINCT a0.\"name\" AS c0 FROM source.\"emp\" AS a0;\n"
    ++ (codes "CREATE TABLE m1 AS SELECT DISTINCT a0.\"name\" AS c0, a0.\"num\" AS c1 FROM source.\"phone\" AS a0;\n"
    ++ (codes "CREATE TABLE k0 AS SELECT * FROM m0 AS m WHERE NOT EXISTS (SELECT * FROM m1 AS n WHERE n.c0 = m.c0);\n"
    ++ (codes "INSERT INTO target.\"person\" SELECT m.c0, SKOLEM(0, 0, m.place) FROM k0 AS m;\n"
    ++ codes "INSERT INTO target.\"person\" SELECT m.c0, m.c1 FROM m1 AS m;\n"))))

-- the first two files
abbrev pub core_texts : List Entry
core_texts =
    (codes "rules.txt", codes "rule emp(x0) -> person(x0, y0);\nrule phone(x0, x1) -> person(x0, x1);\n")
    ∷ (codes "script.sql", core_script)
    ∷ []

-- they are planned in core mode
abbrev pub CoreScriptIsPlanned : Type 0
CoreScriptIsPlanned =
    (list : List Conversion) (nested : Bool) (e : Exchange) (plan : PlanContent Done)
    → IsPlanOf list Core nested of_persons e plan
    → (rest : List Entry) × (plan.files ≡ core_texts ++ rest)

-- and written
abbrev pub CoreScriptIsWritten : Type 0
CoreScriptIsWritten =
    (P : Program) (nested : Bool) (c : World) (e : Exchange) (before after : OutputState)
    → (w : WrittenIn P Core nested c e (wrote_all before after)) → w.mapping ≡ of_persons
    → (rest : List Entry) × (said : Text) × wrote_all before after (core_texts ++ rest) said

-- ---- documents

-- units with their staff
abbrev pub units : Forest
units =
    set (bare_set (codes "unit") (codes "uname" ∷ [])) (set (bare_set (codes "staff") (codes "sname" ∷ [])) none none)
    none

-- with the word `--nested` there is a document of units besides
abbrev pub documents : Bool → List Text
documents true = codes "unit.json" ∷ []
documents false = []

abbrev pub files_named : Bool → List Text
files_named nested =
    codes "rules.txt" ∷ codes "script.sql" ∷ codes "unit.csv" ∷ codes "staff.csv" ∷ codes "nulls.csv" ∷ codes "fold.csv"
    ∷ documents nested

abbrev pub names_in : List Entry → List Text
names_in files = map (λ (f : Entry). f.0) files

-- these files are planned
abbrev pub DocumentIsPlanned : Type 0
DocumentIsPlanned =
    (list : List Conversion) (mode : Mode) (nested : Bool) (M : Mapping) (e : Exchange) (plan : PlanContent Done)
    → M.target ≡ units → IsPlanOf list mode nested M e plan → names_in plan.files ≡ files_named nested

-- and written
abbrev pub DocumentIsWritten : Type 0
DocumentIsWritten =
    (P : Program) (mode : Mode) (nested : Bool) (c : World) (e : Exchange) (before after : OutputState)
    → (w : WrittenIn P mode nested c e (wrote_all before after)) → w.mapping.target ≡ units
    → (files : List Entry) × (said : Text) × wrote_all before after files said × (names_in files ≡ files_named nested)

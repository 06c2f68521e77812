-- Two small worlds with a key. In one, employees of one department get one number for it, which is not known; in the
-- other, a person would have two departments.
use Rattle.std.specs.Prelude.{◌≡◌, List, [], ◌∷◌, ◌++◌, codes}
use Rattle.std.specs.FinMap.{from_entries, get}
use Rattle.dx_base.specs.Entries.{Entry, FileMap}
use Rattle.dx_base.specs.Members.{◌∈◌}
use Rattle.dx_ports.specs.States.{OutputState}
use Rattle.dx_base.specs.Texts.{Text}
use Rattle.dx_model.specs.declared.values.Value.TheVariants.{Const}
use Rattle.dx_stages.specs.Ending.{WroteAll}
use Rattle.dx_stages.specs.Worlds.{World}
use Rattle.dx_keys.specs.declared.answers.Clash.{Clash}
use Rattle.dx_exchange.specs.declared.result.Exchange.{Exchange}
use Rattle.clio_ending.specs.declared.ending.Done.TheVariants.{Exchanged}
use Rattle.clio_ending.specs.declared.ending.Refusal.TheVariants as refusals
use Rattle.clio_steps.specs.Outcomes.{wrote_all}
use Rattle.clio_steps.specs.Steps.{Program}
use Rattle.clio_top.specs.Commands.{run_stages}
use Rattle.clio_top.specs.Completing.{HasPlanFor}
use Rattle.clio_top.specs.Promises.{IsClashOf, IsExchanged}
use Rattle.clio_top.specs.Words.{Word}

-- ---- one department of two employees

-- departments have their name for a key, and each person's leads to the number of one
abbrev pub keyed_text : Text
keyed_text =
    codes "mapping 1; source { set emp { name, dept; } } "
    ++ (codes "target { set dept { id, name; key (name); } set person { name, dept; ref (dept) -> dept (id); } } "
    ++ codes "line emp.dept -> dept.name; line emp.name -> person.name;")

abbrev pub keyed_entries : List Entry
keyed_entries = (codes "mapping.clio", keyed_text) ∷ (codes "emp.csv", codes "name,dept\nann,it\nbob,it\n") ∷ []

abbrev pub keyed_held : FileMap
keyed_held = from_entries keyed_entries

abbrev pub keyed_world : World
keyed_world n = get keyed_held n

-- the rule, its script, one department, its two persons, what the number stands for, and the fold:
-- the second number becomes the first
abbrev pub keyed_files : List Entry
keyed_files =
    (codes "rules.txt", codes "rule emp(x0, x1) -> person(x0, y0), dept(y0, x1);\n")
    ∷ (
      codes "script.sql",
      codes "CREATE TABLE target.\"dept\" (\"id\" TEXT, \"name\" TEXT);\n"
          ++ (codes "CREATE TABLE target.\"person\" (\"name\" TEXT, \"dept\" TEXT);\n"
          ++ (codes
          "CREATE TABLE m0 AS SELECT DISTINCT a0.\"name\" AS c0, a0.\"dept\" AS c1 FROM source.\"emp\" AS a0;\n"
          ++ (codes "INSERT INTO target.\"person\" SELECT m.c0, SKOLEM(0, 0, m.place) FROM m0 AS m;\n"
          ++ codes "INSERT INTO target.\"dept\" SELECT SKOLEM(0, 0, m.place), m.c1 FROM m0 AS m;\n"))),
    )
    ∷ (codes "dept.csv", codes "id,name\n?0.0.0,it\n")
    ∷ (codes "person.csv", codes "name,dept\nann,?0.0.0\nbob,?0.0.0\n")
    ∷ (codes "nulls.csv", codes "null,variable,value\n?0.0.0,x0,ann\n?0.0.0,x1,it\n")
    ∷ (codes "fold.csv", codes "null,value\n?0.0.1,?0.0.0\n")
    ∷ []

-- and what is said after them
abbrev pub keyed_summary : Text
keyed_summary = codes "rules.txt 1\nscript.sql 5\ndept.csv 1\nperson.csv 2\nnulls.csv 2\nfold.csv 1\n"

-- there an exchange is planned, and one that is done, in plain mode, has written exactly this
abbrev pub KeyedIsPlanned : Type 0
KeyedIsPlanned = (P : Program) → (e : Exchange) × HasPlanFor P keyed_world (codes "exchange" ∷ []) (Exchanged e)

abbrev pub KeyedIsWritten : Type 0
KeyedIsWritten =
    (P : Program) (e : Exchange) (before after : OutputState)
    → IsExchanged P keyed_world (codes "exchange" ∷ []) e (wrote_all before after)
    → WroteAll keyed_files keyed_summary before after

-- ---- two departments of one employee

-- persons have their name for a key
abbrev pub clashing_text : Text
clashing_text =
    codes "mapping 1; source { set emp { name, dept; } } target { set person { name, dept; key (name); } } "
    ++ codes "line emp.name -> person.name; line emp.dept -> person.dept;"

abbrev pub clashing_entries : List Entry
clashing_entries = (codes "mapping.clio", clashing_text) ∷ (codes "emp.csv", codes "name,dept\nann,hr\nann,it\n") ∷ []

abbrev pub clashing_held : FileMap
clashing_held = from_entries clashing_entries

abbrev pub clashing_world : World
clashing_world n = get clashing_held n

-- an exchange in each mode
abbrev pub exchange_words : List (List Word)
exchange_words = (codes "exchange" ∷ []) ∷ (codes "exchange" ∷ codes "--core" ∷ []) ∷ []

-- the clash, with the names of its table, of the column of its key, and of the column in which the two rows differ
abbrev pub IsSmallClash : Clash → Text → List Text → Text → Type 0
IsSmallClash k table key column =
    (k.left ≡ Const (codes "ann") ∷ Const (codes "hr") ∷ []) × (k.right ≡ Const (codes "ann") ∷ Const (codes "it") ∷ [])
    × (table ≡ codes "person") × (key ≡ codes "name" ∷ []) × (column ≡ codes "dept")

-- there an exchange is refused in each mode, and each clash is this one
abbrev pub ClashIsRefused : Type 0
ClashIsRefused =
    (P : Program) (words : List Word) → words ∈ exchange_words
    → (k : Clash) × (table : Text) × (key : List Text) × (column : Text)
    × (run_stages P).refuses clashing_world words (refusals.Clash k table key column)

abbrev pub ClashIsThis : Type 0
ClashIsThis =
    (P : Program) (words : List Word) → words ∈ exchange_words
    → (k : Clash) (table : Text) (key : List Text) (column : Text)
    → IsClashOf P clashing_world words k table key column → IsSmallClash k table key column

-- What an exchange writes in the small world, byte by byte.
use Rattle.std.specs.Prelude.{List, [], ◌∷◌, ◌++◌, codes}
use Rattle.dx_base.specs.Entries.{Entry}
use Rattle.dx_ports.specs.States.{OutputState}
use Rattle.dx_base.specs.Texts.{Text}
use Rattle.dx_exchange.specs.declared.result.Exchange.{Exchange}
use Rattle.dx_stages.specs.Ending.{WroteAll}
use Rattle.clio_steps.specs.Outcomes.{wrote_all}
use Rattle.clio_steps.specs.Steps.{Program}
use Rattle.clio_top.specs.Completing.{small_world}
use Rattle.clio_top.specs.Promises.{IsExchanged}

-- the rule, its script, two persons whose telephones are not known, what the two nulls stand for,
-- and a fold that lists none
abbrev pub small_files : List Entry
small_files =
    (codes "rules.txt", codes "rule emp(x0) -> person(x0, y0);\n")
    ∷ (
      codes "script.sql",
      codes "CREATE TABLE target.\"person\" (\"name\" TEXT, \"phone\" TEXT);\n"
          ++ (codes "CREATE TABLE m0 AS SELECT DISTINCT a0.\"name\" AS c0 FROM source.\"emp\" AS a0;\n"
          ++ codes "INSERT INTO target.\"person\" SELECT m.c0, SKOLEM(0, 0, m.place) FROM m0 AS m;\n"),
    )
    ∷ (codes "person.csv", codes "name,phone\nann,?0.0.0\nbob,?0.0.1\n")
    ∷ (codes "nulls.csv", codes "null,variable,value\n?0.0.0,x0,ann\n?0.0.1,x0,bob\n")
    ∷ (codes "fold.csv", codes "null,value\n")
    ∷ []

-- and what is said after them
abbrev pub small_summary : Text
small_summary = codes "rules.txt 1\nscript.sql 3\nperson.csv 2\nnulls.csv 2\nfold.csv 0\n"

-- an exchange that is done there, in plain mode, has written exactly this
abbrev pub SmallIsWritten : Type 0
SmallIsWritten =
    (P : Program) (e : Exchange) (before after : OutputState)
    → IsExchanged P small_world (codes "exchange" ∷ []) e (wrote_all before after)
    → WroteAll small_files small_summary before after

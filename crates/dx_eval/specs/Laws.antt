-- What holds of runs of scripts.
use Rattle.std.specs.Prelude.{◌≡◌, ◌⊎◌, ℕ, List, length, map}
use Rattle.dx_base.specs.Members.{◌≈◌}
use Rattle.dx_base.specs.declared.file.Count.TheVariants.{TargetCells}
use Rattle.dx_base.specs.Texts.{Text}
use Rattle.dx_model.specs.declared.facts.Fact.{Fact}
use Rattle.dx_model.specs.Values.{Tuple, Rows}
use Rattle.dx_model.specs.Matches.{rows_of_matches}
use Rattle.dx_schema.specs.Names.{TableNames}
use Rattle.dx_instance.specs.Stored.{facts, widths}
use Rattle.dx_script.specs.declared.form.Step.{Step}
use Rattle.dx_script.specs.Meaning.{Means}
use Rattle.dx_eval.specs.declared.made.Made.{Made}
use Rattle.dx_eval.specs.declared.fault.EvalFault.{EvalFault}
use Rattle.dx_eval.specs.declared.fault.EvalFault.TheVariants.{Limit}
use Rattle.dx_eval.specs.Evaluating.{AreMatchTables, IsMade, ScriptPassesLimit}

-- two runs of a script on the same rows have the same matches and the same facts
abbrev pub RunsAgree : Type 0
RunsAgree =
    (source target : List TableNames) (call : Text → Tuple → Text) (steps : List Step) (I : List Fact)
    (limit : ℕ) (m n : Made)
    → IsMade source target call steps I limit m → IsMade source target call steps I limit n
    → (rows_of_matches m.matches ≡ rows_of_matches n.matches) × (facts m.instance ≈ facts n.instance)

-- a script that makes something within a limit doesn't pass it
abbrev pub MadeOrTooMany : Type 0
MadeOrTooMany =
    (source target : List TableNames) (call : Text → Tuple → Text) (steps : List Step) (I : List Fact) (limit : ℕ)
    (m : Made) (e : EvalFault) → IsMade source target call steps I limit m
    → ¬ (ScriptPassesLimit source call steps I limit e)

-- what a script means is made within the limit, or the script passes the limit, and this is the fault
abbrev pub MadeOrPassed : Type 0
MadeOrPassed =
    (source target : List TableNames) (call : Text → Tuple → Text) (steps : List Step) (I : List Fact)
    (limit : ℕ) (m : Made)
    → Means source target call steps I (rows_of_matches m.matches) (facts m.instance)
    → widths m.instance ≡ map (λ (t : TableNames). length t.columns) target
    → IsMade source target call steps I limit m
    ⊎ ScriptPassesLimit source call steps I limit (Limit (record { what = TargetCells; number = limit }))

-- the match tables of a script are those of its meaning
abbrev pub TablesOfMeaning : Type 0
TablesOfMeaning =
    (source target : List TableNames) (call : Text → Tuple → Text) (steps : List Step) (I : List Fact)
    (tables others : Rows) (K : List Fact)
    → Means source target call steps I tables K → AreMatchTables source call steps I others → tables ≡ others

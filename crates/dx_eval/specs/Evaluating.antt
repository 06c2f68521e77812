-- What a run of a script makes of the rows of a source, and when it passes a limit.
use Rattle.std.specs.Prelude.{◌≡◌, ℕ, ◌*◌, ◌<◌, ◌≤◌, cond, eqb, List, length, map, sum}
use Rattle.dx_base.specs.Members.{◌∈◌}
use Rattle.dx_base.specs.declared.file.Count.TheVariants.{TargetCells}
use Rattle.dx_base.specs.Texts.{Text}
use Rattle.dx_model.specs.declared.facts.Fact.{Fact}
use Rattle.dx_model.specs.Values.{Tuple, Rows}
use Rattle.dx_model.specs.Covers.{below}
use Rattle.dx_model.specs.Matches.{rows_of_matches}
use Rattle.dx_schema.specs.Names.{TableNames}
use Rattle.dx_instance.specs.Stored.{facts, widths}
use Rattle.dx_script.specs.declared.form.Select.{Select}
use Rattle.dx_script.specs.declared.form.Equal.{Equal}
use Rattle.dx_script.specs.declared.form.Step.{Step}
use Rattle.dx_script.specs.declared.form.Step.TheVariants.{Create, MatchRows, KeepRows, InsertRows}
use Rattle.dx_script.specs.Meaning.{IsMatchTable, Means, match_table}
use Rattle.dx_eval.specs.declared.made.Made.{Made}
use Rattle.dx_eval.specs.declared.fault.EvalFault.{EvalFault}
use Rattle.dx_eval.specs.declared.fault.EvalFault.TheVariants.{Limit}

-- ---- the cells that a script inserts, each rule's for all of its matches

-- how many cells a step inserts for each tuple of rule r
abbrev pub inserted_cells : ℕ → Step → ℕ
inserted_cells r (Create table columns) = 0
inserted_cells r (MatchRows s select sources equal) = 0
inserted_cells r (KeepRows s unless) = 0
inserted_cells r (InsertRows table s kept cells) = cond (eqb r s) (length cells) 0

-- how many cells the steps insert for each tuple of rule r
abbrev pub cells_for : List Step → ℕ → ℕ
cells_for steps r = sum (map (inserted_cells r) steps)

-- the sum, over the rules, of their tuples times the cells of their inserts
abbrev pub script_cells : List Step → Rows → ℕ
script_cells steps tables = sum (map (λ r. length (match_table tables r) * cells_for steps r) (below (length tables)))

-- ---- runs

-- the match tables of a script on the rows I of a source
pub record AreMatchTables (source : List TableNames) (call : Text → Tuple → Text) (steps : List Step)
    (I : List Fact) (tables : Rows)
    : Type 0 where
  pub matches : (r : ℕ) (select : List Select) (sources : List Text) (equal : List Equal)
      → MatchRows r select sources equal ∈ steps
      → (r < length tables) × IsMatchTable source call I select sources equal (match_table tables r)
  pub no_more : (r : ℕ) → r < length tables
      → (select : List Select) × (sources : List Text) × (equal : List Equal)
      × (MatchRows r select sources equal ∈ steps)

-- the matches and the facts are what the script means, within the limit; the tables have the columns of the target's
pub record IsMade (source target : List TableNames) (call : Text → Tuple → Text) (steps : List Step)
    (I : List Fact) (limit : ℕ)
    (m : Made) : Type 0 where
  pub means : Means source target call steps I (rows_of_matches m.matches) (facts m.instance)
  pub within : script_cells steps (rows_of_matches m.matches) ≤ limit
  pub wide : widths m.instance ≡ map (λ (t : TableNames). length t.columns) target

-- the match tables of the script pass the limit, and this is the fault
pub record ScriptPassesLimit (source : List TableNames) (call : Text → Tuple → Text) (steps : List Step)
    (I : List Fact) (limit : ℕ)
    (e : EvalFault) : Type 0 where
  pub tables : Rows
  pub are : AreMatchTables source call steps I tables
  pub more : limit < script_cells steps tables
  pub fault : e ≡ Limit (record { what = TargetCells; number = limit })

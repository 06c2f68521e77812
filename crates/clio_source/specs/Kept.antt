-- Of an instance the rows that pass conditions.
use Rattle.std.specs.Prelude.{◌≡◌, ℕ, Bool, List, filter, map}
use Rattle.std.specs.List.{list_all}
use Rattle.dx_base.specs.Members.{◌∈◌, ◌≈◌, Each}
use Rattle.dx_model.specs.declared.values.Value.{Value}
use Rattle.dx_funcs.specs.declared.row_test.RowTest.{RowTest}
use Rattle.dx_lines.specs.declared.line.Condition.{Condition}
use Rattle.dx_instance.specs.Cells.{NumberTable}
use Rattle.dx_instance.specs.Shown.{shown_row}
use Rattle.dx_instance.specs.Stored.{TableRows, facts, widths}
use Rattle.dx_used.specs.Passing.{Passes, fact_passes, passing}

-- a row test of this code is listed
abbrev pub IsListedTest : List RowTest → ℕ → Type 0
IsListedTest list code = code ∈ map (λ (t : RowTest). t.code) list

-- each condition asks for a test that is listed
abbrev pub AllTestsListed : List RowTest → List Condition → Type 0
AllTestsListed list conditions = Each conditions (λ c. IsListedTest list c.code)

-- the same tables with just the facts that pass
pub record IsPassing (passes : Passes) (conditions : List Condition) (I J : List TableRows) : Type 0 where
  pub widths_stay : widths J ≡ widths I
  pub exact : facts J ≈ passing passes conditions (facts I)

-- whether the row of a table that numbers show passes
abbrev pub row_passes : Passes → List Condition → List Value → ℕ → List ℕ → Bool
row_passes passes conditions symbols table row =
    list_all (fact_passes passes (record { table = table; row = shown_row symbols row })) conditions

-- the rows of a table that pass, in their order
abbrev pub rows_kept : (List ℕ → Bool) → NumberTable → NumberTable
rows_kept p t = record { width = t.width; rows = filter p t.rows }

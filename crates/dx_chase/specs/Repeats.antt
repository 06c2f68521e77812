-- Which determinations of a table are there, by their columns.
use Rattle.std.specs.Prelude.{◌≡◌, ℕ, ◌<◌, Some, List, ◌∷◌, ◌++◌, length}
use Rattle.dx_chase.specs.Demands.{Demand}
use Rattle.dx_chase.specs.Index.{found}
use Rattle.dx_chase.specs.Parts.{LieFrom, demands_in}
use Rattle.dx_chase.specs.Rows.{IsAskedIn, determination_columns, determination_count}
use Rattle.dx_chase.specs.Tables.{ChaseTable}
use Rattle.dx_chase.specs.declared.asked.Part.{Part}
use Rattle.dx_chase.specs.declared.index.Index.{Index}
use Rattle.dx_chase.specs.declared.tables.Columns.{Columns}

-- the columns of a determination as one list: how many are on the left, these, and those on the right
abbrev pub columns_listed : Columns → List ℕ
columns_listed c = length c.left ∷ c.left ++ c.right

-- the determination has these columns, and of it all is asked
pub record IsAskedAt (tables : List ChaseTable) (t : ℕ) (ds : List Demand) (columns : List ℕ) (c : ℕ) : Type 0 where
  pub inside : c < determination_count tables t
  pub is : columns_listed (determination_columns tables t c) ≡ columns
  pub asked : IsAskedIn tables t c ds

-- what an index has at columns is such a determination
abbrev pub IndexesDemands : List ChaseTable → ℕ → List Demand → Index → Type 0
IndexesDemands tables t ds index =
    (columns : List ℕ) (c : ℕ) → found index columns ≡ Some c → IsAskedAt tables t ds columns c

-- parts whose demands have the numbers below `end`, and an index of determinations that these ask
pub record PartsAndIndex (tables : List ChaseTable) (t : ℕ) (parts : List Part) (index : Index) (end : ℕ) : Type 0 where
  pub lie : LieFrom tables 0 parts end
  pub there : IndexesDemands tables t (demands_in tables parts) index

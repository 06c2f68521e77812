-- Values under numbers, and how numbers are read as values again.
use Rattle.std.specs.Prelude.{◌≡◌, ℕ, ◌<◌, ◌≤◌, ◌+◌, ◌⊎◌, List, [], ◌∷◌, map, length, cond, nat_eq}
use Rattle.std.specs.declared.cmp.Ordering.TheVariants.{Less, Greater}
use Rattle.dx_base.specs.Members.{Each}
use Rattle.dx_base.specs.Texts.{Text}
use Rattle.dx_model.specs.declared.values.NullId.{NullId}
use Rattle.dx_model.specs.declared.values.Value.{Value}
use Rattle.dx_model.specs.declared.values.Value.TheVariants.{Const, Null}
use Rattle.dx_model.specs.declared.facts.NullPair.{NullPair}
use Rattle.dx_model.specs.Tables.{Determination, DeterminationsFit, Table, cell, table_of}
use Rattle.dx_model.specs.Values.{row_cmp, value_cmp}
use Rattle.dx_schema.specs.Forest.{Forest}
use Rattle.dx_schema.specs.Tables.{model_tables, schema_widths}
use Rattle.dx_instance.specs.Cells.{NumberTable as TableOfNumbers}
use Rattle.dx_instance.specs.NullMaps.{ByNull, pairs_of}
use Rattle.dx_instance.specs.Shown.{PartsFit, numbers_of_table, renumbered, shown_tables}
use Rattle.dx_instance.specs.Stored.{IsSorting, TableRows, widths}
use Rattle.dx_chase.specs.Demands.{Demand}
use Rattle.dx_chase.specs.declared.demands.Step.{Step}
use Rattle.dx_chase.specs.declared.demands.ClashAt.{ClashAt}
use Rattle.dx_chase.specs.declared.tables.Columns.{Columns}
use Rattle.dx_chase.specs.Tables.{ChaseTable}
use Rattle.dx_chase.specs.declared.rows.RowsChased.{RowsChased}
use Rattle.dx_chase.specs.Rows.{TablesAreBelow, IsRowDemand, determination_columns, number_row, number_table}
use Rattle.dx_chase.specs.Joins.{nth, demand_at}
use Rattle.dx_keys.specs.Answers.{IsChased}
use Rattle.dx_keys.specs.declared.answers.Clash.{Clash}
use Rattle.dx_keys.specs.declared.numbering.Numbering.{Numbering}

-- values in ascending order, each once, of which the first are constants and the others nulls
pub record AreValues (consts : ℕ) (S : List Value) : Type 0 where
  pub ascend : (i j : ℕ) → i < j → j < length S → value_cmp (cell S i) (cell S j) ≡ Less
  pub constants : (i : ℕ) → i < consts → i < length S → (t : Text) × (cell S i ≡ Const t)
  pub nulls : (i : ℕ) → consts ≤ i → i < length S → (n : NullId) × (cell S i ≡ Null n)

-- a value that is a null
abbrev pub null_of : Value → NullId
null_of (Const t) = record { rule = 0; var = 0; row = 0 }
null_of (Null n) = n

-- a step, by its values
abbrev pub pair_of : List Value → Step → NullPair
pair_of S s = record { null = null_of (cell S s.greater); value = cell S s.lesser }

abbrev pub steps_of : List Value → List Step → List NullPair
steps_of S ss = map (pair_of S) ss

-- what becomes of the numbers from i on, of values vs: those that are not their own root
abbrev pub null_pairs_from : List Value → List ℕ → ℕ → List Value → List NullPair
null_pairs_from S roots i [] = []
null_pairs_from S roots i (v ∷ vs) =
    cond (nat_eq (nth roots i) i) (null_pairs_from S roots (i + 1) vs)
    (record { null = null_of v; value = cell S (nth roots i) } ∷ null_pairs_from S roots (i + 1) vs)

-- the null map of roots
abbrev pub null_map_of : List Value → List ℕ → List NullPair
null_map_of S roots = null_pairs_from S roots 0 S

-- the root of each number: what is not its own root is a null
pub record NumberRoots (S : List Value) (roots : List ℕ) : Type 0 where
  pub many : length roots ≡ length S
  pub within : (i : ℕ) → i < length S → nth roots i < length S
  pub nulls : (i : ℕ) → i < length S → ¬ (nth roots i ≡ i) → (n : NullId) × (cell S i ≡ Null n)

-- columns, as a determination
abbrev pub determination_of : Columns → Determination
determination_of c = record { left = c.left; right = c.right }

-- values of an instance under numbers, and its rows by these numbers
pub record IsNumbering (I : List TableRows) (n : Numbering) : Type 0 where
  pub ordered : AreValues n.constants n.symbols
  pub is_shown : shown_tables n.symbols n.tables.items ≡ I
  pub parts : PartsFit n.symbols n.tables.items

-- the rows of each table, and what determines what in it
pub record TablesWithin (schema : List Table) (rows : List TableOfNumbers) (tables : List ChaseTable) : Type 0 where
  pub many : length tables ≡ length rows
  pub rows_are : (t : ℕ) → t < length tables → (number_table tables t).rows ≡ (numbers_of_table rows t).rows
  pub determined : (t : ℕ) → t < length tables
      → map determination_of (number_table tables t).determinations ≡ (table_of schema t).determinations

-- the row of a demand, each number read at its root
abbrev pub row_read : List Value → List ChaseTable → List ℕ → Demand → List Value
row_read S tables roots d = map (cell S) (map (nth roots) (number_row tables d.table d.row))

-- what is asked of a demand whose row is read: it is there, and the numbers of rows, and their roots, stand for values
pub record CanReadDemand (S : List Value) (tables : List ChaseTable) (roots : List ℕ)
    (demands : List Demand) (i : ℕ) : Type 0 where
  pub roots_are : NumberRoots S roots
  pub below : TablesAreBelow (length S) tables
  pub demand : IsRowDemand tables (demand_at demands i)
  pub inside : i < length demands

-- what is asked of a clash that is read: its numbers stand for values and rows
pub record CanRead (S : List Value) (tables : List ChaseTable) (c : RowsChased) (p : ClashAt) : Type 0 where
  pub below : TablesAreBelow (length S) tables
  pub roots_are : NumberRoots S c.chased.roots
  pub steps_in : Each c.chased.steps (λ s. (s.greater < length S) × (s.lesser < length S))
  pub demands_in : Each c.demands (IsRowDemand tables)
  pub one_in : p.one < length c.demands
  pub other_in : p.other < length c.demands
  pub column_in : p.column < length (demand_at c.demands p.one).right

-- a clash by values: the two rows are those of its demands, in order
pub record IsClashByValues (S : List Value) (tables : List ChaseTable) (c : RowsChased) (p : ClashAt)
    (k : Clash) : Type 0 where
  pub steps_are : k.steps ≡ steps_of S c.chased.steps
  pub table_is : k.table ≡ (demand_at c.demands p.one).table
  pub key_is : k.key ≡ (demand_at c.demands p.one).determination
  pub column_is : k.column ≡ nth (determination_columns tables k.table k.key).right p.column
  pub rows_are : ((k.left ≡ row_read S tables c.chased.roots (demand_at c.demands p.one))
      × (k.right ≡ row_read S tables c.chased.roots (demand_at c.demands p.other)))
      ⊎ ((k.left ≡ row_read S tables c.chased.roots (demand_at c.demands p.other))
      × (k.right ≡ row_read S tables c.chased.roots (demand_at c.demands p.one)))
  pub in_order : ¬ (row_cmp k.left k.right ≡ Greater)

-- an instance of a schema under numbers
pub record IsNumbered (f : Forest) (I : List TableRows) (n : Numbering) : Type 0 where
  pub widths_are : widths I ≡ schema_widths f
  pub wide : Each I (λ (t : TableRows). Each t.rows (λ (row : List Value). length row ≡ t.width))
  pub determined : DeterminationsFit (model_tables f)
  pub numbering : IsNumbering I n

-- what is read of the roots of the numbers is the chase of the instance
abbrev pub AnswersBy : List Table → List TableRows → Numbering → List ℕ → Type 0
AnswersBy schema I n roots =
    (m : ByNull) (K : List TableRows) → pairs_of m ≡ null_map_of n.symbols roots
    → IsSorting (shown_tables n.symbols (map (renumbered roots) n.tables.items)) K
    → IsChased schema I (record { instance = K; map = m })

-- an instance of a schema under numbers, and its rows by these, with what its keys determine
pub record IsNumberedInstance (f : Forest) (I : List TableRows) (n : Numbering) (rows : List ChaseTable) : Type 0 where
  pub widths_are : widths I ≡ schema_widths f
  pub wide : Each I (λ (t : TableRows). Each t.rows (λ (row : List Value). length row ≡ t.width))
  pub determined : DeterminationsFit (model_tables f)
  pub numbering : IsNumbering I n
  pub listed : TablesWithin (model_tables f) n.tables.items rows

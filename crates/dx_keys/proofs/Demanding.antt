-- Facts as demands on the numbers of their values, and what a chase of the numbers says of the facts.
use Rattle.std.proofs.Common.{◌≡◌, ℕ, ◌<◌, List, length}
use Rattle.std.specs.Prelude.{map, MatchOption}
use Rattle.dx_model.specs.declared.values.Value.{Value}
use Rattle.dx_model.specs.declared.facts.Fact.{Fact}
use Rattle.dx_model.specs.declared.facts.NullPair.{NullPair}
use Rattle.dx_model.specs.Tables.{Table, Determination, table_of, cell, values_in, KeysHold}
use Rattle.dx_model.specs.Instances.{given, image, moved}
use Rattle.dx_model.specs.Chase.{after, AreSteps, IsClashAt, IsForcedMap, NoneReceives}
use Rattle.dx_base.specs.Members.{◌∈◌, Each}
use Rattle.dx_chase.specs.Demands.{Demand}
use Rattle.dx_chase.specs.declared.demands.ClashAt.{ClashAt}
use Rattle.dx_chase.specs.Tables.{ChaseTable}
use Rattle.dx_chase.specs.declared.rows.RowsChased.{RowsChased}
use Rattle.dx_chase.specs.Joins.{nth, demand_at, tag_of}
use Rattle.dx_chase.specs.Rows.{determination_columns, number_row, row_count, number_table}
use Rattle.dx_keys.specs.Numbers.{NumberRoots, determination_of, null_map_of, steps_of, row_read}

-- each demand is that of a fact and a determination of its table; its numbers are those of the fact's values in the
-- columns of the determination; demands that agree in table and determination are of one determination; and each two facts of a table have such demands
pub record AreDemandsOf (schema : List Table) (S : List Value) (A : List Fact) (ds : List Demand) : Type 0 where
  pub fact : ℕ → Fact
  pub determination : ℕ → Determination
  pub inside : (i : ℕ) → i < length ds → fact i ∈ A
  pub of_table : (i : ℕ) → i < length ds → determination i ∈ (table_of schema (fact i).table).determinations
  pub left : (i : ℕ) → i < length ds → map (cell S) (demand_at ds i).left ≡ values_in (determination i).left (fact i).row
  pub right : (i : ℕ) → i < length ds → map (cell S) (demand_at ds i).right ≡ values_in (determination i).right (fact i).row
  pub table : (i j : ℕ) → i < length ds → j < length ds → tag_of (demand_at ds i) ≡ tag_of (demand_at ds j) → (fact i).table ≡ (fact j).table
  pub same : (i j : ℕ) → i < length ds → j < length ds → tag_of (demand_at ds i) ≡ tag_of (demand_at ds j) → determination i ≡ determination j
  pub all : (a b : Fact) (d : Determination) → a ∈ A → b ∈ A → a.table ≡ b.table → d ∈ (table_of schema a.table).determinations
      → (i : ℕ) × (j : ℕ) × (i < length ds) × (j < length ds) × (tag_of (demand_at ds i) ≡ tag_of (demand_at ds j))
      × (fact i ≡ a) × (fact j ≡ b) × (determination i ≡ d)

-- the forced map, and keys hold in the image
pub record IsFactMap (schema : List Table) (A : List Fact) (ss m : List NullPair) : Type 0 where
  pub forced : IsForcedMap schema A m
  pub keys : KeysHold schema (image m A)
  pub there : image m A ≡ after ss A

-- a row of numbers, as a fact
abbrev pub fact_of : List Value → ℕ → List ℕ → Fact
fact_of S t row = record { table = t; row = map (cell S) row }

-- the tables have the schema's determinations, and the rows are the facts, by the numbers of their values
pub record AreTablesOf (schema : List Table) (S : List Value) (A : List Fact) (tables : List ChaseTable) : Type 0 where
  pub determinations : (t : ℕ) → t < length tables → (table_of schema t).determinations ≡ map determination_of (number_table tables t).determinations
  pub rows : (t r : ℕ) → t < length tables → r < row_count tables t → fact_of S t (number_row tables t r) ∈ A
  pub facts : (a : Fact) → a ∈ A → (r : ℕ) × (a.table < length tables) × (r < row_count tables a.table) × (fact_of S a.table (number_row tables a.table r) ≡ a)

-- the fact of a demand, after a chase
abbrev pub left_fact : List Value → List ChaseTable → List ℕ → Demand → Fact
left_fact S tables roots d = record { table = d.table; row = row_read S tables roots d }

-- the determination of a demand
abbrev pub determination_in : List ChaseTable → Demand → Determination
determination_in tables d = determination_of (determination_columns tables d.table d.determination)

-- two facts of what the steps leave agree on the left of a determination and have two constants in a column of its right;
-- and nothing in which keys hold receives the instance
pub record IsRowClash (schema : List Table) (S : List Value) (A : List Fact) (tables : List ChaseTable) (c : RowsChased) (p : ClashAt) : Type 0 where
  pub clash : IsClashAt schema (after (steps_of S c.chased.steps) A) (left_fact S tables c.chased.roots (demand_at c.demands p.one))
      (left_fact S tables c.chased.roots (demand_at c.demands p.other)) (determination_in tables (demand_at c.demands p.one))
      (nth (determination_in tables (demand_at c.demands p.one)).right p.column)
  pub none : NoneReceives schema A

-- the map of the roots is the forced map, keys hold in the image, and each number becomes its root
pub record IsRowMap (schema : List Table) (S : List Value) (A : List Fact) (c : RowsChased) : Type 0 where
  pub forced : IsFactMap schema A (steps_of S c.chased.steps) (null_map_of S c.chased.roots)
  pub gives : (i : ℕ) → i < length S → moved (given (null_map_of S c.chased.roots)) (cell S i) ≡ cell S (nth c.chased.roots i)

-- what a chase of the rows of an instance says of the facts
pub record IsRowChase (schema : List Table) (S : List Value) (A : List Fact) (tables : List ChaseTable) (c : RowsChased) : Type 0 where
  pub steps : AreSteps schema A (steps_of S c.chased.steps)
  pub roots_are : NumberRoots S c.chased.roots
  pub steps_in : Each c.chased.steps (λ s. (s.greater < length S) × (s.lesser < length S))
  pub ends : MatchOption c.chased.clash (IsRowMap schema S A c) (IsRowClash schema S A tables c)

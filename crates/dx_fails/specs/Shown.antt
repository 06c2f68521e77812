-- What shows that a determination or a link does not hold, by the places of rows.
use Rattle.std.specs.Prelude.{◌≡◌, ℕ, ◌<◌, ◌≤◌, ◌^◌, List, [], ◌∷◌, Option, MatchOption, length, slice_index_or, take}
use Rattle.dx_base.specs.Members.{◌∈◌}
use Rattle.dx_model.specs.declared.tables.Link.{Link}
use Rattle.dx_model.specs.declared.values.Value.{Value}
use Rattle.dx_model.specs.Chase.{Break}
use Rattle.dx_model.specs.Tables.{Determination, Table, values_in, determination_at}
use Rattle.dx_instance.specs.Stored.{TableRows, facts, rows_of, widths}
use Rattle.dx_instance.specs.Places.{row_at, value_at, fact_at}
use Rattle.dx_holds.specs.Columns.{IsFirstLike, RowsAgree, RowsLead}
use Rattle.dx_fails.specs.declared.alone.LoneRow.{LoneRow}
use Rattle.dx_fails.specs.declared.broken.Apart.{Apart}
use Rattle.dx_fails.specs.declared.broken.BrokenKey.{BrokenKey}
use Rattle.dx_fails.specs.declared.determining.Determines.{Determines}
use Rattle.dx_fails.specs.Firsts.{DeterminationHolds, HasDetermination, HasLink}
use Rattle.dx_fails.specs.Firsts.{HasLinked, IsFirstFailing, LinkHolds, link_at}

-- the first determination that does not hold, and two rows that agree on its left and differ in a column of its right
pub record IsBrokenKey (schema : List Table) (I : List TableRows) (b : BrokenKey) : Type 0 where
  pub first : IsFirstFailing (HasDetermination schema) (DeterminationHolds schema (facts I)) b.table b.key
  pub table : b.table < length I
  pub in_order : b.left < b.right
  pub within : b.right < length (rows_of I b.table)
  pub break : Break schema (facts I) (fact_at I b.table b.left) (fact_at I b.table b.right)
      (determination_at schema b.table b.key) b.column

-- the first link that does not hold, and a row that lacks the row that it names
pub record IsLoneRow (schema : List Table) (I : List TableRows) (r : LoneRow) : Type 0 where
  pub first : IsFirstFailing (HasLink schema) (LinkHolds schema (facts I)) r.table r.link
  pub table : r.table < length I
  pub within : r.place < length (rows_of I r.table)
  pub alone : ¬ (HasLinked (facts I) (link_at schema r.table r.link) (fact_at I r.table r.place))

-- ---- rows in some columns

-- a table may have so many columns
pub record IsWidth (n : ℕ) : Type 0 where
  pub some : 1 ≤ n
  pub few : n < 2 ^ 32

-- a table of this width has these columns; those on the left are so few that they have numbers
pub record ColumnsWithin (width : ℕ) (d : Determines) : Type 0 where
  pub left : (c : ℕ) → c ∈ d.left.now → c < width
  pub few : length d.left.now < 2 ^ 32
  pub right : (c : ℕ) → c ∈ d.right.now → c < width

-- columns that determine columns, as a determination
abbrev pub as_determination : Determines → Determination
as_determination d = record { left = d.left.now; right = d.right.now }

-- c is the first of the columns in which the rows at places p and q of table t differ
pub record IsFirstApart (I : List TableRows) (t : ℕ) (columns : List ℕ) (p q c : ℕ) : Type 0 where
  pub place : ℕ
  pub within : place < length columns
  pub column : c ≡ slice_index_or columns place 0
  pub differ : ¬ (value_at I t p c ≡ value_at I t q c)
  pub before : RowsAgree I t p (take place columns) t (take place columns) q

-- Two rows of table t agree on the left and differ on the right, first in this column. The lesser is the first row that
-- has what it has on the left; of the rows before the greater, those that agree on the left agree on the right.
pub record IsViolation (I : List TableRows) (t : ℕ) (left right : List ℕ) (a : Apart) : Type 0 where
  pub in_order : a.left < a.right
  pub within : a.right < length (rows_of I t)
  pub agree : RowsAgree I t a.left left t left a.right
  pub first : IsFirstLike I t left a.right a.left
  pub column : IsFirstApart I t right a.left a.right a.column
  pub before : (p q : ℕ) → p < q → q < a.right → RowsAgree I t p left t left q → RowsAgree I t p right t right q

-- S has one table, with exactly what the rows of table t have in these columns
pub record AreShadows (I : List TableRows) (t : ℕ) (columns : List ℕ) (S : List TableRows) : Type 0 where
  pub widths_are : widths S ≡ length columns ∷ []
  pub kept : (p : ℕ) → p < length (rows_of I t) → values_in columns (row_at I t p) ∈ rows_of S 0
  pub only : (row : List Value) → row ∈ rows_of S 0
      → (p : ℕ) × (p < length (rows_of I t)) × (values_in columns (row_at I t p) ≡ row)

-- the row at place p of table t has the row that the link names
abbrev pub HasLinkedRow : List TableRows → ℕ → Link → ℕ → Type 0
HasLinkedRow I t link p = (q : ℕ) × (q < length (rows_of I link.table)) × RowsAgree I t p link.from link.table link.to q

-- the first place of the table whose row lacks the row that the link names, or each row has it
abbrev pub IsAloneOrNone : List TableRows → ℕ → Link → Option ℕ → Type 0
IsAloneOrNone I t link o =
    MatchOption o (RowsLead I t link)
    (λ p. (p < length (rows_of I t)) × (¬ (HasLinkedRow I t link p)) × ((q : ℕ) → q < p → HasLinkedRow I t link q))

-- ---- one table

-- each determination of table t holds
abbrev pub AllIn : List Table → List TableRows → ℕ → Type 0
AllIn schema I t = (k : ℕ) → HasDetermination schema t k → DeterminationHolds schema (facts I) t k

-- the first determination of table t that does not hold, with what shows it
pub record IsBrokenIn (schema : List Table) (I : List TableRows) (t : ℕ) (b : BrokenKey) : Type 0 where
  pub table : b.table ≡ t
  pub is_there : HasDetermination schema t b.key
  pub before : (k : ℕ) → k < b.key → DeterminationHolds schema (facts I) t k
  pub in_order : b.left < b.right
  pub within : b.right < length (rows_of I t)
  pub break : Break schema (facts I) (fact_at I t b.left) (fact_at I t b.right)
      (determination_at schema t b.key) b.column

-- each link of table t holds
abbrev pub AllLead : List Table → List TableRows → ℕ → Type 0
AllLead schema I t = (l : ℕ) → HasLink schema t l → LinkHolds schema (facts I) t l

-- the first link of table t that does not hold, with what shows it
pub record IsLoneIn (schema : List Table) (I : List TableRows) (t : ℕ) (r : LoneRow) : Type 0 where
  pub table : r.table ≡ t
  pub is_there : HasLink schema t r.link
  pub before : (l : ℕ) → l < r.link → LinkHolds schema (facts I) t l
  pub within : r.place < length (rows_of I t)
  pub alone : ¬ (HasLinked (facts I) (link_at schema t r.link) (fact_at I t r.place))

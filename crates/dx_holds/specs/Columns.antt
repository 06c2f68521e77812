-- Keys, dependencies and links of one table, by the places of rows.
use Rattle.std.specs.Prelude.{◌≡◌, ℕ, ◌<◌, List, Some, length}
use Rattle.dx_base.specs.Members.{◌∈◌, Each}
use Rattle.dx_model.specs.declared.values.Value.{Value}
use Rattle.dx_model.specs.declared.tables.Key.{Key}
use Rattle.dx_model.specs.declared.tables.Dep.{Dep}
use Rattle.dx_model.specs.declared.tables.Link.{Link}
use Rattle.dx_model.specs.Tables.{values_in}
use Rattle.dx_schema.specs.Tables.{TableOf}
use Rattle.dx_instance.specs.Stored.{TableRows, rows_of, table_at}
use Rattle.dx_instance.specs.Places.{HasValues, IsFirstWith, row_at}
use Rattle.dx_holds.specs.declared.columns.Seen.{Seen}

-- the row at place q of table u has in its columns `to` what the row at place p of table t has in its columns `from`
abbrev pub RowsAgree : List TableRows → ℕ → ℕ → List ℕ → ℕ → List ℕ → ℕ → Type 0
RowsAgree I t p from u to q = HasValues I u to (values_in from (row_at I t p)) q

-- what the row that was seen has in its columns
abbrev pub seen_values : Seen → List Value
seen_values row = values_in row.columns.now (row_at row.instance.now row.table row.place)

-- no two rows of the table have the same values in these columns
abbrev pub RowsDiffer : List TableRows → ℕ → List ℕ → Type 0
RowsDiffer I t columns = (p q : ℕ) → p < q → q < length (rows_of I t) → ¬ (RowsAgree I t p columns t columns q)

-- rows of the table that have the same values in the columns on the left have the same in those on the right
abbrev pub RowsDetermine : List TableRows → ℕ → List ℕ → List ℕ → Type 0
RowsDetermine I t left right =
    (p q : ℕ) → p < q → q < length (rows_of I t) → RowsAgree I t p left t left q → RowsAgree I t p right t right q

-- the keys and the dependencies of a table of a schema hold in the rows of the table
abbrev pub TableHolds : List TableRows → ℕ → TableOf → Type 0
TableHolds I t table =
    Each table.keys (λ (k : Key). RowsDiffer I t k.columns)
    × Each table.deps (λ (d : Dep). RowsDetermine I t d.columns d.decides)

-- of the places whose rows have in these columns what the row at place p has, q is the least
abbrev pub IsFirstLike : List TableRows → ℕ → List ℕ → ℕ → ℕ → Type 0
IsFirstLike I t columns p q = IsFirstWith I t columns (values_in columns (row_at I t p)) 0 (Some q)

-- the row at place p has the row that the link names
abbrev pub RowLeads : List TableRows → ℕ → Link → ℕ → Type 0
RowLeads I t link p = (q : ℕ) × (q < length (rows_of I link.table)) × RowsAgree I t p link.from link.table link.to q

-- each row of the table has the row that the link names
abbrev pub RowsLead : List TableRows → ℕ → Link → Type 0
RowsLead I t link = (p : ℕ) → p < length (rows_of I t) → RowLeads I t link p

-- a link goes from columns of the table to as many columns of a table
pub record LinkFitsInstance (I : List TableRows) (width : ℕ) (link : Link) : Type 0 where
  pub table : link.table < length I
  pub lengths : length link.from ≡ length link.to
  pub from : (c : ℕ) → c ∈ link.from → c < width
  pub to : (c : ℕ) → c ∈ link.to → c < (table_at I link.table).width

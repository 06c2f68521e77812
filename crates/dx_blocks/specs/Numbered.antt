-- Blocks of numbers, and the blocks that they show.
use Rattle.std.specs.Prelude.{◌≡◌, ℕ, ◌<◌, length, map}
use Rattle.dx_base.specs.Members.{Each}
use Rattle.dx_model.specs.declared.values.NullId.{NullId}
use Rattle.dx_model.specs.declared.values.Value.{Value}
use Rattle.dx_model.specs.declared.values.Value.TheVariants.{Const, Null}
use Rattle.dx_model.specs.declared.facts.Fact.{Fact}
use Rattle.dx_instance.specs.Places.{row_at}
use Rattle.dx_instance.specs.Numbers.{value_of}
use Rattle.dx_instance.specs.Shown.{NumberedInstance, numbers_of_table, shown_tables}
use Rattle.dx_blocks.specs.declared.block.Block.{Block}
use Rattle.dx_blocks.specs.declared.numbered.At.{At}
use Rattle.dx_blocks.specs.declared.numbered.NumberBlock.{NumberBlock}

-- the null that a value is
abbrev pub as_null : Value → NullId
as_null (Const t) = record { rule = 0; var = 0; row = 0 }
as_null (Null n) = n

-- the null under a number
abbrev pub null_under : NumberedInstance → ℕ → NullId
null_under N n = as_null (value_of N.symbols n)

-- the fact of a row
abbrev pub fact_of : NumberedInstance → At → Fact
fact_of N a = record { table = a.table; row = row_at (shown_tables N.symbols N.tables) a.table a.place }

-- the block that a block of numbers shows
abbrev pub shown_block : NumberedInstance → NumberBlock → Block
shown_block N b = record { nulls = map (null_under N) b.nulls; facts = map (fact_of N) b.rows }

-- under the number stands a null
pub record IsNullNumber (N : NumberedInstance) (n : ℕ) : Type 0 where
  pub within : n < length N.symbols
  pub is : value_of N.symbols n ≡ Null (null_under N n)

-- the row is there
pub record IsRowIn (N : NumberedInstance) (a : At) : Type 0 where
  pub table : a.table < length N.tables
  pub place : a.place < length (numbers_of_table N.tables a.table).rows

-- the numbers of a block are those of nulls, and its rows are there
pub record IsOfNumbers (N : NumberedInstance) (b : NumberBlock) : Type 0 where
  pub nulls : Each b.nulls (IsNullNumber N)
  pub rows : Each b.rows (IsRowIn N)

-- Numbers of nulls, the rows that hold them, and the facts of rows.
use Rattle.std.specs.Prelude.{◌≡◌, ◌↔◌, ℕ, ◌<◌, ◌≤◌, ◌-◌, ◌⊎◌, Bool, nat_lt, List, [], length, map}
use Rattle.std.specs.List.{range_with_len}
use Rattle.dx_base.specs.Members.{◌∈◌, Each}
use Rattle.dx_model.specs.declared.values.NullId.{NullId}
use Rattle.dx_model.specs.declared.values.Value.TheVariants.{Null}
use Rattle.dx_model.specs.declared.facts.Fact.{Fact}
use Rattle.dx_model.specs.Values.{Ascends}
use Rattle.dx_model.specs.Instances.{values}
use Rattle.dx_instance.specs.Cells.{numbers_at}
use Rattle.dx_instance.specs.Numbers.{ValuesAscend, value_of}
use Rattle.dx_instance.specs.Shown.{NumberedInstance, PartsFit, numbers_of_table}
use Rattle.dx_blocks.specs.declared.block.Block.{Block}
use Rattle.dx_blocks.specs.declared.numbered.At.{At}
use Rattle.dx_blocks.specs.declared.numbered.NumberBlock.{NumberBlock}
use Rattle.dx_blocks.specs.Labels.{BlocksFilled, AreLabels}
use Rattle.dx_blocks.specs.Numbered.{IsOfNumbers, IsRowIn, fact_of, null_under, shown_block}

-- the parts fit, the symbols ascend, and the numbers of their nulls are those from `first` on
pub record IsFirstNull (N : NumberedInstance) (first : ℕ) : Type 0 where
  pub fit : PartsFit N.symbols N.tables
  pub ascend : ValuesAscend N.symbols
  pub within : first ≤ length N.symbols
  pub constants : (n : ℕ) → n < first → (m : NullId) → ¬ (value_of N.symbols n ≡ Null m)
  pub nulls : (n : ℕ) → first ≤ n → n < length N.symbols → value_of N.symbols n ≡ Null (null_under N n)

-- the nulls from a number on
abbrev pub nulls_from : NumberedInstance → ℕ → List NullId
nulls_from N first = map (null_under N) (range_with_len first (length N.symbols - first))

-- the numbers of a row
abbrev pub row_numbers : NumberedInstance → At → List ℕ
row_numbers N a = numbers_at (numbers_of_table N.tables a.table).rows a.place

-- the facts of rows
abbrev pub facts_of : NumberedInstance → List At → List Fact
facts_of N rows = map (fact_of N) rows

-- a row in front of place p of table t
abbrev pub IsRowBefore : ℕ → ℕ → At → Type 0
IsRowBefore t p a = (a.table < t) ⊎ ((a.table ≡ t) × (a.place < p))

-- rows, in front of place p of table t, with all of those that hold nulls, by tables and places
pub record HasNullRows (N : NumberedInstance) (first t p : ℕ) (rows : List At) : Type 0 where
  pub each : Each rows (λ a. IsRowIn N a × IsRowBefore t p a)
  pub all : (a : At) (n : ℕ) → IsRowIn N a → IsRowBefore t p a → n ∈ row_numbers N a → first ≤ n → a ∈ rows
  pub ascend : Ascends (λ (a b : At). IsRowBefore b.table b.place a) rows

-- n is the number of the first null, rs are rows of the instance, and ls the labels of the nulls from n on
pub record RowsLabelled (N : NumberedInstance) (n : ℕ) (rs : List At) (ls : List ℕ) : Type 0 where
  pub first : IsFirstNull N n
  pub rows : Each rs (IsRowIn N)
  pub labels : AreLabels (facts_of N rs) (nulls_from N n) ls

-- the blocks that blocks of numbers show
abbrev pub shown_blocks : NumberedInstance → List NumberBlock → List Block
shown_blocks N bs = map (shown_block N) bs

-- some facts, and no nulls yet, are put into blocks of numbers of the instance
pub record HoldFacts (N : NumberedInstance) (n : ℕ) (ls : List ℕ) (held : List Fact)
    (bs : List NumberBlock) : Type 0 where
  pub filled : BlocksFilled (nulls_from N n) ls [] held (shown_blocks N bs)
  pub within : Each bs (IsOfNumbers N)

-- whether a block has nulls
abbrev pub has_numbers : NumberBlock → Bool
has_numbers b = nat_lt 0 (length b.nulls)

-- the nulls of A, and A, are put into blocks
pub record BlocksOfRows (N : NumberedInstance) (first : ℕ) (rows : List At) (labels : List ℕ)
    (bs : List NumberBlock) : Type 0 where
  pub some : List NullId
  pub exactly : (n : NullId) → (n ∈ some) ↔ (Null n ∈ values (facts_of N rows))
  pub filled : BlocksFilled (nulls_from N first) labels some (facts_of N rows) (shown_blocks N bs)

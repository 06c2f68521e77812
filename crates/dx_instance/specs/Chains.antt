-- Places of keys, each chained to the one before it with the same key.
use Rattle.std.specs.Prelude.{◌≡◌, ℕ, zero, suc, ◌<◌, ◌≤◌, ◌^◌, map, take, drop, List}
use Rattle.std.specs.Prelude.{◌==◌, length, nat_eq, slice_index, if◌then◌else◌}
use Rattle.std.specs.Option.{unwrap_or}
use Rattle.std.specs.HashMap.{get}
use Rattle.dx_base.specs.Members.{Each}
use Rattle.dx_instance.specs.Cells.{NumbersAscend, row_key}
use Rattle.dx_instance.specs.Indexes.{IsColumnIndex}
use Rattle.dx_instance.specs.declared.chains.Chains.{Chains}
use Rattle.dx_instance.specs.declared.column_index.ColumnIndex.{ColumnIndex}

-- one more than the last place below n that has the key, or 0
abbrev pub last_code : ℕ → List ℕ → ℕ → ℕ
last_code key keys zero = 0
last_code key keys (suc n) = if slice_index keys n == key then suc n else last_code key keys n

-- the chains are those of the keys
pub record AreChains (c : Chains) (keys : List ℕ) : Type 0 where
  pub many : length c.before.items ≡ length keys
  pub heads : (key : ℕ) → unwrap_or (get nat_eq c.heads key) 0 ≡ last_code key keys (length keys)
  pub before : (p : ℕ) → p < length keys → slice_index c.before.items p ≡ last_code (slice_index keys p) keys p

-- what holds of a table's parts: its first rows ascend, those after them are chained by their keys, and
-- the indexes are those of its rows
pub record TableParts (sorted : ℕ) (rows : List (List ℕ)) (c : Chains) (indexes : List ColumnIndex) : Type 0 where
  pub some : sorted ≤ length rows
  pub few : length rows < 2 ^ 32
  pub ascend : NumbersAscend (take sorted rows)
  pub chained : AreChains c (map row_key (drop sorted rows))
  pub indexed : Each indexes (IsColumnIndex rows)

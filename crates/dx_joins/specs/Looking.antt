-- Places of keys.
use Rattle.std.specs.Prelude.{◌≡◌, ◌<◌, ◌≤◌, ◌+◌, ◌%◌, ℕ, List, length, map, slice_index}
use Rattle.dx_instance.specs.Cells.{row_key}
use Rattle.dx_joins.specs.declared.index.Index.{Index}

-- the first place from a place on whose key falls into a bucket, or the number of places if there is none
pub record IsNextInBucket (keys : List ℕ) (buckets bucket from at : ℕ) : Type 0 where
  pub after : from ≤ at
  pub within : at ≤ length keys
  pub skips : (q : ℕ) → from ≤ q → q < at → ¬ (slice_index keys q % buckets ≡ bucket)
  pub falls : at < length keys → slice_index keys at % buckets ≡ bucket

-- the heads of the buckets from a place on, and for each place from there on the next one in its bucket
pub record Links (keys heads nexts : List ℕ) (from : ℕ) : Type 0 where
  pub some : 0 < length heads
  pub many : length nexts ≡ length keys
  pub head : (b : ℕ) → b < length heads → IsNextInBucket keys (length heads) b from (slice_index heads b)
  pub next : (p : ℕ) → from ≤ p → p < length keys
      → IsNextInBucket keys (length heads) (slice_index keys p % length heads) (p + 1) (slice_index nexts p)

-- the index is that of the keys
abbrev pub IsBucketIndex : Index → List ℕ → Type 0
IsBucketIndex index keys = Links keys index.heads.items index.nexts.items 0

-- the numbers at these places of a row
abbrev pub numbers_at_places : List ℕ → List ℕ → List ℕ
numbers_at_places row places = map (slice_index row) places

-- the keys of rows by these columns
abbrev pub keys_of : List ℕ → List (List ℕ) → List ℕ
keys_of columns rows = map (λ (row : List ℕ). row_key (numbers_at_places row columns)) rows

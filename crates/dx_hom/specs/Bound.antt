-- What was found, each null in its bucket.
use Rattle.std.specs.Prelude.{◌≡◌, ℕ, ◌+◌, ◌*◌, ◌/◌, ◌%◌, ◌<◌, List, map, length, slice_index, slice_index_or}
use Rattle.dx_model.specs.declared.values.NullId.{NullId}
use Rattle.dx_instance.specs.Chains.{last_code}
use Rattle.dx_hom.specs.declared.matching.Found.{Found}

-- for how many nulls there is room, and those that were found, each with a cell
pub record BindingState : Type 0 where
  pub room : ℕ
  pub cells : List Found

-- the cell of the null that was found at a place
abbrev pub found_at : List Found → ℕ → Found
found_at cells p =
    slice_index_or cells p (record
    { null = record { rule = 0; var = 0; row = 0 }; table = 0; place = 0; column = 0 })

-- the bucket of a null among m
unfoldable pub bucket : ℕ → NullId → ℕ
bucket m n = (n.row * 625_341_585 + n.var * 461_845_907 + n.rule * 214_013_807) / 65_536 % m

-- the bucket of each null
abbrev pub buckets_of : ℕ → List Found → List ℕ
buckets_of m cells = map (λ (b : Found). bucket m b.null) cells

-- heads has for each bucket one more than its last place,
-- before for each place one more than the place before it in its bucket;
-- 0 is none
pub record LinksBuckets (buckets heads before : List ℕ) : Type 0 where
  pub many : length before ≡ length buckets
  pub head : (b : ℕ) → b < length heads → slice_index heads b ≡ last_code b buckets (length buckets)
  pub earlier : (p : ℕ) → p < length buckets → slice_index before p ≡ last_code (slice_index buckets p) buckets p

-- there is a bucket at least, and the links are those of the nulls that were found
pub record LinksBoundNulls (cells : List Found) (heads before : List ℕ) : Type 0 where
  pub some : 0 < length heads
  pub linked : LinksBuckets (buckets_of (length heads) cells) heads before

-- Images of instances under null maps.
use Rattle.std.specs.Prelude.{◌≡◌, ℕ, ◌<◌, List, length, slice_index}
use Rattle.dx_base.specs.Members.{◌≈◌}
use Rattle.dx_model.specs.declared.values.Value.{Value}
use Rattle.dx_model.specs.Instances.{image, moved}
use Rattle.dx_model.specs.Values.{RowsAscend}
use Rattle.dx_instance.specs.NullMaps.{ByNull, becomes, pairs_of}
use Rattle.dx_instance.specs.Numbers.{value_of}
use Rattle.dx_instance.specs.Stored.{TableRows, facts, rows_of, widths}

-- the numbers of what the values under the first i numbers become
pub record AreImages (m : ByNull) (S T : List Value) (images : List ℕ) (i : ℕ) : Type 0 where
  pub many : length images ≡ i
  pub within : (n : ℕ) → n < i → slice_index images n < length T
  pub at : (n : ℕ) → n < i → value_of T (slice_index images n) ≡ moved (becomes m) (value_of S n)

-- the number of what the value under a number becomes
pub record IsImageNumber (m : ByNull) (S : List Value) (n k : ℕ) : Type 0 where
  pub within : k < length S
  pub is : value_of S k ≡ moved (becomes m) (value_of S n)

-- the same widths, ascending rows, and as facts the image under the map
pub record IsImage (m : ByNull) (old new : List TableRows) : Type 0 where
  pub widths_stay : widths new ≡ widths old
  pub ascend : (t : ℕ) → RowsAscend (rows_of new t)
  pub is : image (pairs_of m) (facts old) ≈ facts new

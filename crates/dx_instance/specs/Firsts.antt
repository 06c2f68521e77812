-- The first rows that have the numbers of others in some columns.
use Rattle.std.specs.Prelude.{◌≡◌, ℕ, ◌<◌, ◌≤◌, List, length, map, slice_index}
use Rattle.dx_base.specs.Members.{◌∈◌}
use Rattle.dx_instance.specs.Cells.{numbers_at}
use Rattle.dx_instance.specs.Indexes.{number_in}
use Rattle.dx_instance.specs.declared.firsts.Parts.{Parts}

-- the numbers in some columns of the row at a place
abbrev pub part_at : List (List ℕ) → List ℕ → ℕ → List ℕ
part_at rows columns p = map (λ c. number_in rows c p) columns

-- q is the least place whose part is that of p
pub record IsFirstOf (part : ℕ → List ℕ) (p q : ℕ) : Type 0 where
  pub same : part q ≡ part p
  pub least : (r : ℕ) → r < q → ¬ (part r ≡ part p)

-- the parts of the first n places, each once with the first place that has it
pub record PartsOfPlaces (part : ℕ → List ℕ) (n : ℕ) (parts : Parts) : Type 0 where
  pub many : length parts.places.items ≡ length parts.rows.rows
  pub few : length parts.rows.rows ≤ n
  pub kept : (p : ℕ) → p < n → part p ∈ parts.rows.rows
  pub is_part : (k : ℕ) → k < length parts.rows.rows
      → part (slice_index parts.places.items k) ≡ numbers_at parts.rows.rows k
  pub is_first : (k : ℕ) → k < length parts.rows.rows → (r : ℕ) → r < slice_index parts.places.items k
      → ¬ (part r ≡ numbers_at parts.rows.rows k)

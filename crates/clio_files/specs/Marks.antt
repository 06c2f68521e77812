-- Numbers of nulls, and marks for them.
use Rattle.std.specs.Prelude.{◌≡◌, ◌↔◌, ℕ, ◌+◌, ◌<◌, List, Bool, true, false, length, slice_index_or}
use Rattle.std.specs.List.{concat, flat_map}
use Rattle.dx_base.specs.Members.{◌∈◌}
use Rattle.dx_model.specs.declared.values.NullId.{NullId}
use Rattle.dx_model.specs.declared.values.Value.{Value}
use Rattle.dx_model.specs.declared.values.Value.TheVariants.{Null}
use Rattle.dx_instance.specs.Cells.{NumberTable}
use Rattle.dx_instance.specs.Numbers.{value_of}

abbrev pub IsNull : Value → Type 0
IsNull v = (n : NullId) × (v ≡ Null n)

-- the numbers that are in tables
abbrev pub table_numbers : List NumberTable → List ℕ
table_numbers ts = flat_map (λ (t : NumberTable). concat t.rows) ts

-- of the numbers from `first` on, those that were seen have marks
abbrev pub AreMarks : ℕ → List ℕ → List Bool → Type 0
AreMarks first seen marks = (k : ℕ) → k < length marks → (slice_index_or marks k false ≡ true) ↔ (first + k ∈ seen)

-- the null's number has a mark
abbrev pub IsMarked : List Value → ℕ → List Bool → NullId → Type 0
IsMarked symbols first marks n =
    (k : ℕ) × (slice_index_or marks k false ≡ true) × (value_of symbols (first + k) ≡ Null n)

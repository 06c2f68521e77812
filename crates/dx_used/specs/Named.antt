-- Columns that conditions name. They are read, whether or not a rule uses them:
-- what a condition tests must stand there.
use Rattle.std.specs.Prelude.{◌≡◌, ◌<◌, ◌↔◌, ◌⊎◌, ℕ, true, false, List, length, slice_index_or}
use Rattle.dx_base.specs.Members.{◌∈◌, Each}
use Rattle.dx_model.specs.declared.rules.Rule.{Rule}
use Rattle.dx_lines.specs.declared.line.Condition.{Condition}
use Rattle.dx_used.specs.Used.{IsUsed, Marks, marks_at}

-- a column of a table is named by a condition
abbrev pub IsNamed : List Condition → ℕ → ℕ → Type 0
IsNamed conditions table column =
    (c : Condition) × (c ∈ conditions) × (c.place.table ≡ table) × (c.place.column ≡ column)

-- each column that a condition names is read: its mark says so, or it has no mark
abbrev pub ReadNamed : Marks → List Condition → Type 0
ReadNamed used conditions =
    Each conditions (λ c. slice_index_or (marks_at used c.place.table) c.place.column true ≡ true)

-- a column of a table is read: some rule uses it, or a condition names it
abbrev pub IsRead : List Rule → List Condition → ℕ → ℕ → Type 0
IsRead R conditions table column = IsUsed R table column ⊎ IsNamed conditions table column

-- each mark says exactly whether its column is read
abbrev pub UsesExactly : List Rule → List Condition → Marks → Type 0
UsesExactly R conditions used =
    (table column : ℕ) → column < length (marks_at used table)
    → (slice_index_or (marks_at used table) column false ≡ true) ↔ IsRead R conditions table column

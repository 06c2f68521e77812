-- How often a rule mentions its variables, counted up to two, and the marks that come of it.
use Rattle.std.specs.Prelude.{◌≡◌, ◌<◌, ◌⊎◌, ℕ, zero, suc, Bool, true, false, List, length, slice_index_or}
use Rattle.dx_base.specs.Members.{Each}
use Rattle.dx_model.specs.declared.rules.Cell.{Cell}
use Rattle.dx_model.specs.declared.rules.Cell.TheVariants.{Var}
use Rattle.dx_model.specs.declared.rules.Rule.{Rule}
use Rattle.dx_lines.specs.declared.line.Condition.{Condition}
use Rattle.dx_used.specs.Used.{CellsIdle, IsUsed, times}
use Rattle.dx_used.specs.Named.{IsRead}

-- none, one, or more
abbrev pub up_to_two : ℕ → ℕ
up_to_two zero = 0
up_to_two (suc zero) = 1
up_to_two (suc (suc n)) = 2

-- under each variable for which there is a place stands how often it is among these cells, up to two
abbrev pub CountsCells : List Cell → List ℕ → Type 0
CountsCells cells counts = (x : ℕ) → x < length counts → slice_index_or counts x 0 ≡ up_to_two (times x cells)

-- a cell, if it is a variable, has one of so many places
abbrev pub CellHasPlace : ℕ → Cell → Type 0
CellHasPlace places c = (x : ℕ) → c ≡ Var x → x < places

-- columns that are marked stay so
abbrev pub KeepMarks : List Bool → List Bool → Type 0
KeepMarks old new = (i : ℕ) → slice_index_or new i true ≡ false → slice_index_or old i true ≡ false

-- the rule uses no other columns of the table than these
abbrev pub UsesOnlyOf : ℕ → List Bool → Rule → Type 0
UsesOnlyOf table marks d = Each d.premise (λ a. a.table ≡ table → CellsIdle d marks a.cells)

-- a column that is marked was so before, or has this property
abbrev pub NewOnlyWhere : (ℕ → Type 0) → List Bool → List Bool → Type 0
NewOnlyWhere P old new = (i : ℕ) → slice_index_or new i false ≡ true → (slice_index_or old i false ≡ true) ⊎ P i

-- each marked column of the table is used by some rule
abbrev pub MarksUsed : List Rule → ℕ → List Bool → Type 0
MarksUsed R table marks = (i : ℕ) → slice_index_or marks i false ≡ true → IsUsed R table i

-- each marked column of the table is read
abbrev pub MarksRead : List Rule → List Condition → ℕ → List Bool → Type 0
MarksRead R conditions table marks = (i : ℕ) → slice_index_or marks i false ≡ true → IsRead R conditions table i

-- the column that a condition names, if it is one of this table, is marked, or has no mark
abbrev pub ReadsNamed : ℕ → List Bool → Condition → Type 0
ReadsNamed table marks c = c.place.table ≡ table → slice_index_or marks c.place.column true ≡ true

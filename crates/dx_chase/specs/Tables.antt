-- A table of rows of numbers, with what determines what in it.
use Rattle.std.specs.Prelude.{ℕ, List}
use Rattle.dx_chase.specs.declared.tables.Columns.{Columns}

pub record ChaseTable : Type 0 where
  pub rows : List (List ℕ)
  pub determinations : List Columns

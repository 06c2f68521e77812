-- What a row owes to a determination of its table.
use Rattle.std.specs.Prelude.{ℕ, List}

-- a demand of the same determination that has equal numbers on the left is to have equal ones on the right
pub record Demand : Type 0 where
  pub table : ℕ
  pub determination : ℕ
  pub row : ℕ
  pub left : List ℕ
  pub right : List ℕ

-- How rows of numbers get another order.
use Rattle.std.specs.Prelude.{◌≡◌, ◌↔◌, ℕ, ◌<◌, List, length, map, slice_index}
use Rattle.dx_base.specs.Members.{◌∈◌}
use Rattle.dx_instance.specs.Cells.{NumberTable}
use Rattle.dx_instance.specs.Shown.{numbers_of_table}
use Rattle.dx_judge.specs.declared.turning.Turned.{Turned}
use Rattle.dx_judge.specs.Turned.{IsTurned, order_at}

-- its instance has the facts of the plain one in its orders
abbrev pub IsTurnedOne : Turned → Type 0
IsTurnedOne t = IsTurned t.plain.now t.orders.items t.instance

-- the columns of a table with this width, in some order
pub record IsColumnOrder (width : ℕ) (order : List ℕ) : Type 0 where
  pub long : length order ≡ width
  pub exactly : (c : ℕ) → (c ∈ order) ↔ (c < width)

-- for each table its columns in some order
pub record OrdersColumns (ts : List NumberTable) (orders : List (List ℕ)) : Type 0 where
  pub many : length orders ≡ length ts
  pub each : (t : ℕ) → t < length ts → IsColumnOrder (numbers_of_table ts t).width (order_at orders t)

-- the numbers of a row in this order
abbrev pub row_turned : List ℕ → List ℕ → List ℕ
row_turned order row = map (slice_index row) order

-- the new table has the rows of the old one with their numbers in this order
pub record IsTableTurned (order : List ℕ) (old new : NumberTable) : Type 0 where
  pub width : new.width ≡ length order
  pub rows : new.rows ≡ map (row_turned order) old.rows

-- so it is with each table and its order
pub record TablesTurned (orders : List (List ℕ)) (old new : List NumberTable) : Type 0 where
  pub many : length new ≡ length old
  pub each : (t : ℕ) → t < length old
      → IsTableTurned (order_at orders t) (numbers_of_table old t) (numbers_of_table new t)

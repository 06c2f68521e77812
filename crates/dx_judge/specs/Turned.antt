-- Instances with the columns of their tables in another order.
use Rattle.std.specs.Prelude.{◌≡◌, ◌↔◌, ℕ, ◌<◌, List, [], length, map, slice_index_or}
use Rattle.dx_base.specs.Members.{◌∈◌, ◌≈◌, Each}
use Rattle.dx_model.specs.declared.facts.Fact.{Fact}
use Rattle.dx_model.specs.Tables.{values_in}
use Rattle.dx_instance.specs.Stored.{TableRows, facts, table_at}

-- the order of a table's columns
abbrev pub order_at : List (List ℕ) → ℕ → List ℕ
order_at orders t = slice_index_or orders t []

-- for each table its columns in some order
pub record AreOrders (I : List TableRows) (orders : List (List ℕ)) : Type 0 where
  pub many : length orders ≡ length I
  pub exactly : (t c : ℕ) → t < length I → (c ∈ order_at orders t) ↔ (c < (table_at I t).width)

-- the fact with its values in that order
abbrev pub fact_turned : List (List ℕ) → Fact → Fact
fact_turned orders f = record { table = f.table; row = values_in (order_at orders f.table) f.row }

-- the fact has a table with an order, of columns that it has
pub record CanTurn (orders : List (List ℕ)) (f : Fact) : Type 0 where
  pub table : f.table < length orders
  pub columns : Each (order_at orders f.table) (λ c. c < length f.row)

-- J has the facts of I with their values in these orders
pub record IsTurned (I : List TableRows) (orders : List (List ℕ)) (J : List TableRows) : Type 0 where
  pub orders_are : AreOrders I orders
  pub facts_are : facts J ≈ map (fact_turned orders) (facts I)
  pub many : length J ≡ length I
  pub wide : (t : ℕ) → t < length I → (table_at J t).width ≡ length (order_at orders t)

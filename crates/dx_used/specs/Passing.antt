-- Rows that pass conditions: of an instance, the facts whose values pass the test of each condition on their table.
use Rattle.std.specs.Prelude.{◌==◌, ℕ, Bool, true, false, List, Option, None, Some, filter, slice_get, if◌then◌else◌}
use Rattle.std.specs.List.{list_all}
use Rattle.dx_model.specs.declared.values.Value.{Value}
use Rattle.dx_model.specs.declared.values.Value.TheVariants.{Const, Null}
use Rattle.dx_model.specs.declared.facts.Fact.{Fact}
use Rattle.dx_lines.specs.declared.line.Condition.{Condition}

-- whether a text passes the test of a code
abbrev pub Passes : Type 0
Passes = ℕ → List ℕ → Bool

-- what stands in a column passes a test if it is a constant whose text does; where nothing stands nothing passes
abbrev pub value_passes : Passes → ℕ → Option Value → Bool
value_passes passes code None = false
value_passes passes code (Some (Const text)) = passes code text
value_passes passes code (Some (Null n)) = false

-- whether a fact passes a condition: one on a column of another table asks nothing of it
abbrev pub fact_passes : Passes → Fact → Condition → Bool
fact_passes passes f c =
    if f.table == c.place.table then value_passes passes c.code (slice_get f.row c.place.column) else true

-- the facts that pass each of the conditions
abbrev pub passing : Passes → List Condition → List Fact → List Fact
passing passes conditions facts = filter (λ (f : Fact). list_all (fact_passes passes f) conditions) facts

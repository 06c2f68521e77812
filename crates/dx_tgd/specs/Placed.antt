-- Rules, places and nulls that are there.
use Rattle.std.specs.Prelude.{◌≡◌, ◌<◌, ◌≤◌, ℕ, List, [], ◌∷◌, length, slice_index_or}
use Rattle.dx_base.specs.Members.{◌∈◌, Each}
use Rattle.dx_model.specs.declared.values.NullId.{NullId}
use Rattle.dx_model.specs.declared.values.Value.{Value}
use Rattle.dx_model.specs.declared.values.Value.TheVariants.{Null}
use Rattle.dx_model.specs.declared.facts.Fact.{Fact}
use Rattle.dx_model.specs.declared.rules.Rule.{Rule}
use Rattle.dx_model.specs.Fitting.{AtomsFitWidths}
use Rattle.dx_model.specs.Values.{Tuple, Rows}
use Rattle.dx_model.specs.Rules.{canonical, cells_of, exported}

-- the null of an existential variable, at a place of a rule
abbrev pub place_null : ℕ → ℕ → ℕ → Value
place_null rule place v = Null (record { rule = rule; var = v; row = place })

-- the atoms of the conclusion are of tables with as many columns as they have cells
abbrev pub FitsWidths : List ℕ → Rule → Type 0
FitsWidths widths d = AtomsFitWidths widths d.conclusion

-- the conclusion has a cell
abbrev pub HasCell : Rule → Type 0
HasCell d = 1 ≤ length (cells_of d.conclusion)

-- each tuple has as many texts
abbrev pub HaveLength : ℕ → List Tuple → Type 0
HaveLength n ts = Each ts (λ (t : Tuple). length t ≡ n)

-- each tuple has a text for each exported variable of its rule
abbrev pub FitTuples : List Rule → Rows → Type 0
FitTuples [] rows = Unit {0}
FitTuples (d ∷ R) [] = Unit {0}
FitTuples (d ∷ R) (ts ∷ rows) = HaveLength (length (exported d)) ts × FitTuples R rows

-- the null names a rule, and a place of this rule
pub record NamesPlace (R : List Rule) (rows : Rows) (n : NullId) : Type 0 where
  pub rule : n.rule < length R
  pub place : n.row < length (slice_index_or rows n.rule [])

-- each null of the canonical instance names a rule and a place that are there
abbrev pub NullsHavePlaces : Type 0
NullsHavePlaces =
    (R : List Rule) (rows : Rows) (f : Fact) (n : NullId) → f ∈ canonical 0 R rows → Null n ∈ f.row
    → NamesPlace R rows n

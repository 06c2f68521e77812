-- Matches that are found: rows of numbers that stand for the exported tuples of rules.
use Rattle.std.specs.Prelude.{◌≡◌, ◌↔◌, ◌<◌, ℕ, List, length, map}
use Rattle.std.specs.List.{AllZip}
use Rattle.dx_base.specs.Members.{◌∈◌, Each}
use Rattle.dx_base.specs.declared.file.Count.TheVariants.{TargetCells}
use Rattle.dx_model.specs.declared.values.Value.{Value}
use Rattle.dx_model.specs.declared.facts.Fact.{Fact}
use Rattle.dx_model.specs.declared.rules.Rule.{Rule}
use Rattle.dx_model.specs.Values.{Conversions, Rows, Tuple}
use Rattle.dx_model.specs.Rules.{AreRows, exported}
use Rattle.dx_instance.specs.Cells.{NumberTable, NumbersAscend}
use Rattle.dx_joins.specs.Shown.{AllTexts, IsMatchTuple, StandFor, texts_of}
use Rattle.dx_tgd.specs.declared.fault.CanonFault.{CanonFault}
use Rattle.dx_tgd.specs.declared.fault.CanonFault.TheVariants.{Memory, Limit}
use Rattle.dx_tgd.specs.Counting.{canonical_cells}

-- a match of the rule exports the tuple
abbrev pub IsTuple : Conversions → List Fact → Rule → Tuple → Type 0
IsTuple convert I d t = IsMatchTuple convert d.premise d.derived I (exported d) t

-- the rows stand for exactly the tuples that the rule's matches export
abbrev pub IsFoundRule : Conversions → List Fact → List Value → Rule → NumberTable → Type 0
IsFoundRule convert I symbols d t = StandFor (length (exported d)) (IsTuple convert I d) symbols t

-- each rule has such rows
abbrev pub AllRulesFound : Conversions → List Fact → List Value → List Rule → List NumberTable → Type 0
AllRulesFound convert I symbols R tables = AllZip (IsFoundRule convert I symbols) R tables

-- the new rows ascend, and stand under the new symbols for the same tuples
pub record IsRenumbering (old new : List Value) (t u : NumberTable) : Type 0 where
  pub width : u.width ≡ t.width
  pub ascend : NumbersAscend u.rows
  pub texts : Each u.rows (AllTexts new)
  pub same : (s : Tuple) → (s ∈ map (texts_of new) u.rows) ↔ (s ∈ map (texts_of old) t.rows)

-- the rules have rows that make more canonical cells than so many
pub record MoreCells (convert : Conversions) (R : List Rule) (I : List Fact) (limit : ℕ) : Type 0 where
  pub rows : Rows
  pub are : AreRows convert R I rows
  pub more : limit < canonical_cells R rows

-- the limit is refused if the rules' rows make more canonical cells; for want of memory there is no reason
abbrev pub IsCanonicalRefusal : Conversions → List Rule → List Fact → ℕ → CanonFault → Type 0
IsCanonicalRefusal convert R I limit Memory = Unit {0}
IsCanonicalRefusal convert R I limit (Limit l) =
    (l ≡ record { what = TargetCells; number = limit }) × MoreCells convert R I limit

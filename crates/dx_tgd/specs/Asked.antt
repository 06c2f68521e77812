-- What is asked of rules that are matched, and of rows of which the canonical instance is made.
use Rattle.std.specs.Prelude.{◌≡◌, ◌<◌, ◌≤◌, ◌-◌, ◌^◌, ℕ, List, length}
use Rattle.dx_base.specs.Members.{Each}
use Rattle.dx_model.specs.declared.rules.Derived.{Derived}
use Rattle.dx_model.specs.declared.rules.Rule.{Rule}
use Rattle.dx_model.specs.declared.values.Value.{Value}
use Rattle.dx_model.specs.Fitting.{AtomsFitWidths, IsRule}
use Rattle.dx_funcs.specs.declared.conversion.Conversion.{Conversion}
use Rattle.dx_funcs.specs.Offers.{IsListed}
use Rattle.dx_instance.specs.Cells.{NumberTable}
use Rattle.dx_instance.specs.Shown.{NumbersBelow, NumberedInstance}
use Rattle.dx_instance.specs.Stored.{rows_of, table_at}
use Rattle.dx_tgd.specs.Counting.{canonical_cells}
use Rattle.dx_tgd.specs.Placed.{FitsWidths}
use Rattle.dx_tgd.specs.Planned.{built}
use Rattle.dx_tgd.specs.Texts.{FitRules, tuples_in}

-- a rule whose conversions are listed, and whose premise fits tables of these widths
pub record IsMatchable (list : List Conversion) (widths : List ℕ) (d : Rule) : Type 0 where
  pub rule : IsRule d
  pub listed : Each d.derived (λ (e : Derived). IsListed list e.code (length e.args))
  pub premise : AtomsFitWidths widths d.premise

-- few rules that are matched in tables of the source's widths, and whose conclusions fit tables of the target's
pub record RulesFitWidths (list : List Conversion) (source target : List ℕ) (R : List Rule) : Type 0 where
  pub matchable : Each R (IsMatchable list source)
  pub conclusions : Each R (λ (d : Rule). AtomsFitWidths target d.conclusion)
  pub few : length R < 2 ^ 32 - 1

-- the rows of each rule stand for its tuples, whose canonical cells are few; the conclusions fit tables of these widths
pub record HaveRowsToBuild (widths : List ℕ) (R : List Rule) (symbols : List Value)
    (tables : List NumberTable) : Type 0 where
  pub some : Each widths (λ w. 1 ≤ w)
  pub few : length widths < 2 ^ 32 - 1
  pub rules : length R < 2 ^ 32 - 1
  pub fits : Each R (FitsWidths widths)
  pub tuples : FitRules symbols R tables
  pub limit : canonical_cells R (tuples_in symbols tables) < 2 ^ 32 - 1

-- the table is there, as wide as the row, whose numbers are those of symbols, and has room for it
pub record HasRoomFor (b : NumberedInstance) (table : ℕ) (row : List ℕ) : Type 0 where
  pub table_there : table < length (built b)
  pub width : length row ≡ (table_at (built b) table).width
  pub below : NumbersBelow (length b.symbols) row
  pub room : length (rows_of (built b) table) < 2 ^ 32 - 1

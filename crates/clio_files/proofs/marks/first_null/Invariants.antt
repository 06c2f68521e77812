use Rattle.std.proofs.Common.{ℕ, ◌<◌, ◌≤◌, ◌-◌, length}
use Rattle.dx_instance.specs.Numbers.{value_of, IsConstant}
use Rattle.clio_files.specs.Marks.{IsNull}
use Rattle.clio_files.proofs.marks.first_null.Given as goal

abbrev pub invariant-loop-low : goal.invariant-loop-low
invariant-loop-low l = record {
  order : l.low ≤ l.high;
  within : l.high ≤ length l.target.symbols;
  constants : (k : ℕ) → k < l.low → IsConstant (value_of l.target.symbols k);
  nulls : (k : ℕ) → l.high ≤ k → k < length l.target.symbols → IsNull (value_of l.target.symbols k);
}

abbrev pub decreases-loop-low : goal.decreases-loop-low
decreases-loop-low l = l.high - l.low

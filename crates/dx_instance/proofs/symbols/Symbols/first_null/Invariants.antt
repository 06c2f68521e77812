use Rattle.std.proofs.Common.{◌<◌, ◌≤◌, ◌-◌, ℕ, length}
use Rattle.dx_instance.specs.Numbers.{IsConstant, IsSomeNull, ValuesAscend, value_of}
use Rattle.dx_instance.proofs.symbols.Symbols.first_null.Given as goal

abbrev pub invariant-loop-low : goal.invariant-loop-low
invariant-loop-low l = record {
  order : l.low ≤ l.high;
  within : l.high ≤ length l.self;
  constants : ValuesAscend l.self → (n : ℕ) → n < l.low → IsConstant (value_of l.self n);
  nulls : ValuesAscend l.self → (n : ℕ) → l.high ≤ n → n < length l.self → IsSomeNull (value_of l.self n);
}

abbrev pub decreases-loop-low : goal.decreases-loop-low
decreases-loop-low l = l.high - l.low

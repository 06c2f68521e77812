use Rattle.std.proofs.Common.{◌≡◌, ◌<◌, ◌≤◌, ◌-◌, ℕ, length}
use Rattle.std.specs.Ordering.{nat_cmp}
use Rattle.std.specs.Cmp.Lexicographic.{slice_cmp}
use Rattle.std.specs.declared.cmp.Ordering.TheVariants.{Less, Greater}
use Rattle.dx_instance.specs.Cells.{numbers_at}
use Rattle.dx_eval.proofs.keys.has_row.Given as goal

abbrev pub invariant-loop-low : goal.invariant-loop-low
invariant-loop-low l = record {
  order : l.low ≤ l.high;
  within : l.high ≤ length l.rows.rows;
  below : (k : ℕ) → k < l.low → slice_cmp nat_cmp (numbers_at l.rows.rows k) l.row ≡ Less;
  above : (k : ℕ) → l.high ≤ k → k < length l.rows.rows → slice_cmp nat_cmp (numbers_at l.rows.rows k) l.row ≡ Greater;
}

abbrev pub decreases-loop-low : goal.decreases-loop-low
decreases-loop-low l = l.high - l.low

use Rattle.std.proofs.Common.{◌≡◌, ℕ, length, None}
use Rattle.std.specs.Prelude.{slice_index_or}
use Rattle.dx_cover_fold.proofs.covering.none_known.Given as goal

abbrev pub invariant-loop-place : goal.invariant-loop-place
invariant-loop-place l = (length l.none.items ≡ l._place) × ((k : ℕ) → slice_index_or l.none.items k None ≡ None)

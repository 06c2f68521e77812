use Rattle.std.proofs.Common.{◌≡◌, ◌≤◌, ◌<◌, ℕ, true, slice_index}
use Rattle.dx_csv.specs.Plain.{joins}
use Rattle.dx_csv.proofs.plain.end_of_field.Given as goal

-- the bytes so far join
abbrev pub invariant-loop-place : goal.invariant-loop-place
invariant-loop-place l = (i : ℕ) → l.from ≤ i → i < l.place → joins (slice_index l.bytes i) ≡ true

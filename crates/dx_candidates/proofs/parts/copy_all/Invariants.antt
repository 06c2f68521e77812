use Rattle.std.proofs.Common.{◌≡◌, ◌++◌, take}
use Rattle.dx_candidates.proofs.parts.copy_all.Given as goal

abbrev pub invariant-loop-occurrence : goal.invariant-loop-occurrence
invariant-loop-occurrence l = l.copies ≡ l.initial.copies ++ take l.occurrence-index l.occurrences

use Rattle.dx_cover_fold.specs.Found.{AllLeast}
use Rattle.dx_cover_fold.specs.Matched.{matched_tuples}
use Rattle.dx_cover_fold.proofs.folding.all_covers.Given as goal

abbrev pub invariant-loop-i : goal.invariant-loop-i
invariant-loop-i l = AllLeast l.rules (matched_tuples l.matches) l.all.items l.i

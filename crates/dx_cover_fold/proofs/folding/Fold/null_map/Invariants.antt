use Rattle.std.proofs.Common.{take}
use Rattle.dx_cover_fold.specs.Matched.{matched_tuples}
use Rattle.dx_cover_fold.proofs.FoldFacts.{FoldsSome}
use Rattle.dx_cover_fold.proofs.folding.Fold.null_map.Given as goal

abbrev pub invariant-loop-null : goal.invariant-loop-null
invariant-loop-null l = FoldsSome l.self.rules.now (matched_tuples l.self.matches.now) (take l.null-index l.null-items) l.map

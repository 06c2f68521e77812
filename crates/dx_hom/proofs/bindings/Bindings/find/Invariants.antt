use Rattle.std.proofs.Common.{length}
use Rattle.dx_hom.proofs.BoundFacts.{Looks}
use Rattle.dx_hom.proofs.bindings.Bindings.find.Given as goal

abbrev pub invariant-loop-code : goal.invariant-loop-code
invariant-loop-code l = Looks (length l.self-inside.heads.items) l.self-inside.cells.items l.null l.code

abbrev pub decreases-loop-code : goal.decreases-loop-code
decreases-loop-code l = l.code

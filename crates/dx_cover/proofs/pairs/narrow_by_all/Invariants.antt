use Rattle.dx_cover.specs.Pairs.{IsChoice}
use Rattle.dx_cover.proofs.pairs.narrow_by_all.Given as goal

abbrev pub invariant-loop-by : goal.invariant-loop-by
invariant-loop-by l = IsChoice l.part l.narrower

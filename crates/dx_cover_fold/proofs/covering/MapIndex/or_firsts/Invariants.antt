use Rattle.dx_cover_fold.specs.Found.{LeastOfFirsts}
use Rattle.dx_cover_fold.proofs.covering.MapIndex.or_firsts.Given as goal

abbrev pub invariant-loop-place : goal.invariant-loop-place
invariant-loop-place l = LeastOfFirsts l.self.rule l.self.map l.self.index l.rows.rows l.own l.known l.all.items l.place

use Rattle.dx_instance.specs.Keys.{places_of}
use Rattle.dx_instance.specs.Ranks.{RankFirsts}
use Rattle.dx_instance.proofs.ties.Ties.firsts_of.Given as goal

abbrev pub invariant-loop-i : goal.invariant-loop-i
invariant-loop-i l = RankFirsts l.self.values.now (places_of l.keys) l.firsts.items l.ranks.items l.i

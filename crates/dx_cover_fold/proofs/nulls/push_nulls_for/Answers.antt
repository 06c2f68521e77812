use Rattle.std.proofs.Common.{refl}
use Rattle.dx_cover_fold.proofs.Numbers.{null_more}
use Rattle.dx_cover_fold.proofs.nulls.push_nulls_for.Goals as goal

pub loop-row-preserved : goal.loop-row-preserved
loop-row-preserved c = null_more c.args.nulls.now.items c.loop-row.nulls.items c.push.new.self.items c.args.rule c.args.var c.loop-row.row _ refl c.in_ok-push.ensures.items c.loop-row.invariant

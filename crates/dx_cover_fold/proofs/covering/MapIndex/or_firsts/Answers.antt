use Rattle.dx_cover_fold.proofs.CoverFacts.{firsts_more}
use Rattle.dx_cover_fold.proofs.covering.MapIndex.or_firsts.Goals as goal

pub or_first-requires : goal.or_first-requires
or_first-requires c = rw c.row-row.ensures.width c.requires.columns

pub loop-place-preserved : goal.loop-place-preserved
loop-place-preserved c =
    firsts_more c.args.self.now.rule c.args.self.now.map c.loop-place.place c.args.self.now.index c.args.rows.now.rows c.args.own.now c.row-row.result.now c.args.known.now c.loop-place.all.items c.push.new.self.items c.in_ok-or_first.field-0
    c.row-row.ensures.row c.in_ok-or_first.ensures c.in_ok-push.ensures.items c.loop-place.invariant

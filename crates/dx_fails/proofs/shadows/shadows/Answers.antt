use Rattle.dx_fails.proofs.Shadowing.{none_seen, seen_more}
use Rattle.dx_fails.proofs.shadows.shadows.Goals as goal

pub loop-place-init : goal.loop-place-init
loop-place-init c = none_seen c.args.instance.now c.args.table c.args.columns.now c.in_ok-all.all c.in_ok-all.ensures

pub loop-place-preserved : goal.loop-place-preserved
loop-place-preserved c =
    seen_more c.in_ok-add.field-0 c.args.instance.now c.args.table c.args.columns.now c.loop-place.place c.loop-place.all c.add.new.self c.in_ok-row.row
    c.in_ok-row.ensures c.in_ok-add.ensures.is_new c.in_ok-add.ensures.added c.loop-place.invariant

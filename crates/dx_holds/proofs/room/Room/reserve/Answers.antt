use Rattle.std.proofs.Common.{arith}
use Rattle.dx_base.proofs.Loops.{each_more}
use Rattle.dx_holds.specs.Rooms.{FitsRoom}
use Rattle.dx_holds.proofs.Rooms.{after_least, fits_larger}
use Rattle.dx_holds.proofs.room.Room.reserve.Goals as goal

pub loop-rule-preserved : goal.loop-rule-preserved
loop-rule-preserved c =
    each_more (FitsRoom (record { atoms = c.greater-atoms.result; existentials = c.greater-existentials.result })) c.args.rules.now c.loop-rule.rule-index c.rule-item.result c.loop-rule-test.true c.rule-item.is
    (λ d m. fits_larger d c.loop-rule.atoms c.loop-rule.existentials c.greater-atoms.result c.greater-existentials.result c.greater-atoms.ensures.first c.greater-existentials.ensures.first (c.loop-rule.invariant d m))
    (record {
      atoms = omega (arith, c.greater-atoms.ensures.second, c.len.ensures);
      existentials = after_least _ c.greater-existentials.result (λ v m. let h = c.above_atoms.ensures v (rw c.items.ensures m) in omega (arith, h, c.greater-existentials.ensures.second));
    })

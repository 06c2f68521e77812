use Rattle.std.proofs.Common.{arith}
use Rattle.std.specs.Prelude.{codes}
use Rattle.dx_script_text.specs.Print.{unless_text}
use Rattle.dx_script_text.proofs.Pushes.{one_parted, all_parted}
use Rattle.dx_script_text.proofs.print_keeps.push_all.Goals as goal

pub loop-other-preserved : goal.loop-other-preserved
loop-other-preserved c =
    one_parted unless_text (codes " AND ") c.loop-other.other-index c.in-Some.others.now c.other-item.result _ _ _ _ c.loop-other-test.true c.other-item.is c.loop-other.invariant c.in_ok-push_str.ensures.bytes c.in_ok-push_unless-2.ensures

pub returns : goal.returns
returns c =
    all_parted unless_text (codes " AND ") c.args.all.now c.in-Some.first.now c.in-Some.others.now c.loop-other.other-index _ _ _ c.in-Some.ensures.cases.0 c.in_ok-push_unless.ensures (omega (arith, c.loop-other-test.false)) c.loop-other.invariant

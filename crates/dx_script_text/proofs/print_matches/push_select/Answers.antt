use Rattle.std.proofs.Common.{arith}
use Rattle.dx_script_text.specs.Print.{item_text}
use Rattle.dx_script_text.proofs.Printing.{one_numbered}
use Rattle.dx_script_text.proofs.print_matches.push_select.Goals as goal

pub loop-other-preserved : goal.loop-other-preserved
loop-other-preserved c =
    let held = c.loop-other.invariant in (
      omega (arith, held.0),
      one_numbered item_text c.loop-other.number c.loop-other.other-index c.in-Some.others.now c.other-item.result _ _ _ _ c.loop-other-test.true c.other-item.is held.0 held.1 c.in_ok-push_str-2.ensures.bytes c.in_ok-push_item-2.ensures,
    )

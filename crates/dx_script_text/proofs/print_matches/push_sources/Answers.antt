use Rattle.std.proofs.Common.{arith}
use Rattle.dx_script_text.specs.Print.{source_alias_text}
use Rattle.dx_script_text.proofs.Printing.{one_numbered}
use Rattle.dx_script_text.proofs.print_matches.push_sources.Goals as goal

pub loop-other-preserved : goal.loop-other-preserved
loop-other-preserved c =
    let held = c.loop-other.invariant in (
      omega (arith, held.0),
      one_numbered source_alias_text c.loop-other.number c.loop-other.other-index c.in-Some.others.now c.other-item.result _ _ _ _ c.loop-other-test.true c.other-item.is held.0 held.1 c.in_ok-push_str.ensures.bytes c.in_ok-push_source-2.ensures,
    )

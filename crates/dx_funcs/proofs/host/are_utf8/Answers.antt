use Rattle.std.specs.Prelude.{IsUtf8}
use Rattle.dx_base.proofs.Loops.{each_more}
use Rattle.dx_funcs.proofs.host.are_utf8.Goals as goal

pub loop-text-preserved : goal.loop-text-preserved
loop-text-preserved c =
    each_more IsUtf8 c.args.texts.now c.loop-text.text-index c.text-item.result c.loop-text-test.true c.text-item.is c.loop-text.invariant c.bytes.ensures.utf8

use Rattle.dx_instance.proofs.NumberFacts.{copied_more}
use Rattle.dx_instance.proofs.symbols.set_of.Goals as goal

pub loop-value-preserved : goal.loop-value-preserved
loop-value-preserved c =
    copied_more c.args.values.now c.loop-value.set.keys c.insert_full.new.self.keys c.loop-value.value-index c.value-item.result c.in_ok-copy_value.field-0 c.requires c.loop-value-test.true c.value-item.is c.in_ok-copy_value.ensures
    c.loop-value.invariant c.in_ok-insert_full.ensures.keys

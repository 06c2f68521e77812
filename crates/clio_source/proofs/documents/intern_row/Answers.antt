use Rattle.std.proofs.Common.{◌∙◌}
use Rattle.dx_instance.proofs.ShownFacts.{interned_more, extends_both}
use Rattle.clio_source.proofs.documents.intern_row.Goals as goal

pub loop-value-preserved : goal.loop-value-preserved
loop-value-preserved c = record {
  shows = interned_more c.loop-value.symbols c.args.symbols.now c.put.new.self c.loop-value.numbers.items c.push.new.self.items c.items-value-items.result.now c.loop-value.value-index c.in_ok-number.number c.value-item.result
      c.loop-value-test.true c.value-item.is c.loop-value.invariant.shows c.put.ensures.grows c.in_ok-number.ensures.within (c.in_ok-number.ensures.number ∙ c.in_ok-copy_value.ensures) c.in_ok-push.ensures.items;
  grows = extends_both c.args.symbols.now c.loop-value.symbols c.put.new.self c.loop-value.invariant.grows c.put.ensures.grows;
}

use Rattle.dx_instance.proofs.ShownFacts.{extends_both}
use Rattle.dx_tgd.proofs.Plans.{nulls_more}
use Rattle.dx_tgd.proofs.planning.null_numbers.Goals as goal

pub loop-place-preserved : goal.loop-place-preserved
loop-place-preserved c = record {
  nulls = rw c.in_ok-push.ensures.items (nulls_more c.loop-place.symbols c.number_for.new.symbols c.args.rule c.args.variable c.loop-place.place c.in_ok-number_for.field-0 c.loop-place.numbers.items
      c.number_for.ensures.grows c.loop-place.invariant.nulls c.in_ok-number_for.ensures.within c.in_ok-number_for.ensures.number);
  grows = extends_both c.args.symbols.now c.loop-place.symbols c.number_for.new.symbols c.loop-place.invariant.grows c.number_for.ensures.grows;
}

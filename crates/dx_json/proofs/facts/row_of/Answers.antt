use Rattle.std.proofs.Common.{arith}
use Rattle.dx_json.proofs.LineFacts.{constant_pushed}
use Rattle.dx_json.proofs.facts.row_of.Goals as goal

pub loop-place-preserved : goal.loop-place-preserved
loop-place-preserved c = record {
  row = constant_pushed c.args.texts.now c.args.start c.loop-place.place c.loop-place.row c.push.new.self c.in_ok-text.field-0 c.loop-place.invariant.from (omega (arith, c.loop-place-test.true, c.requires.within))
      c.loop-place.invariant.row c.in_ok-text.ensures c.in_ok-push.ensures.ok;
  from = omega (arith, c.loop-place.invariant.from);
}

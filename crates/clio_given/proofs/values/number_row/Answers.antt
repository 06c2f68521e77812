use Rattle.dx_base.proofs.Members.{item_in}
use Rattle.dx_base.proofs.Options.{some_left, none_left}
use Rattle.dx_instance.proofs.NumberFacts.{stays}
use Rattle.dx_instance.proofs.ShownFacts.{extends_both}
use Rattle.clio_given.proofs.Parsed.{all_numbered, no_row, none_numbered, numbered_more}
use Rattle.clio_given.proofs.values.number_row.Goals as goal

pub loop-field-init : goal.loop-field-init
loop-field-init c = record {
  numbered = none_numbered c.args.fields.now c.args.symbols.now c.clear.new.self.items c.clear.ensures.items;
  grows = stays c.args.symbols.now;
}

pub returns-in_default-clause-values : goal.returns-in_default-clause-values
returns-in_default-clause-values c =
    no_row c.args.fields.now c.field-item.result (item_in c.args.fields.now c.loop-field.field-index c.field-item.result c.loop-field-test.true c.field-item.is)
    (none_left _ _ c.in_ok-value.field-0 c.in_ok-value.ensures c.in_default.not-Some)

pub loop-field-preserved : goal.loop-field-preserved
loop-field-preserved c = record {
  numbered = numbered_more c.args.fields.now c.loop-field.symbols c.put.new.self c.loop-field.numbers.items c.push.new.self.items c.loop-field.field-index c.in_ok-number.number c.field-item.result c.in-Some.value
      c.loop-field-test.true c.field-item.is (some_left _ _ c.in_ok-value.field-0 c.in-Some.value c.in-Some.is c.in_ok-value.ensures) c.put.ensures.grows c.in_ok-number.ensures.within
      c.in_ok-number.ensures.number c.in_ok-push.ensures.items c.loop-field.invariant.numbered;
  grows = extends_both c.args.symbols.now c.loop-field.symbols c.put.new.self c.loop-field.invariant.grows c.put.ensures.grows;
}

pub returns-clause-values : goal.returns-clause-values
returns-clause-values c =
    all_numbered c.args.fields.now c.loop-field.symbols c.loop-field.numbers.items c.loop-field.field-index c.loop-field-test.false c.loop-field.invariant.numbered

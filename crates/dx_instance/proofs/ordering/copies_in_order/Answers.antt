use Rattle.std.proofs.Common.{◌∙◌, sym, ap, List, ℕ}
use Rattle.std.proofs.lemmas.List.{take_all}
use Rattle.dx_instance.proofs.JoinFacts.{value_more, key_below, values_at}
use Rattle.dx_instance.proofs.ordering.copies_in_order.Goals as goal

pub value-requires : goal.value-requires
value-requires c = key_below _ c.args.keys.now c.loop-key.key-index c.requires c.loop-key-test.true

pub loop-key-preserved : goal.loop-key-preserved
loop-key-preserved c =
    c.in_ok-push.ensures.items ∙ rw c.loop-key.invariant (sym (value_more c.args.symbols.now c.args.keys.now c.loop-key.key-index c.in_ok-copy_value.field-0 c.loop-key-test.true (c.in_ok-copy_value.ensures ∙ c.value.ensures)))

pub returns : goal.returns
returns c = c.loop-key.invariant ∙ ap (λ (l : List (ℕ × ℕ)). values_at c.args.symbols.now l) (take_all c.loop-key.key-index c.args.keys.now c.loop-key-test.false)

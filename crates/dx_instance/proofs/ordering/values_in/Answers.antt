use Rattle.std.proofs.Common.{◌∙◌, sym, ap, arith, List, ℕ, string_bytes}
use Rattle.std.proofs.lemmas.List.{take_all}
use Rattle.dx_instance.proofs.JoinFacts.{value_more, key_below, values_at, lies_next}
use Rattle.dx_instance.proofs.ordering.values_in.Goals as goal

pub bounds-ends-i : goal.bounds-ends-i
bounds-ends-i c = omega (arith, c.requires.ends.many, c.loop-i-test.true)

pub value_in-requires-clause-below : goal.value_in-requires-clause-below
value_in-requires-clause-below c = key_below _ c.args.keys.now c.loop-i.i c.requires.below c.loop-i-test.true

pub value_in-requires-clause-lies : goal.value_in-requires-clause-lies
value_in-requires-clause-lies c =
    lies_next c.args.symbols.now c.args.keys.now c.args.ends.now c.loop-i.i c.loop-i.start (string_bytes c.args.buffer.now.value) c.loop-i-test.true c.requires.texts c.loop-i.invariant.start c.requires.ends

pub loop-i-preserved : goal.loop-i-preserved
loop-i-preserved c = record {
  all = c.in_ok-push.ensures.items ∙ rw c.loop-i.invariant.all (sym (value_more c.args.symbols.now c.args.keys.now c.loop-i.i c.in_ok-value_in.field-0 c.loop-i-test.true c.in_ok-value_in.ensures));
  start = c.requires.ends.at c.loop-i.i c.loop-i-test.true;
}

pub returns : goal.returns
returns c = c.loop-i.invariant.all ∙ ap (λ (l : List (ℕ × ℕ)). values_at c.args.symbols.now l) (take_all c.loop-i.i c.args.keys.now c.loop-i-test.false)

use Rattle.std.proofs.Common.{◌≡◌, ◌∙◌, ap, arith, length, List, ℕ, refl}
use Rattle.std.proofs.lemmas.List.{take_all}
use Rattle.dx_instance.specs.Numbers.{value_of}
use Rattle.dx_instance.specs.Ranks.{joined_texts}
use Rattle.dx_instance.proofs.JoinFacts.{ends_more, text_more, key_at, key_below, values_at}
use Rattle.dx_instance.proofs.ordering.texts_in_order.Goals as goal

pub bounds-lengths-key : goal.bounds-lengths-key
bounds-lengths-key c =
    let b = key_below _ c.args.keys.now c.loop-key.key-index c.requires.below c.loop-key-test.true in
    omega (arith, b, c.requires.lengths.many)

pub push_text-requires-clause-key : goal.push_text-requires-clause-key
push_text-requires-clause-key c =
    let k = c.requires.keyed c.loop-key.key-index c.loop-key-test.true in
    record {
      below = key_below _ c.args.keys.now c.loop-key.key-index c.requires.below c.loop-key-test.true;
      keyed = record { key_is = k.key_is; place_is = refl; small = k.small };
    }

pub push_text-requires-clause-size : goal.push_text-requires-clause-size
push_text-requires-clause-size c = c.requires.lengths.all _ (key_below _ c.args.keys.now c.loop-key.key-index c.requires.below c.loop-key-test.true)

pub loop-key-preserved : goal.loop-key-preserved
loop-key-preserved c =
    let S = c.args.symbols.now in
    let keys = c.args.keys.now in
    let i = c.loop-key.key-index in
    let texts = text_more S keys i (value_of S (key_at keys i).1) c.loop-key.buffer.items c.push_text.new.buffer.items c.loop-key-test.true refl c.loop-key.invariant.texts c.in_ok-push_text.ensures in
    let utf8 = (c.requires.lengths.all (key_at keys i).1 (key_below _ keys i c.requires.below c.loop-key-test.true)).utf8 in
    record {
      texts = texts;
      ends = ends_more S keys c.loop-key.ends.items c.push.new.self.items i c.in-Ok.end c.in_ok-push.ensures.items (c.in-Ok.ensures.1 ∙ c.len.ensures ∙ c.push_text.new.buffer.ok.0 ∙ ap length texts) utf8 c.loop-key.invariant.ends;
      bound = omega (arith, c.loop-key-test.true);
    }

pub returns-clause-texts : goal.returns-clause-texts
returns-clause-texts c = c.loop-key.invariant.texts ∙ ap (λ (l : List (ℕ × ℕ)). joined_texts (values_at c.args.symbols.now l)) (take_all c.loop-key.key-index c.args.keys.now c.loop-key-test.false)

pub returns-clause-ends : goal.returns-clause-ends
returns-clause-ends c =
    let all : c.loop-key.key-index ≡ length c.args.keys.now = omega (arith, c.loop-key-test.false, c.loop-key.invariant.bound) in
    rw all at c.loop-key.invariant.ends

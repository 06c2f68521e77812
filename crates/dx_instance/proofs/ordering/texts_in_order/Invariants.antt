use Rattle.std.proofs.Common.{◌≡◌, ◌≤◌, length}
use Rattle.dx_instance.specs.Ranks.{EndsOfTexts, texts_before}
use Rattle.dx_instance.proofs.ordering.texts_in_order.Given as goal

abbrev pub invariant-loop-key : goal.invariant-loop-key
invariant-loop-key l = record {
  texts : l.buffer.items ≡ texts_before l.symbols l.keys l.key-index;
  ends : EndsOfTexts l.symbols l.keys l.ends.items l.key-index;
  bound : l.key-index ≤ length l.keys;
}

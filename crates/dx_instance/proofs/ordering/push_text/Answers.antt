use Rattle.std.proofs.Common.{◌≡◌, ◌++◌, List, ℕ, subst}
use Rattle.std.specs.Prelude.{OnOk}
use Rattle.dx_instance.specs.Numbers.{value_of}
use Rattle.dx_instance.proofs.ShortFacts.{short_value}
use Rattle.dx_instance.proofs.ordering.push_text.Goals as goal

pub returns-then-size-le8 : goal.returns-then-size-le8
returns-then-size-le8 c =
    let t = short_value (value_of c.args.symbols.now c.args.number) c.args.key c.args.size c.requires.size c.if-size-le8.true c.requires.key.keyed.small c.requires.key.keyed.key_is in
    subst (λ (b : List ℕ). OnOk c.push_short.result (c.push_short.new.buffer.items ≡ c.args.buffer.now.items ++ b)) t c.push_short.ensures

use Rattle.std.proofs.Common.{IsUtf8, subst, sym}
use Rattle.dx_instance.proofs.JoinFacts.{joined_utf8}
use Rattle.dx_instance.proofs.ordering.values_in_order.Goals as goal

pub shared-requires : goal.shared-requires
shared-requires c =
    let texts = rw c.in-Some.is at c.in_ok-bytes.ensures.texts in
    subst IsUtf8 (sym texts) (joined_utf8 c.args.symbols.now c.args.keys.now (λ n h. (c.requires.lengths.all n h).utf8) c.requires.below)

pub returns : goal.returns
returns c = c.values_in.ensures

use Rattle.std.proofs.Common.{arith, ap, length}
use Rattle.dx_joins.proofs.index.Index.build.Goals as goal

pub linked-requires : goal.linked-requires
linked-requires c = omega (arith, ap length c.deref.ensures.value, c.in_ok-keys.ensures.few)

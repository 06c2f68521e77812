use Rattle.std.proofs.Common.{refl, arith}
use Rattle.dx_joins.proofs.Knowing.{none_known, one_known}
use Rattle.dx_joins.proofs.known.Known.mark.Goals as goal

pub returns-then-place-len : goal.returns-then-place-len
returns-then-place-len c = one_known c.args.self.now _ c.args.variable (omega (arith, c.len.ensures, c.if-place-len.true)) refl

pub returns-else-place-len : goal.returns-else-place-len
returns-else-place-len c = none_known c.args.self.now c.args.variable (omega (arith, c.len.ensures, c.if-place-len.false))

use Rattle.std.proofs.Common.{arith, drop, ◌<◌, ◌^◌}
use Rattle.dx_instance.specs.Keys.{packed}
use Rattle.dx_instance.proofs.ordering.second_key_of.Goals as goal

pub returns-in-Const-clause-small : goal.returns-in-Const-clause-small
returns-in-Const-clause-small c =
    let fits : packed 256 8 0 (drop 8 c.bytes.result.now) < 2 ^ 64 = omega (arith, c.second_bytes.ensures.key) in
    rw (c.in-Const.is, ← c.bytes.ensures.value) (c.second_bytes.ensures.small, fits)

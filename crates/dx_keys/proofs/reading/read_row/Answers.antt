use Rattle.std.proofs.Common.{◌<◌, length}
use Rattle.dx_chase.proofs.Settles.{each_take}
use Rattle.dx_keys.proofs.reading.read_row.Goals as goal

pub bounds-roots-number : goal.bounds-roots-number
bounds-roots-number c = rw c.requires.roots.many (each_take (λ v. v < length c.args.symbols.now) c.args.numbers.now c.loop-number.number-index c.loop-number-test.true c.requires.numbers)

pub value-requires : goal.value-requires
value-requires c = c.requires.roots.within _ (each_take (λ v. v < length c.args.symbols.now) c.args.numbers.now c.loop-number.number-index c.loop-number-test.true c.requires.numbers)

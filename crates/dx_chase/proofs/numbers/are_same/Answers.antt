use Rattle.dx_chase.proofs.Alike.{found_same}
use Rattle.dx_chase.proofs.numbers.are_same.Goals as goal

pub returns : goal.returns
returns c = found_same c.args.a.now c.args.b.now c.loop-i.i c.if-a-b.false c.loop-i-test.false c.loop-i.invariant

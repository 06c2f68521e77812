use Rattle.dx_core.proofs.Folded.{row_becomes}
use Rattle.dx_core.proofs.folding.BlockMove.image.Goals as goal

pub returns-clause-becomes : goal.returns-clause-becomes
returns-clause-becomes c =
    let place = rw c.deref.ensures.value at c.in-Some.ensures in
    row_becomes c.args.numbers.now c.len.ensures.fit c.args.self.now.block.now c.requires.block c.args.self.now.answer.now c.args.self.now.long
    c.args.at c.requires.row c.in_ok-after.after.items c.in-Some.place c.in_ok-after.ensures place.0 place.1

use Rattle.std.proofs.Common.{arith}
use Rattle.std.proofs.lemmas.Nat.{one_shl}
use Rattle.dx_instance.proofs.RowKeyFacts.{bits_room}
use Rattle.dx_instance.proofs.packing.RowPacking.key_of.Goals as goal

pub key_of-requires-clause-room : goal.key_of-requires-clause-room
key_of-requires-clause-room c =
    let short = c.requires.room.short in
    rw (one_shl c.args.self.bits 64 (omega (arith, short))) (bits_room c.args.self.bits c.args.self.width c.requires.room)

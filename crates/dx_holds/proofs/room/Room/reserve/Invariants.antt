use Rattle.std.proofs.Common.{take}
use Rattle.dx_base.specs.Members.{Each}
use Rattle.dx_holds.specs.Rooms.{FitsRoom}
use Rattle.dx_holds.proofs.room.Room.reserve.Given as goal

abbrev pub invariant-loop-rule : goal.invariant-loop-rule
invariant-loop-rule l = Each (take l.rule-index l.rules) (FitsRoom (record { atoms = l.atoms; existentials = l.existentials }))

use Rattle.std.proofs.Common.{◌≡◌, take}
use Rattle.dx_cover.specs.States.{counted_meetings}
use Rattle.dx_cover.proofs.states.make_state.Given as goal

abbrev pub invariant-loop-meeting : goal.invariant-loop-meeting
invariant-loop-meeting l = l.meetings ≡ counted_meetings l.exported l.rest (take l.meeting-index l.bound)

use Rattle.std.proofs.Common.{◌≡◌, ◌++◌, take, drop}
use Rattle.dx_lines.specs.Ways.{put_in}
use Rattle.dx_ways.proofs.trying.place_for.Given as goal

abbrev pub invariant-loop-i : goal.invariant-loop-i
invariant-loop-i l = put_in l.pick l.found ≡ take l.i l.found ++ put_in l.pick (drop l.i l.found)

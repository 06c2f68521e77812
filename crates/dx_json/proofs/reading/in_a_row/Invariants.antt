use Rattle.std.proofs.Common.{◌≡◌, ◌++◌}
use Rattle.dx_json.proofs.reading.in_a_row.Given as goal

abbrev pub invariant-loop-member : goal.invariant-loop-member
invariant-loop-member l = l.fn.found.entries ≡ l.members.items ++ l.member-iterator

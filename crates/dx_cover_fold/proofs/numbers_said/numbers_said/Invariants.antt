use Rattle.std.proofs.Common.{◌≡◌, take}
use Rattle.dx_cover_fold.specs.Codes.{numbers_by}
use Rattle.dx_cover_fold.proofs.numbers_said.numbers_said.Given as goal

abbrev pub invariant-loop-at : goal.invariant-loop-at
invariant-loop-at l = l.numbers.items ≡ numbers_by (take l.at-index l.plan) l.row

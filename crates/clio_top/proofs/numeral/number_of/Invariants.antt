use Rattle.std.proofs.Common.{◌≡◌, ◌≤◌, drop}
use Rattle.clio_top.specs.Words.{number_after}
use Rattle.clio_top.proofs.numeral.number_of.Given as goal

abbrev pub invariant-loop-digit : goal.invariant-loop-digit
invariant-loop-digit l = (l.number ≤ 100000) × (number_after l.number (drop l.digit-index l.digits) ≡ number_after 0 l.digits)

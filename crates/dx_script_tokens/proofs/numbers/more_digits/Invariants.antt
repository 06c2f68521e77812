use Rattle.std.proofs.Common.{◌≡◌, ◌+◌, length}
use Rattle.dx_script_tokens.specs.Numbers.{more_digits}
use Rattle.dx_script_tokens.proofs.Digits.{past}
use Rattle.dx_script_tokens.proofs.numbers.more_digits.Given as goal

abbrev pub invariant-digits : goal.invariant-digits
invariant-digits l = (past l.len (more_digits l.value l.rest) ≡ more_digits l.first l.fn.digits) × (l.len + length l.rest ≡ length l.fn.digits)

abbrev pub decreases-digits : goal.decreases-digits
decreases-digits l = length l.rest

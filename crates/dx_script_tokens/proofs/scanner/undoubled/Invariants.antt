use Rattle.std.proofs.Common.{◌≡◌, ◌++◌, length}
use Rattle.dx_script_tokens.specs.Scan.{undoubled}
use Rattle.dx_script_tokens.proofs.scanner.undoubled.Given as goal

abbrev pub invariant-bytes : goal.invariant-bytes
invariant-bytes l = l.found.items ++ undoubled l.rest ≡ undoubled l.bytes

abbrev pub decreases-bytes : goal.decreases-bytes
decreases-bytes l = length l.rest

use Rattle.std.proofs.Common.{length}
use Rattle.dx_tokens.proofs.Skips.{IsReading}
use Rattle.dx_script_tokens.specs.Scan.{script_scan_from, with_tokens}
use Rattle.dx_script_tokens.proofs.scanner.scan_script.Given as goal

abbrev pub invariant-bytes : goal.invariant-bytes
invariant-bytes l = IsReading (with_tokens l.tokens (script_scan_from 0 l.place l.rest)) (script_scan_from 0 0 l.text) l.place (length l.rest) (length l.text)

abbrev pub decreases-bytes : goal.decreases-bytes
decreases-bytes l = length l.rest

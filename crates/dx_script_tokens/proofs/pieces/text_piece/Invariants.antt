use Rattle.std.proofs.Common.{◌+◌, length}
use Rattle.dx_tokens.proofs.Skips.{IsReading}
use Rattle.dx_script_tokens.specs.Pieces.{text_from}
use Rattle.dx_script_tokens.proofs.pieces.text_piece.Given as goal

abbrev pub invariant-bytes : goal.invariant-bytes
invariant-bytes l = IsReading (text_from 0 l.n l.rest) (text_from 0 1 l.text) l.n (length l.rest) (1 + length l.text)

abbrev pub decreases-bytes : goal.decreases-bytes
decreases-bytes l = length l.rest

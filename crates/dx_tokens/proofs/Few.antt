-- A text has no more tokens than bytes.
use Rattle.std.proofs.Common.{ℕ, zero, suc, ◌+◌, ◌-◌, ◌≤◌, List, [], ◌∷◌, length, arith}
use Rattle.dx_tokens.specs.declared.pieces.Piece.{Piece}
use Rattle.dx_tokens.specs.declared.pieces.Piece.TheVariants as pieces
use Rattle.dx_tokens.specs.Scan.{scan_from, scan_of, scan_step}
use Rattle.dx_tokens.specs.Tokens.{piece_at}

scanned_few : (left place : ℕ) (bs : List ℕ) → length (scan_from left place bs).lexemes ≤ length bs
unfolding scan_from
scanned_few left place [] = omega arith
scanned_few (suc left) place (b ∷ rest) = let h = scanned_few left (place + 1) rest in omega (arith, h)
scanned_few zero place (b ∷ rest) = step (piece_at b rest) (λ left. scanned_few left (place + 1) rest)
  where
    step : (p : Piece) → ((left : ℕ) → length (scan_from left (place + 1) rest).lexemes ≤ length rest)
        → length (scan_step p place b rest (λ left. scan_from left (place + 1) rest)).lexemes ≤ suc (length rest)
    step (pieces.Blank len) few = let h = few (len - 1) in omega (arith, h)
    step (pieces.Token kind len) few = let h = few (len - 1) in omega (arith, h)
    step (pieces.Fault offset) few = omega arith
    step pieces.Cut few = omega arith

pub lexemes_few : (text : List ℕ) → length (scan_of text).lexemes ≤ length text
lexemes_few text = scanned_few 0 0 text

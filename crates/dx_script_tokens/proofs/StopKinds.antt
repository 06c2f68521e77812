-- A scan stops at a byte that can't stand, or at the end of the text.
use Rattle.std.proofs.Common.{◌≡◌, ◌⊎◌, ℕ, zero, suc, ◌+◌, ◌-◌, List, [], ◌∷◌, Option, Some, None, refl, subst, inl, inr}
use Rattle.dx_script_tokens.specs.declared.scanner.ScriptStop.{ScriptStop}
use Rattle.dx_script_tokens.specs.declared.scanner.ScriptScan.{ScriptScan}
use Rattle.dx_script_tokens.specs.declared.pieces.Piece.{Piece}
use Rattle.dx_script_tokens.specs.declared.pieces.Piece.TheVariants as pieces
use Rattle.dx_tokens.specs.declared.faults.TextKind.TheVariants.{Character, Ended}
use Rattle.dx_script_tokens.specs.Pieces.{script_piece_at}
use Rattle.dx_script_tokens.specs.Scan.{script_scan_from, script_scan_step, script_scan_of}

abbrev IsStopKind : Option ScriptStop → Type 0
IsStopKind None = Unit {0}
IsStopKind (Some s) = (s.kind ≡ Character) ⊎ (s.kind ≡ Ended)

step_kind : (p : Piece) (place b : ℕ) (rest : List ℕ) (next : ℕ → ScriptScan) → ((k : ℕ) → IsStopKind (next k).stop) → IsStopKind (script_scan_step p place b rest next).stop
step_kind pieces.Blank place b rest next h = h 0
step_kind (pieces.Token shape len) place b rest next h = h (len - 1)
step_kind (pieces.Fault offset) place b rest next h = inl refl
step_kind pieces.Cut place b rest next h = inr refl

scan_kind : (left place : ℕ) (bytes : List ℕ) → IsStopKind (script_scan_from left place bytes).stop
unfolding script_scan_from
scan_kind left place [] = tt
scan_kind (suc left) place (b ∷ rest) = scan_kind left (place + 1) rest
scan_kind zero place (b ∷ rest) = step_kind (script_piece_at b rest) place b rest (λ left. script_scan_from left (place + 1) rest) (λ k. scan_kind k (place + 1) rest)

pub stop_kind : (text : List ℕ) (s : ScriptStop) → (script_scan_of text).stop ≡ Some s → (s.kind ≡ Character) ⊎ (s.kind ≡ Ended)
stop_kind text s e = subst IsStopKind e (scan_kind 0 0 text)

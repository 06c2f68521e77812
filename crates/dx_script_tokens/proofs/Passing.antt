-- Going on after what was read.
use Rattle.std.proofs.Common.{◌≡◌, ℕ, zero, suc, ◌+◌, ◌-◌, ◌≤◌, List, [], ◌∷◌, ◌++◌, length, take, drop, None, refl, sym, ap, ◌∙◌, append_assoc, append-nil, arith, add-zero}
use Rattle.dx_tokens.specs.declared.pieces.Item.{Item}
use Rattle.dx_tokens.specs.declared.pieces.Item.TheVariants as items
use Rattle.dx_tokens.proofs.Skips.{drop-head}
use Rattle.dx_script_tokens.specs.declared.pieces.Shape.{Shape}
use Rattle.dx_script_tokens.specs.declared.pieces.Piece.{Piece}
use Rattle.dx_script_tokens.specs.declared.pieces.Piece.TheVariants as pieces
use Rattle.dx_script_tokens.specs.declared.scanner.ScriptToken.{ScriptToken}
use Rattle.dx_script_tokens.specs.declared.scanner.ScriptScan.{ScriptScan}
use Rattle.dx_script_tokens.specs.Pieces.{text_item, text_step, text_from, script_piece_at}
use Rattle.dx_script_tokens.specs.Scan.{token_of, with_token, with_tokens, script_scan_step, script_scan_from}

-- ---- texts

pub text_skip : (k n : ℕ) (bs : List ℕ) → k ≤ length bs → text_from k n bs ≡ text_from 0 (n + k) (drop k bs)
unfolding text_from
text_skip zero n bs le = rw add-zero refl
text_skip (suc k) n [] le = absurd (omega arith)
text_skip (suc k) n (b ∷ bs) le = text_skip k (n + 1) bs (omega arith) ∙ ap (λ (m : ℕ). text_from 0 m (drop k bs)) (omega arith)

pub text_reads : (n b : ℕ) (others rest : List ℕ) (i : Item) (whole : Piece) → rest ≡ b ∷ others → i ≡ text_item b others → text_from 0 n rest ≡ whole
    → text_step i n (λ left. text_from left (n + 1) others) ≡ whole
unfolding text_from
text_reads n b others rest i whole e is reads = rw (is, ← reads, e) refl

pub text_goes_on : (n b len : ℕ) (others rest after : List ℕ) (whole : Piece) → rest ≡ b ∷ others → items.Whole len ≡ text_item b others → 1 ≤ len → len ≤ 1 + length others → after ≡ drop len rest
    → text_from 0 n rest ≡ whole → text_from 0 (n + len) after ≡ whole
text_goes_on n b len others rest after whole e is low high cut reads =
    let on : text_from (len - 1) (n + 1) others ≡ whole = text_reads n b others rest (items.Whole len) whole e is reads in
    let place : n + 1 + (len - 1) ≡ n + len = omega arith in
    rw (cut, drop-head len b others rest e low, ← place, ← text_skip (len - 1) (n + 1) others (omega arith)) on

pub text_ends : (n : ℕ) (rest : List ℕ) (whole : Piece) → length rest ≡ 0 → text_from 0 n rest ≡ whole → pieces.Cut ≡ whole
unfolding text_from
text_ends n [] whole e reads = reads
text_ends n (b ∷ rest) whole e reads = absurd (omega arith)

-- ---- whole texts

pub scan_skip : (k n : ℕ) (bs : List ℕ) → k ≤ length bs → script_scan_from k n bs ≡ script_scan_from 0 (n + k) (drop k bs)
unfolding script_scan_from
scan_skip zero n bs le = rw add-zero refl
scan_skip (suc k) n [] le = absurd (omega arith)
scan_skip (suc k) n (b ∷ bs) le = scan_skip k (n + 1) bs (omega arith) ∙ ap (λ (m : ℕ). script_scan_from 0 m (drop k bs)) (omega arith)

pub scan_reads : (n b : ℕ) (others rest : List ℕ) (p : Piece) (front : List ScriptToken) (whole : ScriptScan) → rest ≡ b ∷ others → p ≡ script_piece_at b others → with_tokens front (script_scan_from 0 n rest) ≡ whole
    → with_tokens front (script_scan_step p n b others (λ left. script_scan_from left (n + 1) others)) ≡ whole
unfolding script_scan_from
scan_reads n b others rest p front whole e is reads = rw (is, ← reads, e) refl

scan_after : (n b len : ℕ) (others rest after : List ℕ) → rest ≡ b ∷ others → 1 ≤ len → len ≤ 1 + length others → after ≡ drop len rest
    → script_scan_from (len - 1) (n + 1) others ≡ script_scan_from 0 (n + len) after
scan_after n b len others rest after e low high cut =
    let place : n + 1 + (len - 1) ≡ n + len = omega arith in
    rw (cut, drop-head len b others rest e low, ← place) (scan_skip (len - 1) (n + 1) others (omega arith))

with_tokens-push : (front : List ScriptToken) (x : ScriptToken) (s : ScriptScan) → with_tokens front (with_token x s) ≡ with_tokens (front ++ x ∷ []) s
with_tokens-push front x s = ap (λ (xs : List ScriptToken). record { tokens = xs; stop = s.stop }) (sym (append_assoc front (x ∷ []) s.tokens))

pub scan_blank : (n b : ℕ) (others rest : List ℕ) (front : List ScriptToken) (whole : ScriptScan) → rest ≡ b ∷ others → pieces.Blank ≡ script_piece_at b others → with_tokens front (script_scan_from 0 n rest) ≡ whole
    → with_tokens front (script_scan_from 0 (n + 1) others) ≡ whole
scan_blank n b others rest front whole e is reads = scan_reads n b others rest pieces.Blank front whole e is reads

pub scan_token : (n b len : ℕ) (shape : Shape) (others rest after : List ℕ) (front now : List ScriptToken) (whole : ScriptScan) → rest ≡ b ∷ others → pieces.Token shape len ≡ script_piece_at b others → 1 ≤ len → len ≤ 1 + length others → after ≡ drop len rest
    → now ≡ front ++ token_of n shape (take len rest) ∷ [] → with_tokens front (script_scan_from 0 n rest) ≡ whole → with_tokens now (script_scan_from 0 (n + len) after) ≡ whole
scan_token n b len shape others rest after front now whole e is low high cut pushed reads =
    let x : ScriptToken = token_of n shape (take len (b ∷ others)) in
    let on = scan_reads n b others rest (pieces.Token shape len) front whole e is reads in
    let same : now ≡ front ++ x ∷ [] = pushed ∙ ap (λ (bs : List ℕ). front ++ token_of n shape (take len bs) ∷ []) e in
    rw (same, ← scan_after n b len others rest after e low high cut) (sym (with_tokens-push front x (script_scan_from (len - 1) (n + 1) others)) ∙ on)

pub scan_end : (n : ℕ) (rest : List ℕ) (front : List ScriptToken) (whole : ScriptScan) → length rest ≡ 0 → with_tokens front (script_scan_from 0 n rest) ≡ whole → whole ≡ record { tokens = front; stop = None }
unfolding script_scan_from
scan_end n [] front whole e reads = sym reads ∙ ap (λ (xs : List ScriptToken). record { tokens = xs; stop = None }) (append-nil front)
scan_end n (b ∷ rest) front whole e reads = absurd (omega arith)

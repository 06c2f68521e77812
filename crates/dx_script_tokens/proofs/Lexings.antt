-- The scan of a text is of its tokens and its first fault.
use Rattle.std.proofs.Common.{inl, inr, ◌≡◌, ℕ, zero, suc, ◌+◌, ◌≤◌, List, [], ◌∷◌, ◌++◌, length, Some, None, refl, sym, ap, ◌∙◌, arith, append-nil}
use Rattle.std.specs.Prelude.{map, slice_range}
use Rattle.std.proofs.lemmas.List.{length-append, length_push}
use Rattle.dx_tokens.specs.declared.faults.TextKind.{TextKind}
use Rattle.dx_tokens.specs.declared.faults.TextKind.TheVariants.{Character, Ended, Expected, UnknownName, Width, Unsafe}
use Rattle.dx_tokens.proofs.ScanLeads.{token_slice, further}
use Rattle.dx_script_tokens.specs.declared.pieces.Shape.{Shape}
use Rattle.dx_script_tokens.specs.declared.pieces.Piece.TheVariants as pieces
use Rattle.dx_script_tokens.specs.declared.scanner.ScriptToken.{ScriptToken}
use Rattle.dx_script_tokens.specs.declared.scanner.ScriptScan.{ScriptScan}
use Rattle.dx_script_tokens.specs.declared.scanner.ScriptStop.{ScriptStop}
use Rattle.dx_script_tokens.specs.Scan.{script_scan_from, script_stopped, token_of, with_token, with_tokens}
use Rattle.dx_script_tokens.specs.Lexing.{IsScriptTokenText, Span, LexesScript, nothing, blank, token, BeginsScriptFault, IsScriptTokensOrFault, token_said, script_begun_of, ScriptTokensAreScanned, ScriptFaultIsScanned, FirstScriptFaultIsStop}
use Rattle.dx_script_tokens.proofs.Standing.{blank_past, token_past}
use Rattle.dx_script_tokens.proofs.Meanings as means
use Rattle.dx_script_tokens.proofs.Meanings.{StopsBehind, PieceMeans, piece_means, FaultyPiece, faulty_piece, none_left, token_first, token_piece, longest, longest_stops, stops_ends}

-- ---- tokens are scanned

-- a token that is written is scanned as that token
token_scanned : (shape : Shape) (w after : List ℕ) (place : ℕ) → IsScriptTokenText shape w → StopsBehind shape w after → script_scan_from 0 place (w ++ after) ≡ with_token (token_of place shape w) (script_scan_from 0 (place + length w) after)
token_scanned shape w after place form stops =
    let f = token_first shape w form in
    let cut : f.first ∷ (f.others ++ after) ≡ w ++ after = sym (ap (λ (x : List ℕ). x ++ after) f.splits) in
    let size : length w ≡ suc (length f.others) = ap length f.splits in
    let piece = token_piece shape w after f.first (f.others ++ after) form stops cut ∙ ap (λ (n : ℕ). pieces.Token shape n) size in
    sym (ap (script_scan_from 0 place) cut) ∙ token_past shape place f.first f.others after piece
    ∙ ap (λ (x : List ℕ). with_token (token_of place shape x) (script_scan_from 0 (place + length x) after)) (sym f.splits)

-- what is scanned from a place on is the tokens, and what is scanned after them
record ScanLeads (text : List ℕ) (place : ℕ) (left : List ℕ) (tokens : List Span) (behind : List ℕ) : Type 0 where
  there : ℕ
  adds_up : there + length behind ≡ place + length left
  leads : script_scan_from 0 place left ≡ with_tokens (map (token_said text) tokens) (script_scan_from 0 there behind)

scan_leads : (text front : List ℕ) (place : ℕ) (left : List ℕ) (tokens : List Span) (behind : List ℕ) → text ≡ front ++ left → length front ≡ place → LexesScript place left tokens behind → ScanLeads text place left tokens behind
scan_leads text front place left tokens behind split size nothing = record { there = place; adds_up = refl; leads = refl }
scan_leads text front place left tokens behind split size (blank {rest = rest} b t e on) =
    let l = scan_leads text (front ++ b ∷ []) (place + 1) rest tokens behind (further text front (b ∷ []) rest left split e) (length_push front b ∙ ap (λ (n : ℕ). n + 1) size) on in
    let p : script_scan_from 0 place left ≡ script_scan_from 0 (place + 1) rest = ap (script_scan_from 0 place) e ∙ blank_past place b rest t in
    record { there = l.there; adds_up = omega (arith, l.adds_up, ap length e); leads = p ∙ l.leads }
scan_leads text front place left tokens behind split size (token {rest = rest} {tokens = ts} shape w form long ends e on) =
    let l = scan_leads text (front ++ w) (place + length w) rest ts behind (further text front w rest left split e) (length-append front w ∙ ap (λ (n : ℕ). n + length w) size) on in
    let x : ScriptToken = token_of place shape w in
    let p : script_scan_from 0 place left ≡ with_token x (script_scan_from 0 (place + length w) rest) =
    ap (script_scan_from 0 place) e ∙ token_scanned shape w rest place form (longest_stops shape w rest left form e long ends) in
    let same : w ≡ slice_range text place (place + length w) = sym (token_slice text front w rest place (split ∙ ap (λ (y : List ℕ). front ++ y) e) size) in
    let q : with_token x (with_tokens (map (token_said text) ts) (script_scan_from 0 l.there behind)) ≡ with_tokens (map (token_said text) (record { start = place; end = place + length w; shape = shape } ∷ ts)) (script_scan_from 0 l.there behind) =
    ap (λ (y : List ℕ). with_token (token_of place shape y) (with_tokens (map (token_said text) ts) (script_scan_from 0 l.there behind))) same in
    record { there = l.there; adds_up = omega (arith, l.adds_up, ap length e, length-append w rest); leads = p ∙ ap (with_token x) l.leads ∙ q }

end_scanned : (place : ℕ) → script_scan_from 0 place [] ≡ record { tokens = []; stop = None }
unfolding script_scan_from
end_scanned place = refl

pub lexed_is_scanned : (text : List ℕ) → ScriptTokensAreScanned text
lexed_is_scanned text tokens lexes =
    let l = scan_leads text [] 0 text tokens [] refl refl lexes in
    l.leads ∙ ap (with_tokens (map (token_said text) tokens)) (end_scanned l.there)
    ∙ ap (λ (xs : List ScriptToken). record { tokens = xs; stop = None }) (append-nil (map (token_said text) tokens))

-- ---- a fault stops the scan

fault_scanned : (place b : ℕ) (rest : List ℕ) (offset : ℕ) (kind : TextKind) → FaultyPiece b rest offset kind
    → script_scan_from 0 place (b ∷ rest) ≡ script_stopped (record { place = place + offset; kind = kind; begun = script_begun_of place (b ∷ rest) })
unfolding script_scan_from
fault_scanned place b rest offset Character p = rw p refl
fault_scanned place b rest offset Ended p =
    let end : place + 1 + length rest ≡ place + offset = omega (arith, p.1) in
    rw (p.0, end) refl
fault_scanned place b rest offset Expected p = absurd p
fault_scanned place b rest offset UnknownName p = absurd p
fault_scanned place b rest offset Width p = absurd p
fault_scanned place b rest offset Unsafe p = absurd p

pub faulty_is_scanned : (text : List ℕ) → ScriptFaultIsScanned text
faulty_is_scanned text tokens [] place offset kind lexes adds_up faulty = absurd (none_left offset kind faulty)
faulty_is_scanned text tokens (b ∷ rest) place offset kind lexes adds_up faulty =
    let l = scan_leads text [] 0 text tokens (b ∷ rest) refl refl lexes in
    let here : l.there ≡ place = omega (arith, l.adds_up, adds_up) in
    let stop : ScriptStop = record { place = place + offset; kind = kind; begun = script_begun_of place (b ∷ rest) } in
    l.leads ∙ ap (λ (n : ℕ). with_tokens (map (token_said text) tokens) (script_scan_from 0 n (b ∷ rest))) here
    ∙ ap (with_tokens (map (token_said text) tokens)) (fault_scanned place b rest offset kind (faulty_piece b rest offset kind faulty))
    ∙ ap (λ (xs : List ScriptToken). record { tokens = xs; stop = Some stop }) (append-nil (map (token_said text) tokens))

-- the first fault is the one at which the scan stops
pub first_is_stop : (text : List ℕ) → FirstScriptFaultIsStop text
first_is_stop text place kind h =
    let l = scan_leads text [] 0 text h.tokens h.behind refl refl h.lexes in
    let adds = l.adds_up in
    let ends = h.at_place in
    let e = faulty_is_scanned text h.tokens h.behind l.there h.offset kind h.lexes (omega (arith, adds)) h.faulty in
    let begun = script_begun_of l.there h.behind in
    let stop : ScriptStop = record { place = l.there + h.offset; kind = kind; begun = begun } in
    (stop, ap (λ (s : ScriptScan). s.stop) e, omega (arith, adds, ends), refl)

-- ---- each text has tokens, or a first fault

-- what is left is at fault, or nothing is
record IsFaultyAt (left : List ℕ) : Type 0 where
  offset : ℕ
  kind : TextKind
  faulty : BeginsScriptFault left offset kind

abbrev Stops : List ℕ → Type 0
Stops [] = Unit {0}
Stops (b ∷ rest) = IsFaultyAt (b ∷ rest)

-- how far a text has tokens
record IsWalked (place : ℕ) (left : List ℕ) : Type 0 where
  tokens : List Span
  behind : List ℕ
  lexes : LexesScript place left tokens behind
  stops : Stops behind

walk_from : (fuel place : ℕ) (left : List ℕ) → length left ≤ fuel → IsWalked place left
walk_from zero place [] le = record { tokens = []; behind = []; lexes = nothing; stops = tt }
walk_from (suc fuel) place [] le = record { tokens = []; behind = []; lexes = nothing; stops = tt }
walk_from zero place (b ∷ rest) le = absurd (omega arith)
walk_from (suc fuel) place (b ∷ rest) le = go (λ there bs. walk_from fuel there bs) (piece_means b rest)
  where
    go : ((there : ℕ) (bs : List ℕ) → length bs ≤ fuel → IsWalked there bs) → PieceMeans b rest → IsWalked place (b ∷ rest)
    go further (means.blank t) =
        let w = further (place + 1) rest (omega arith) in
        record { tokens = w.tokens; behind = w.behind; lexes = blank b t refl w.lexes; stops = w.stops }
    go further (means.token shape v after form stops e) =
        let s = token_first shape v form in
        let w = further (place + length v) after (omega (arith, ap length e, length-append v after, ap length s.splits)) in
        record {
          tokens = record { start = place; end = place + length v; shape = shape } ∷ w.tokens;
          behind = w.behind;
          lexes = token shape v form (longest shape v after b rest form stops e) (stops_ends shape v after stops) e w.lexes;
          stops = w.stops;
        }
    go further (means.fault offset kind f p) = record { tokens = []; behind = b ∷ rest; lexes = nothing; stops = record { offset = offset; kind = kind; faulty = f } }

pub tokens_or_fault : (text : List ℕ) → IsScriptTokensOrFault text
tokens_or_fault text = let w = walk_from (length text) 0 text (omega arith) in go w.tokens w.behind w.lexes w.stops
  where
    go : (tokens : List Span) (behind : List ℕ) → LexesScript 0 text tokens behind → Stops behind → IsScriptTokensOrFault text
    go tokens [] lexes stops = inl (tokens, lexes)
    go tokens (b ∷ rest) lexes stops =
        let l = scan_leads text [] 0 text tokens (b ∷ rest) refl refl lexes in
        inr (
          l.there + stops.offset,
          stops.kind,
          record {
            tokens = tokens;
            behind = b ∷ rest;
            lexes = lexes;
            offset = stops.offset;
            faulty = stops.faulty;
            at_place = omega (arith, l.adds_up);
          },
        )

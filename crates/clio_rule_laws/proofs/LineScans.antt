-- What stands in further lines after a text does not change the tokens of the text.
use Rattle.std.proofs.Common.{◌≡◌, ℕ, ◌+◌, ◌-◌, ◌≤◌, List, [], ◌∷◌, ◌++◌, length, drop, Result, Ok, Err, None, refl, sym, ap, ◌∙◌, subst, arith, append_assoc}
use Rattle.std.specs.Prelude.{IsTrue, IsOk, MatchResult}
use Rattle.std.proofs.lemmas.Bool.{false≢true}
use Rattle.std.proofs.lemmas.List.{drop_at, length-append}
use Rattle.dx_base.specs.Members.{here, there, Each}
use Rattle.dx_base.proofs.Members.{each_cons}
use Rattle.dx_tokens.specs.declared.tokenizer.Token.{Token}
use Rattle.dx_tokens.specs.declared.tokenizer.TokenKind.{TokenKind}
use Rattle.dx_tokens.specs.declared.tokenizer.TokenKind.TheVariants.{Word, Number, Str, Mark}
use Rattle.dx_tokens.specs.declared.faults.TextFault.{TextFault}
use Rattle.dx_tokens.specs.declared.scanner.Lexeme.{Lexeme}
use Rattle.dx_tokens.specs.declared.scanner.Scanned.{Scanned}
use Rattle.dx_tokens.specs.Tokens.{is_blank, tokens_from}
use Rattle.dx_tokens.specs.Scan.{lexeme_text, with_lexeme, scan_from, scan_of}
use Rattle.dx_tokens.specs.Lexing.{IsWord, IsTokenText, IsComment, EndsLine, Lexes, nothing, blank, comment, token, IsLexed}
use Rattle.dx_tokens.proofs.Scans.{scan_after}
use Rattle.dx_tokens.proofs.Spelled.{StopsBehind}
use Rattle.dx_tokens.proofs.PartScans.{token_scanned, blanks_scanned}
use Rattle.dx_tokens.proofs.Meanings.{longest_stops, comment_piece}
use Rattle.dx_tokens.proofs.Lexings.{IsFaultOfText, tokens_mean}
use Rattle.dx_tokens.proofs.Agrees.{no_stop_has_tokens}
use Rattle.dx_tokens.proofs.ScanLeads.{end_scanned}
use Rattle.dx_schema_text.proofs.PrintScans.{with_all}
use Rattle.clio_rule_laws.specs.ReadBack.{IsStringText}
use Rattle.clio_rule_laws.proofs.Strings.{string_text}

-- a comment is passed over
comment_past : (place : ℕ) (c rest others : List ℕ) → IsComment c → EndsLine rest → 47 ∷ others ≡ c ++ rest → scan_from 0 place (47 ∷ others) ≡ scan_from 0 (place + length c) rest
unfolding scan_from
comment_past place c rest others is ends cut =
    let step : scan_from 0 place (47 ∷ others) ≡ scan_from (length c - 1) (place + 1) others = rw (comment_piece c rest 47 others is ends cut) refl in
    let low : 1 ≤ length c = omega (arith, ap length is.spelled) in
    let high : length c ≤ 1 + length others = omega (arith, ap length cut, length-append c rest) in
    let behind : rest ≡ drop (length c) (47 ∷ others) = sym (ap (drop (length c)) cut ∙ drop_at c rest (length c) refl) in
    step ∙ scan_after place 47 (length c) others (47 ∷ others) rest refl low high behind

comment_scanned : (c rest : List ℕ) (place : ℕ) → IsComment c → EndsLine rest → scan_from 0 place (c ++ rest) ≡ scan_from 0 (place + length c) rest
comment_scanned c rest place is ends =
    let cut : 47 ∷ 47 ∷ (is.line ++ rest) ≡ c ++ rest = sym (ap (λ (x : List ℕ). x ++ rest) is.spelled) in
    ap (scan_from 0 place) (sym cut) ∙ comment_past place c rest (47 ∷ (is.line ++ rest)) is ends cut

-- a line feed ends a comment, and each token
ends_too : (rest more : List ℕ) → EndsLine rest → EndsLine (rest ++ 10 ∷ more)
ends_too [] more ends = refl
ends_too (b ∷ rest) more ends = ends

stops_too : (kind : TokenKind) (rest more : List ℕ) → StopsBehind kind rest → StopsBehind kind (rest ++ 10 ∷ more)
stops_too Word [] more stops = refl
stops_too Word (b ∷ rest) more stops = stops
stops_too Number [] more stops = refl
stops_too Number (b ∷ rest) more stops = stops
stops_too Str rest more stops = tt
stops_too Mark rest more stops = tt

-- a word has the text of one, and a string a text that can stand in one
abbrev pub IsRight : Lexeme → Type 0
IsRight x = (x.kind ≡ Word → IsWord x.text) × (x.kind ≡ Str → IsStringText x.text)

right_token : (place : ℕ) (kind : TokenKind) (w : List ℕ) → IsTokenText kind w → IsRight (record { place = place; kind = kind; text = lexeme_text kind w })
right_token place Word w form = ((λ e. form), (λ e. absurd cc))
right_token place Number w form = ((λ e. absurd cc), (λ e. absurd cc))
right_token place Str w form = ((λ e. absurd cc), (λ e. string_text w form))
right_token place Mark w form = ((λ e. absurd cc), (λ e. absurd cc))

-- the lexemes of a text from this place on, with nothing after it and before a line feed
record IsScannedAlike (place : ℕ) (left : List ℕ) : Type 0 where
  lexemes : List Lexeme
  after : ℕ
  right : Each lexemes IsRight
  alone : scan_from 0 place left ≡ record { lexemes = lexemes; stop = None }
  before : (more : List ℕ) → scan_from 0 place (left ++ 10 ∷ more) ≡ with_all lexemes (scan_from 0 after (10 ∷ more))

-- what is passed over changes nothing
passed : (place : ℕ) (c rest left : List ℕ) → left ≡ c ++ rest → scan_from 0 place (c ++ rest) ≡ scan_from 0 (place + length c) rest
    → ((more : List ℕ) → scan_from 0 place (c ++ (rest ++ 10 ∷ more)) ≡ scan_from 0 (place + length c) (rest ++ 10 ∷ more)) → IsScannedAlike (place + length c) rest → IsScannedAlike place left
passed place c rest left e gap gaps on = record {
  lexemes = on.lexemes;
  after = on.after;
  right = on.right;
  alone = ap (scan_from 0 place) e ∙ gap ∙ on.alone;
  before = λ more. ap (λ (x : List ℕ). scan_from 0 place (x ++ 10 ∷ more)) e ∙ ap (scan_from 0 place) (append_assoc c rest (10 ∷ more)) ∙ gaps more ∙ on.before more;
}

one_blank : (b : ℕ) → IsTrue (is_blank b) → Each (b ∷ []) (λ c. IsTrue (is_blank c))
one_blank b t c (here e) = rw (← e) t
one_blank b t c (there m) = elim m [ ]

scanned_alike : (place : ℕ) (left : List ℕ) (tokens : List Token) → Lexes place left tokens [] → IsScannedAlike place left
scanned_alike place _ _ nothing = record { lexemes = []; after = place; right = λ x m. elim m [ ]; alone = end_scanned place; before = λ more. refl }
scanned_alike place left tokens (blank {rest = rest} b t e on) =
    passed place (b ∷ []) rest left e (blanks_scanned (b ∷ []) rest place (one_blank b t)) (λ more. blanks_scanned (b ∷ []) (rest ++ 10 ∷ more) place (one_blank b t)) (scanned_alike (place + 1) rest tokens on)
scanned_alike place left tokens (comment {rest = rest} c is ends e on) =
    passed place c rest left e (comment_scanned c rest place is ends) (λ more. comment_scanned c (rest ++ 10 ∷ more) place is (ends_too rest more ends)) (scanned_alike (place + length c) rest tokens on)
scanned_alike place left _ (token {rest = rest} {tokens = ts} kind w form long e on) =
    let others = scanned_alike (place + length w) rest ts on in
    let x : Lexeme = record { place = place; kind = kind; text = lexeme_text kind w } in
    let stops = longest_stops kind w rest left form e long in
    record {
      lexemes = x ∷ others.lexemes;
      after = others.after;
      right = each_cons x others.lexemes (right_token place kind w form) others.right;
      alone = ap (scan_from 0 place) e ∙ token_scanned kind w rest place form stops ∙ ap (with_lexeme x) others.alone;
      before = λ more.
          (ap (λ (y : List ℕ). scan_from 0 place (y ++ 10 ∷ more)) e ∙ ap (scan_from 0 place) (append_assoc w rest (10 ∷ more))
          ∙ token_scanned kind w (rest ++ 10 ∷ more) place form (stops_too kind rest more stops) ∙ ap (with_lexeme x) (others.before more));
    }

alike : (text : List ℕ) → (scan_of text).stop ≡ None → IsScannedAlike 0 text
alike text no_stop = go (tokens_from 0 0 text) (tokens_mean text) (no_stop_has_tokens text no_stop)
  where
    go : (r : Result (List Token) TextFault) → MatchResult r (IsLexed text) (IsFaultOfText text) → IsOk r → IsScannedAlike 0 text
    go (Err f) fault ok = absurd (false≢true ok)
    go (Ok tokens) lexes ok = scanned_alike 0 text tokens lexes

same_lexemes : (text : List ℕ) (no_stop : (scan_of text).stop ≡ None) → (alike text no_stop).lexemes ≡ (scan_of text).lexemes
same_lexemes text no_stop = sym (ap (λ (s : Scanned). s.lexemes) (alike text no_stop).alone)

-- the words and strings of a text without a stop
pub right_lexemes : (text : List ℕ) → (scan_of text).stop ≡ None → Each (scan_of text).lexemes IsRight
right_lexemes text no_stop = subst (λ (xs : List Lexeme). Each xs IsRight) (same_lexemes text no_stop) (alike text no_stop).right

-- its lexemes stand before those of further lines
pub record IsScannedBefore (text more : List ℕ) : Type 0 where
  pub after : ℕ
  pub scanned : scan_from 0 0 (text ++ 10 ∷ more) ≡ with_all (scan_of text).lexemes (scan_from 0 after (10 ∷ more))

pub scanned_before : (text more : List ℕ) → (scan_of text).stop ≡ None → IsScannedBefore text more
scanned_before text more no_stop =
    let a = alike text no_stop in
    record { after = a.after; scanned = a.before more ∙ ap (λ (xs : List Lexeme). with_all xs (scan_from 0 a.after (10 ∷ more))) (same_lexemes text no_stop) }

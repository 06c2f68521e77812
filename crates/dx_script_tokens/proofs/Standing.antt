-- A token that is written is scanned as that token.
use Rattle.std.proofs.Common.{◌≡◌, ℕ, suc, ◌+◌, ◌-◌, ◌≤◌, true, false, List, [], ◌∷◌, ◌++◌, length, refl, sym, ap, ◌∙◌, arith, append_assoc}
use Rattle.std.specs.Prelude.{◌||◌, ◌==◌, decimal, Some}
use Rattle.std.proofs.lemmas.Bool.Decides.{nat_tests}
use Rattle.std.proofs.lemmas.List.{length-append}
use Rattle.std.proofs.Math.Seq.{drop-append_seam, take-append_seam}
use Rattle.dx_tokens.specs.Tokens.{is_blank, is_digit, is_word_start, is_word_byte}
use Rattle.dx_tokens.proofs.Lexed.{AllPass, StopsAt, run_is, word_no_blank}
use Rattle.dx_tokens.proofs.Spelled.{digit_no_blank, digit_no_start}
use Rattle.dx_script_tokens.specs.declared.kinds.ScriptKind.{ScriptKind}
use Rattle.dx_script_tokens.specs.declared.kinds.ScriptKind.TheVariants as kinds
use Rattle.dx_script_tokens.specs.declared.pieces.Shape.{Shape}
use Rattle.dx_script_tokens.specs.declared.pieces.Shape.TheVariants as shapes
use Rattle.dx_script_tokens.specs.declared.pieces.Piece.TheVariants as pieces
use Rattle.dx_script_tokens.specs.declared.scanner.ScriptToken.{ScriptToken}
use Rattle.dx_script_tokens.specs.Numbers.{greatest_number, numeral_of, or_zero}
use Rattle.dx_script_tokens.specs.Kinds.{numbered_word, small_word, inner_word, word_says, is_script_mark, mark_kind}
use Rattle.dx_script_tokens.specs.Pieces.{text_from, script_piece_at}
use Rattle.dx_script_tokens.specs.Scan.{undoubled, plain_token, token_of, with_token, script_scan_from}
use Rattle.dx_script_tokens.proofs.Utf8.{but_last_end}
use Rattle.dx_script_tokens.proofs.Decimal.{IsDecimal, decimal_read, number_read, numeral_read}

passed : (place : ℕ) (w behind : List ℕ) → script_scan_from (length w) place (w ++ behind) ≡ script_scan_from 0 (place + length w) behind
unfolding script_scan_from
passed place [] behind = ap (λ n. script_scan_from 0 n behind) (omega arith)
passed place (b ∷ w) behind = passed (place + 1) w behind ∙ ap (λ n. script_scan_from 0 n behind) (omega arith)

-- the piece that stands next is a token of these bytes
pub token_past : (shape : Shape) (place b : ℕ) (w behind : List ℕ) → script_piece_at b (w ++ behind) ≡ pieces.Token shape (suc (length w))
    → script_scan_from 0 place (b ∷ (w ++ behind)) ≡ with_token (token_of place shape (b ∷ w)) (script_scan_from 0 (place + length (b ∷ w)) behind)
unfolding script_scan_from
token_past shape place b w behind e =
    let less : suc (length w) - 1 ≡ length w = omega arith in
    let sum : place + 1 + length w ≡ place + suc (length w) = omega arith in
    rw (e, take-append_seam w behind)
    (ap (with_token (token_of place shape (b ∷ w))) (ap (λ n. script_scan_from n (place + 1) (w ++ behind)) less ∙ passed (place + 1) w behind ∙ ap (λ n. script_scan_from 0 n behind) sum))

pub blank_past : (place b : ℕ) (behind : List ℕ) → is_blank b ≡ true → script_scan_from 0 place (b ∷ behind) ≡ script_scan_from 0 (place + 1) behind
unfolding script_scan_from script_piece_at
blank_past place b behind e = rw e refl

-- ---- words

pub word_piece : (b : ℕ) (bs rest : List ℕ) → is_word_start b ≡ true → AllPass is_word_byte bs → StopsAt is_word_byte rest → script_piece_at b (bs ++ rest) ≡ pieces.Token shapes.Word (suc (length bs))
unfolding script_piece_at
word_piece b bs rest e h s =
    let size : 1 + length bs ≡ suc (length bs) = omega arith in
    rw (word_no_blank b e, e, run_is is_word_byte bs rest h s) (ap (λ (n : ℕ). pieces.Token shapes.Word n) size)

-- a word that says a kind and a number
pub record IsWordOf (w : List ℕ) (kind : ScriptKind) (number : ℕ) : Type 0 where
  pub first : ℕ
  pub others : List ℕ
  pub splits : w ≡ first ∷ others
  pub starts : is_word_start first ≡ true
  pub goes_on : AllPass is_word_byte others
  pub says : word_says w ≡ (kind, number)

pub word_scanned : (w : List ℕ) (kind : ScriptKind) (number : ℕ) (behind : List ℕ) (place : ℕ) → IsWordOf w kind number → StopsAt is_word_byte behind
    → script_scan_from 0 place (w ++ behind) ≡ with_token (plain_token place kind number) (script_scan_from 0 (place + length w) behind)
word_scanned w kind number behind place i stops =
    let said : token_of place shapes.Word w ≡ plain_token place kind number = ap (λ (p : ScriptKind × ℕ). plain_token place p.0 p.1) i.says in
    let past : script_scan_from 0 place (i.first ∷ (i.others ++ behind)) ≡ with_token (token_of place shapes.Word (i.first ∷ i.others)) (script_scan_from 0 (place + length (i.first ∷ i.others)) behind) =
    token_past shapes.Word place i.first i.others behind (word_piece i.first i.others behind i.starts i.goes_on stops) in
    ap (λ (x : List ℕ). script_scan_from 0 place (x ++ behind)) i.splits ∙ past
    ∙ ap (λ (x : List ℕ). with_token (token_of place shapes.Word x) (script_scan_from 0 (place + length x) behind)) (sym i.splits)
    ∙ ap (λ (t : ScriptToken). with_token t (script_scan_from 0 (place + length w) behind)) said

digits_are_word : (ds : List ℕ) → AllPass is_digit ds → AllPass is_word_byte ds
digits_are_word [] all = tt
digits_are_word (d ∷ ds) all = (digit_word d all.0, digits_are_word ds all.1) where
  digit_word : (b : ℕ) → is_digit b ≡ true → is_word_byte b ≡ true
  digit_word b e = grind (arith, nat_tests)

digit_word_byte : (b : ℕ) → is_digit b ≡ true → is_word_byte b ≡ true
digit_word_byte b e = grind (arith, nat_tests)

match_says : (d n : ℕ) (ds : List ℕ) → numeral_of (d ∷ ds) ≡ Some n → word_says (109 ∷ d ∷ ds) ≡ (kinds.Match, n)
unfolding word_says inner_word small_word numbered_word
match_says d n ds e = rw e refl

keep_says : (d n : ℕ) (ds : List ℕ) → numeral_of (d ∷ ds) ≡ Some n → word_says (107 ∷ d ∷ ds) ≡ (kinds.Keep, n)
unfolding word_says inner_word small_word numbered_word
keep_says d n ds e = rw e refl

alias_says : (d n : ℕ) (ds : List ℕ) → numeral_of (d ∷ ds) ≡ Some n → word_says (97 ∷ d ∷ ds) ≡ (kinds.Alias, n)
unfolding word_says inner_word small_word numbered_word
alias_says d n ds e = rw e refl

column_says : (d n : ℕ) (ds : List ℕ) → numeral_of (d ∷ ds) ≡ Some n → word_says (99 ∷ d ∷ ds) ≡ (kinds.Column, n)
unfolding word_says inner_word small_word numbered_word
column_says d n ds e = rw e refl

-- a letter and a number
numbered : (letter : ℕ) (kind : ScriptKind) (n : ℕ) → is_word_start letter ≡ true → ((d m : ℕ) (ds : List ℕ) → numeral_of (d ∷ ds) ≡ Some m → word_says (letter ∷ d ∷ ds) ≡ (kind, m)) → n ≤ greatest_number
    → IsWordOf (letter ∷ decimal n) kind n
numbered letter kind n start says le =
    let d = decimal_read n le in
    record {
      first = letter;
      others = d.first ∷ d.others;
      splits = ap (λ (x : List ℕ). letter ∷ x) d.splits;
      starts = start;
      goes_on = (digit_word_byte d.first d.digit, digits_are_word d.others d.digits);
      says = ap (λ (x : List ℕ). word_says (letter ∷ x)) d.splits ∙ says d.first n d.others (numeral_read n (decimal n) d);
    }

pub match_word : (n : ℕ) → n ≤ greatest_number → IsWordOf (109 ∷ decimal n) kinds.Match n
match_word n le = numbered 109 kinds.Match n refl match_says le

pub keep_word : (n : ℕ) → n ≤ greatest_number → IsWordOf (107 ∷ decimal n) kinds.Keep n
keep_word n le = numbered 107 kinds.Keep n refl keep_says le

pub alias_word : (n : ℕ) → n ≤ greatest_number → IsWordOf (97 ∷ decimal n) kinds.Alias n
alias_word n le = numbered 97 kinds.Alias n refl alias_says le

pub column_word : (n : ℕ) → n ≤ greatest_number → IsWordOf (99 ∷ decimal n) kinds.Column n
column_word n le = numbered 99 kinds.Column n refl column_says le

-- ---- numbers

number_piece : (n : ℕ) (ds rest : List ℕ) (d : IsDecimal n ds) → StopsAt is_digit rest → script_piece_at d.first (d.others ++ rest) ≡ pieces.Token shapes.Number (suc (length d.others))
unfolding script_piece_at
number_piece n ds rest d s = rw (digit_no_blank d.first d.digit, digit_no_start d.first d.digit, d.digit) (ap (λ (p : ℕ × ℕ). pieces.Token shapes.Number p.0) (number_read n ds rest d s))

pub number_scanned : (n : ℕ) (behind : List ℕ) (place : ℕ) → n ≤ greatest_number → StopsAt is_digit behind
    → script_scan_from 0 place (decimal n ++ behind) ≡ with_token (plain_token place kinds.Number n) (script_scan_from 0 (place + length (decimal n)) behind)
number_scanned n behind place le stops =
    let d = decimal_read n le in
    let value : numeral_of (decimal n) ≡ Some n = ap numeral_of d.splits ∙ numeral_read n (decimal n) d in
    let past = token_past shapes.Number place d.first d.others behind (number_piece n (decimal n) behind d stops) in
    ap (λ (x : List ℕ). script_scan_from 0 place (x ++ behind)) d.splits ∙ past
    ∙ ap (λ (x : List ℕ). with_token (token_of place shapes.Number x) (script_scan_from 0 (place + length x) behind)) (sym d.splits)
    ∙ ap (λ o. with_token (plain_token place kinds.Number (or_zero o)) (script_scan_from 0 (place + length (decimal n)) behind)) value

-- ---- names, texts and marks

-- letters, digits and _, of which there is one at least, and the first may be #
abbrev pub IsNameText : List ℕ → Type 0
IsNameText [] = ⊥
IsNameText (c ∷ rest) = ((c == 35 || is_word_byte c) ≡ true) × AllPass is_word_byte rest

pub name_piece : (c : ℕ) (rest behind : List ℕ) → IsNameText (c ∷ rest) → script_piece_at 34 (((c ∷ rest) ++ 34 ∷ []) ++ behind) ≡ pieces.Token shapes.Name (suc (length ((c ∷ rest) ++ 34 ∷ [])))
unfolding script_piece_at
name_piece c rest behind h =
    let flat : (rest ++ 34 ∷ []) ++ behind ≡ rest ++ 34 ∷ behind = append_assoc rest (34 ∷ []) behind in
    let size : 2 + length rest + 1 ≡ suc (suc (length (rest ++ 34 ∷ []))) = omega (arith, length-append rest (34 ∷ [])) in
    rw (flat, h.0, run_is is_word_byte rest (34 ∷ behind) h.1 refl, drop-append_seam rest (34 ∷ behind)) (ap (λ (n : ℕ). pieces.Token shapes.Name n) size)

pub name_scanned : (name behind : List ℕ) (place : ℕ) → IsNameText name
    → script_scan_from 0 place (34 ∷ ((name ++ 34 ∷ []) ++ behind)) ≡ with_token (record { place = place; kind = kinds.Name; number = 0; text = name }) (script_scan_from 0 (place + length (34 ∷ (name ++ 34 ∷ []))) behind)
name_scanned [] behind place h = absurd h
name_scanned (c ∷ rest) behind place h =
    let said : token_of place shapes.Name (34 ∷ ((c ∷ rest) ++ 34 ∷ [])) ≡ record { place = place; kind = kinds.Name; number = 0; text = c ∷ rest } = ap (λ (x : List ℕ). record { place = place; kind = kinds.Name; number = 0; text = x }) (but_last_end (c ∷ rest) 34) in
    token_past shapes.Name place 34 ((c ∷ rest) ++ 34 ∷ []) behind (name_piece c rest behind h) ∙ ap (λ (t : ScriptToken). with_token t (script_scan_from 0 (place + length (34 ∷ ((c ∷ rest) ++ 34 ∷ []))) behind)) said

pub text_piece : (bs : List ℕ) (len : ℕ) → text_from 0 1 bs ≡ pieces.Token shapes.Text len → script_piece_at 39 bs ≡ pieces.Token shapes.Text len
unfolding script_piece_at
text_piece bs len e = e

-- a text, by the bytes between its quotes
pub text_scanned : (w said behind : List ℕ) (place : ℕ) → text_from 0 1 (w ++ 39 ∷ behind) ≡ pieces.Token shapes.Text (1 + suc (length w)) → undoubled w ≡ said
    → script_scan_from 0 place (39 ∷ ((w ++ 39 ∷ []) ++ behind)) ≡ with_token (record { place = place; kind = kinds.Text; number = 0; text = said }) (script_scan_from 0 (place + length (39 ∷ (w ++ 39 ∷ []))) behind)
text_scanned w said behind place read is =
    let flat : (w ++ 39 ∷ []) ++ behind ≡ w ++ 39 ∷ behind = append_assoc w (39 ∷ []) behind in
    let size : 1 + suc (length w) ≡ suc (length (w ++ 39 ∷ [])) = omega (arith, length-append w (39 ∷ [])) in
    let piece : script_piece_at 39 ((w ++ 39 ∷ []) ++ behind) ≡ pieces.Token shapes.Text (suc (length (w ++ 39 ∷ []))) =
    text_piece ((w ++ 39 ∷ []) ++ behind) (suc (length (w ++ 39 ∷ []))) (ap (text_from 0 1) flat ∙ read ∙ ap (λ (n : ℕ). pieces.Token shapes.Text n) size) in
    let text : token_of place shapes.Text (39 ∷ (w ++ 39 ∷ [])) ≡ record { place = place; kind = kinds.Text; number = 0; text = said } = ap (λ (x : List ℕ). record { place = place; kind = kinds.Text; number = 0; text = x }) (ap undoubled (but_last_end w 39) ∙ is) in
    token_past shapes.Text place 39 (w ++ 39 ∷ []) behind piece ∙ ap (λ (t : ScriptToken). with_token t (script_scan_from 0 (place + length (39 ∷ (w ++ 39 ∷ []))) behind)) text

pub mark_piece : (b : ℕ) (rest : List ℕ) → is_script_mark b ≡ true → script_piece_at b rest ≡ pieces.Token shapes.Mark 1
unfolding script_piece_at
mark_piece b rest e = rw (no_blank b e, no_start b e, no_digit b e, e) refl
  where
    no_blank : (b : ℕ) → is_script_mark b ≡ true → is_blank b ≡ false
    no_blank b e = grind (arith, nat_tests)

    no_start : (b : ℕ) → is_script_mark b ≡ true → is_word_start b ≡ false
    no_start b e = grind (arith, nat_tests)

    no_digit : (b : ℕ) → is_script_mark b ≡ true → is_digit b ≡ false
    no_digit b e = grind (arith, nat_tests)

pub mark_scanned : (b : ℕ) (behind : List ℕ) (place : ℕ) → is_script_mark b ≡ true → script_scan_from 0 place (b ∷ behind) ≡ with_token (plain_token place (mark_kind b) 0) (script_scan_from 0 (place + 1) behind)
mark_scanned b behind place e = token_past shapes.Mark place b [] behind (mark_piece b behind e)

-- What a piece of a text means.
use Rattle.std.proofs.Common.{◌≡◌, ◌≢◌, ℕ, suc, ◌+◌, ◌≤◌, Bool, true, false, List, [], ◌∷◌, ◌++◌, length, take, drop, refl, sym, ap, ◌∙◌, subst, inl, inr, arith, append_assoc, append-nil}
use Rattle.std.specs.Prelude.{IsUtf8, ◌||◌, ◌==◌, decimal}
use Rattle.std.specs.Char.{IsScalar, encode_utf8}
use Rattle.std.proofs.lemmas.Bool.{cases_Bool, cases_eq, eqb-true, eqb-false, eq-eqb, ne_eqb, false_from_ne_true}
use Rattle.std.proofs.lemmas.Bool.Decides.{nat_tests}
use Rattle.std.proofs.lemmas.List.{length_push, length-append, take-append-drop, length-take-le}
use Rattle.std.proofs.Math.Seq.{drop-append_seam}
use Rattle.dx_tokens.specs.declared.faults.TextKind.{TextKind}
use Rattle.dx_tokens.specs.declared.faults.TextKind.TheVariants.{Character, Ended}
use Rattle.dx_tokens.specs.Tokens.{is_blank, is_digit, is_word_start, is_word_byte, run}
use Rattle.dx_tokens.specs.Lexing.{IsWord}
use Rattle.dx_tokens.proofs.Forms.{prefix_split}
use Rattle.dx_tokens.proofs.Lexed.{StopsAt, run_is}
use Rattle.dx_tokens.proofs.Spelled.{all_from}
use Rattle.dx_tokens.proofs.Meanings.{run_at_least, word_more}
use Rattle.dx_script_tokens.specs.declared.pieces.Shape.{Shape}
use Rattle.dx_script_tokens.specs.declared.pieces.Shape.TheVariants.{Word, Number, Name, Text, Mark}
use Rattle.dx_script_tokens.specs.declared.pieces.Piece.TheVariants as pieces
use Rattle.dx_script_tokens.specs.Numbers.{number_at}
use Rattle.dx_script_tokens.specs.Kinds.{is_script_mark}
use Rattle.dx_script_tokens.specs.Pieces.{name_at, script_piece_at, text_from}
use Rattle.dx_script_tokens.specs.Quoted.{doubled}
use Rattle.dx_script_tokens.specs.Lexing.{IsNameText, IsScriptTokenText, IsLongestScriptToken, EndsText, BeginsNoScriptToken, IsNameFront, can_follow, BeginsNoCharacter, BeginsScriptFault, no_token, bad_name, cut_name, bad_text, cut_text}
use Rattle.dx_script_tokens.proofs.Decimal.{decimal_read}
use Rattle.dx_script_tokens.proofs.Numerals.{number_form, number_front}
use Rattle.dx_script_tokens.proofs.QuotedTexts.{is_quote, quote_doubled, quote_ends, quoted_read, text_passed}
use Rattle.dx_script_tokens.proofs.Standing.{mark_piece, name_piece, word_piece}
use Rattle.dx_script_tokens.proofs.TextEnds.{TextMeans, whole, faulty, cut_off, text_means, none_is_fault, cut_is_cut}
use Rattle.dx_script_tokens.proofs.Utf8.{text_read}

-- ---- what stands at a byte

pub blank_piece : (b : ℕ) (rest : List ℕ) → is_blank b ≡ true → script_piece_at b rest ≡ pieces.Blank
unfolding script_piece_at
blank_piece b rest e = rw e refl

word_at : (b : ℕ) (rest : List ℕ) → is_word_start b ≡ true → script_piece_at b rest ≡ pieces.Token Word (1 + run is_word_byte rest)
unfolding script_piece_at
word_at b rest e = let n : is_blank b ≡ false = grind (arith, nat_tests) in rw (n, e) refl

digit_at : (b : ℕ) (rest : List ℕ) → is_digit b ≡ true → script_piece_at b rest ≡ pieces.Token Number (number_at b rest).0
unfolding script_piece_at
digit_at b rest e =
    let n : is_blank b ≡ false = grind (arith, nat_tests) in
    let m : is_word_start b ≡ false = grind (arith, nat_tests) in
    rw (n, m, e) refl

name_is : (rest : List ℕ) → script_piece_at 34 rest ≡ name_at rest
unfolding script_piece_at
name_is rest = refl

text_is : (rest : List ℕ) → script_piece_at 39 rest ≡ text_from 0 1 rest
unfolding script_piece_at
text_is rest = refl

other_fault : (b : ℕ) (rest : List ℕ) → is_blank b ≡ false → is_word_start b ≡ false → is_digit b ≡ false → is_script_mark b ≡ false → (b == 34) ≡ false → (b == 39) ≡ false → script_piece_at b rest ≡ pieces.Fault 0
unfolding script_piece_at
other_fault b rest p q r s t u = rw (p, q, r, s, t, u) refl

-- ---- tokens

-- what stands after a token does not lengthen it
abbrev pub StopsBehind : Shape → List ℕ → List ℕ → Type 0
StopsBehind Word w after = StopsAt is_word_byte after
StopsBehind Number w after = (b : ℕ) (rest : List ℕ) → b ∷ rest ≡ w ++ after → (number_at b rest).0 ≡ length w
StopsBehind Text w after = StopsAt is_quote after
StopsBehind _ w after = Unit {0}

-- the first byte of a token
pub record HasFirst (w : List ℕ) : Type 0 where
  pub first : ℕ
  pub others : List ℕ
  pub splits : w ≡ first ∷ others

pub token_first : (shape : Shape) (w : List ℕ) → IsScriptTokenText shape w → HasFirst w
token_first Word [] form = absurd form
token_first Word (b ∷ bs) form = record { first = b; others = bs; splits = refl }
token_first Number [] form = nothing form.0 form.1 form.2
  where
    nothing : (n : ℕ) → n ≤ 4294967295 → [] ≡ decimal n → HasFirst []
    nothing n le e = let d = decimal_read n le in let s = d.splits in absurd (cc)
token_first Number (b ∷ bs) form = record { first = b; others = bs; splits = refl }
token_first Name w form = record { first = 34; others = form.0 ++ 34 ∷ []; splits = form.2 }
token_first Text w form = record { first = 39; others = doubled form.0 ++ 39 ∷ []; splits = form.2 }
token_first Mark w form = record { first = form.0; others = []; splits = form.2 }

-- a name is read at its quotation mark
name_read : (name after : List ℕ) → IsNameText name → script_piece_at 34 ((name ++ 34 ∷ []) ++ after) ≡ pieces.Token Name (suc (length (name ++ 34 ∷ [])))
name_read [] after h = absurd h
name_read (c ∷ cs) after h = name_piece c cs after (h.0, all_from is_word_byte cs h.1)

-- a token that is spelled is the piece that stands there
pub token_piece : (shape : Shape) (w after : List ℕ) (b : ℕ) (rest : List ℕ) → IsScriptTokenText shape w → StopsBehind shape w after → b ∷ rest ≡ w ++ after → script_piece_at b rest ≡ pieces.Token shape (length w)
token_piece Word [] after b rest form stops e = absurd form
token_piece Word (c ∷ cs) after b rest form stops e =
    let first : b ≡ c = cc in
    let others : rest ≡ cs ++ after = cc in
    rw (first, others) (word_piece c cs after form.0 (all_from is_word_byte cs form.1) stops)
token_piece Number w after b rest form stops e =
    let f = number_front form.0 after b rest form.1 (e ∙ ap (λ (x : List ℕ). x ++ after) form.2) in
    digit_at b rest f.0 ∙ ap (λ (n : ℕ). pieces.Token Number n) (stops b rest e)
token_piece Name w after b rest form stops e =
    let both : b ∷ rest ≡ 34 ∷ ((form.0 ++ 34 ∷ []) ++ after) = e ∙ ap (λ (x : List ℕ). x ++ after) form.2 in
    let first : b ≡ 34 = cc in
    let others : rest ≡ (form.0 ++ 34 ∷ []) ++ after = cc in
    rw (first, others) (name_read form.0 after form.1 ∙ ap (λ (n : ℕ). pieces.Token Name n) (sym (ap length form.2)))
token_piece Text w after b rest form stops e =
    let both : b ∷ rest ≡ 39 ∷ ((doubled form.0 ++ 39 ∷ []) ++ after) = e ∙ ap (λ (x : List ℕ). x ++ after) form.2 in
    let first : b ≡ 39 = cc in
    let others : rest ≡ (doubled form.0 ++ 39 ∷ []) ++ after = cc in
    let size : 1 + suc (length (doubled form.0)) ≡ length w = omega (arith, ap length form.2, length-append (doubled form.0) (39 ∷ [])) in
    rw (first, others) (text_is ((doubled form.0 ++ 39 ∷ []) ++ after) ∙ ap (text_from 0 1) (append_assoc (doubled form.0) (39 ∷ []) after) ∙ quoted_read form.0 form.1 after stops ∙ ap (λ (n : ℕ). pieces.Token Text n) size)
token_piece Mark w after b rest form stops e =
    let both : b ∷ rest ≡ form.0 ∷ after = e ∙ ap (λ (x : List ℕ). x ++ after) form.2 in
    let first : b ≡ form.0 = cc in
    let size : 1 ≡ length w = sym (ap length form.2) in
    rw first (mark_piece form.0 rest form.1 ∙ ap (λ (n : ℕ). pieces.Token Mark n) size)

size_of : (s t : Shape) (m n : ℕ) → pieces.Token s m ≡ pieces.Token t n → m ≡ n
size_of s t m n e = cc

-- a text at the front is no longer than the token that is read there
text_no_longer : (text after : List ℕ) (shape : Shape) (len : ℕ) → IsUtf8 text → text_from 0 1 (doubled text ++ 39 ∷ after) ≡ pieces.Token shape len → 2 + length (doubled text) ≤ len
text_no_longer text [] shape len u e =
    let here = sym (text_passed text u 1 (39 ∷ []) ∙ quote_ends (1 + length (doubled text)) [] tt) ∙ e in
    let s = size_of Text shape (1 + length (doubled text) + 1) len here in
    omega (arith, s)
text_no_longer text (c ∷ after) shape len u e = elim (cases_eq c 39) [
  | inl q ↦
      let on : text_from 0 (1 + length (doubled text) + 2) after ≡ pieces.Token shape len =
      sym (text_passed text u 1 (39 ∷ c ∷ after) ∙ (ap (λ (x : ℕ). text_from 0 (1 + length (doubled text)) (39 ∷ x ∷ after)) q ∙ quote_doubled (1 + length (doubled text)) after)) ∙ e in
      let t = text_read (length after) (1 + length (doubled text) + 2) after shape len (omega arith) on in
      let s = t.size in
      omega (arith, s)
  | inr n ↦
      let here = sym (text_passed text u 1 (39 ∷ c ∷ after) ∙ quote_ends (1 + length (doubled text)) (c ∷ after) (ne_eqb c 39 n)) ∙ e in
      let s = size_of Text shape (1 + length (doubled text) + 1) len here in
      omega (arith, s)
]

-- a token at the front is no longer than the token that is read there
front_short : (kind shape : Shape) (w after : List ℕ) (b : ℕ) (rest : List ℕ) (len : ℕ) → IsScriptTokenText kind w → b ∷ rest ≡ w ++ after → script_piece_at b rest ≡ pieces.Token shape len → length w ≤ len
front_short Word shape [] after b rest len form e p = absurd form
front_short Word shape (c ∷ cs) after b rest len form e p =
    let first : c ≡ b = cc in
    let others : rest ≡ cs ++ after = cc in
    let start : is_word_start b ≡ true = rw (← first) form.0 in
    let least : length cs ≤ run is_word_byte rest = rw others (run_at_least is_word_byte cs after (all_from is_word_byte cs form.1)) in
    let s = size_of Word shape (1 + run is_word_byte rest) len (sym (word_at b rest start) ∙ p) in
    omega (arith, least, s)
front_short Number shape w after b rest len form e p =
    let f = number_front form.0 after b rest form.1 (e ∙ ap (λ (x : List ℕ). x ++ after) form.2) in
    let s = size_of Number shape (number_at b rest).0 len (sym (digit_at b rest f.0) ∙ p) in
    let long = f.1 in
    let same = ap length form.2 in
    omega (arith, long, s, same)
front_short Name shape w after b rest len form e p =
    let s = size_of Name shape (length w) len (sym (token_piece Name w after b rest form tt e) ∙ p) in omega (arith, s)
front_short Text shape w after b rest len form e p =
    let both : b ∷ rest ≡ 39 ∷ ((doubled form.0 ++ 39 ∷ []) ++ after) = e ∙ ap (λ (x : List ℕ). x ++ after) form.2 in
    let first : b ≡ 39 = cc in
    let others : rest ≡ (doubled form.0 ++ 39 ∷ []) ++ after = cc in
    let size : 2 + length (doubled form.0) ≡ length w = omega (arith, ap length form.2, length-append (doubled form.0) (39 ∷ [])) in
    let at_quote : script_piece_at 39 rest ≡ pieces.Token shape len = subst (λ (x : ℕ). script_piece_at x rest ≡ pieces.Token shape len) first p in
    let read : text_from 0 1 (doubled form.0 ++ 39 ∷ after) ≡ pieces.Token shape len =
    ap (text_from 0 1) (sym (others ∙ append_assoc (doubled form.0) (39 ∷ []) after)) ∙ (sym (text_is rest) ∙ at_quote) in
    let h = text_no_longer form.0 after shape len form.1 read in
    omega (arith, h, size)
front_short Mark shape w after b rest len form e p =
    let s = size_of Mark shape (length w) len (sym (token_piece Mark w after b rest form tt e) ∙ p) in omega (arith, s)

-- a token that nothing lengthens is as long as it can be
pub longest : (shape : Shape) (w after : List ℕ) (b : ℕ) (rest : List ℕ) → IsScriptTokenText shape w → StopsBehind shape w after → b ∷ rest ≡ w ++ after → IsLongestScriptToken w (b ∷ rest)
longest shape w after b rest form stops e kind longer more is split =
    front_short kind shape longer more b rest (length w) is split (token_piece shape w after b rest form stops e)

-- and after it stands no quote that is doubled
pub stops_ends : (shape : Shape) (w after : List ℕ) → StopsBehind shape w after → EndsText shape after
stops_ends Word w after s = tt
stops_ends Number w after s = tt
stops_ends Name w after s = tt
stops_ends Text w [] s = tt
stops_ends Text w (b ∷ after) s = λ e. (let t = eq-eqb b 39 e in absurd (cc))
stops_ends Mark w after s = tt

one_longer : (w rest left : List ℕ) (c : ℕ) → left ≡ w ++ c ∷ rest → IsLongestScriptToken w left → ¬ (IsWord (w ++ c ∷ []))
one_longer w rest left c e long form =
    let more : length (w ++ c ∷ []) ≤ length w = long Word (w ++ c ∷ []) rest form (e ∙ sym (append_assoc w (c ∷ []) rest)) in
    absurd (omega (arith, more, length_push w c))

-- after a token that is as long as it can be stands nothing that lengthens it
pub longest_stops : (shape : Shape) (w after left : List ℕ) → IsScriptTokenText shape w → left ≡ w ++ after → IsLongestScriptToken w left → EndsText shape after → StopsBehind shape w after
longest_stops Word w [] left form e long ends = tt
longest_stops Word w (c ∷ after) left form e long ends = false_from_ne_true (is_word_byte c) (λ t. one_longer w after left c e long (word_more w c form t))
longest_stops Number w after left form e long ends = λ b rest split.
    let f = number_front form.0 after b rest form.1 (split ∙ ap (λ (x : List ℕ). x ++ after) form.2) in
    let n = number_form b rest f.0 in
    let len : ℕ = (number_at b rest).0 in
    let low = f.1 in
    let same = ap length form.2 in
    let high = long Number (take len (b ∷ rest)) (drop len (b ∷ rest)) n.form (e ∙ (sym split ∙ sym (take-append-drop len (b ∷ rest)))) in
    let within = n.within in
    let size = length-take-le len (b ∷ rest) (omega (arith, within)) in
    omega (arith, low, same, high, size)
longest_stops Name w after left form e long ends = tt
longest_stops Text w [] left form e long ends = tt
longest_stops Text w (b ∷ after) left form e long ends = ne_eqb b 39 ends
longest_stops Mark w after left form e long ends = tt

-- ---- faults

-- the piece of a fault
abbrev pub FaultyPiece : ℕ → List ℕ → ℕ → TextKind → Type 0
FaultyPiece b rest offset Character = script_piece_at b rest ≡ pieces.Fault offset
FaultyPiece b rest offset Ended = (script_piece_at b rest ≡ pieces.Cut) × (offset ≡ 1 + length rest)
FaultyPiece b rest offset kind = ⊥

-- no token is read where the piece is a fault
no_token_at : (b : ℕ) (rest : List ℕ) → b ≢ 34 → b ≢ 39 → script_piece_at b rest ≡ pieces.Fault 0 → (shape : Shape) (w after : List ℕ) → IsScriptTokenText shape w → ¬ (b ∷ rest ≡ w ++ after)
no_token_at b rest m n h Word [] after form e = form
no_token_at b rest m n h Word (c ∷ cs) after form e =
    let first : c ≡ b = cc in
    let p = word_at b rest (rw (← first) form.0) in absurd (cc)
no_token_at b rest m n h Number w after form e =
    let f = number_front form.0 after b rest form.1 (e ∙ ap (λ (x : List ℕ). x ++ after) form.2) in
    let p = digit_at b rest f.0 in absurd (cc)
no_token_at b rest m n h Name w after form e =
    let both : b ∷ rest ≡ 34 ∷ ((form.0 ++ 34 ∷ []) ++ after) = e ∙ ap (λ (x : List ℕ). x ++ after) form.2 in
    m (let first : b ≡ 34 = cc in first)
no_token_at b rest m n h Text w after form e =
    let both : b ∷ rest ≡ 39 ∷ ((doubled form.0 ++ 39 ∷ []) ++ after) = e ∙ ap (λ (x : List ℕ). x ++ after) form.2 in
    n (let first : b ≡ 39 = cc in first)
no_token_at b rest m n h Mark w after form e = let p = token_piece Mark w after b rest form tt e in absurd (cc)

fault_nothing : (b : ℕ) (rest : List ℕ) → b ≢ 34 → b ≢ 39 → script_piece_at b rest ≡ pieces.Fault 0 → BeginsNoScriptToken (b ∷ rest)
fault_nothing b rest m n h = record {
  some_left = λ e. absurd (cc);
  no_blank = λ c more t e. (let first : c ≡ b = cc in let p : script_piece_at b rest ≡ pieces.Blank = blank_piece b rest (rw (← first) t) in absurd (cc));
  no_token = λ shape w more form e. absurd (no_token_at b rest m n h shape w more form e);
  no_name = λ more e. m (let first : b ≡ 34 = cc in first);
  no_text = λ more e. n (let first : b ≡ 39 = cc in first);
}

-- ---- names

first_is : (b : ℕ) (more : List ℕ) → can_follow [] b ≡ false → name_at (b ∷ more) ≡ pieces.Fault 1
first_is b more e = let f : (b == 35 || is_word_byte b) ≡ false = e in rw f refl

later_is : (c : ℕ) (cs : List ℕ) (b : ℕ) (more : List ℕ) → IsNameText (c ∷ cs) → can_follow (c ∷ cs) b ≡ false → name_at (c ∷ (cs ++ b ∷ more)) ≡ pieces.Fault (2 + length cs)
later_is c cs b more h e =
    let p = or_parts (b == 34) (is_word_byte b) e in
    rw (h.0, run_is is_word_byte cs (b ∷ more) (all_from is_word_byte cs h.1) p.1, drop-append_seam cs (b ∷ more), p.0) refl
  where
    or_parts : (s t : Bool) → (s || t) ≡ false → (s ≡ false) × (t ≡ false)
    or_parts true t e = absurd (cc)
    or_parts false t e = (refl, e)

ends_is : (c : ℕ) (cs : List ℕ) → IsNameText (c ∷ cs) → name_at (c ∷ cs) ≡ pieces.Cut
ends_is c cs h = ap (λ (x : List ℕ). name_at (c ∷ x)) (sym (append-nil cs)) ∙ cut_after
  where
    cut_after : name_at (c ∷ (cs ++ [])) ≡ pieces.Cut
    cut_after = rw (h.0, run_is is_word_byte cs [] (all_from is_word_byte cs h.1) tt, drop-append_seam cs []) refl

bad_name_piece : (front : List ℕ) (c : ℕ) (more : List ℕ) → IsNameFront front → can_follow front c ≡ false → name_at (front ++ c ∷ more) ≡ pieces.Fault (1 + length front)
bad_name_piece [] c more h e = first_is c more e
bad_name_piece (d ∷ ds) c more h e = later_is d ds c more h e ∙ ap (λ (k : ℕ). pieces.Fault k) (omega arith)

cut_name_piece : (front : List ℕ) → IsNameFront front → name_at front ≡ pieces.Cut
cut_name_piece [] h = refl
cut_name_piece (c ∷ cs) h = ends_is c cs h

-- ---- each fault is the piece that stands there

bad_name_faulty : (front : List ℕ) (c : ℕ) (more : List ℕ) (b : ℕ) (rest : List ℕ) → IsNameFront front → b ∷ rest ≡ 34 ∷ (front ++ c ∷ more) → can_follow front c ≡ false → FaultyPiece b rest (1 + length front) Character
bad_name_faulty front c more b rest h e f =
    let first : b ≡ 34 = cc in
    let others : rest ≡ front ++ c ∷ more = cc in
    rw (first, others) (name_is (front ++ c ∷ more) ∙ bad_name_piece front c more h f)

cut_name_faulty : (front : List ℕ) (b : ℕ) (rest : List ℕ) → IsNameFront front → b ∷ rest ≡ 34 ∷ front → FaultyPiece b rest (length (b ∷ rest)) Ended
cut_name_faulty front b rest h e =
    let first : b ≡ 34 = cc in
    let others : rest ≡ front = cc in
    let p : script_piece_at b rest ≡ pieces.Cut = rw (first, others) (name_is front ∙ cut_name_piece front h) in
    (p, omega arith)

bad_text_faulty : (text behind : List ℕ) (b : ℕ) (rest : List ℕ) → IsUtf8 text → b ∷ rest ≡ 39 ∷ (doubled text ++ behind) → BeginsNoCharacter behind → FaultyPiece b rest (1 + length (doubled text)) Character
bad_text_faulty text behind b rest u e none =
    let first : b ≡ 39 = cc in
    let others : rest ≡ doubled text ++ behind = cc in
    rw (first, others) (text_is (doubled text ++ behind) ∙ text_passed text u 1 behind ∙ none_is_fault (1 + length (doubled text)) behind none)

cut_text_faulty : (text behind more : List ℕ) (c b : ℕ) (rest : List ℕ) → IsUtf8 text → b ∷ rest ≡ 39 ∷ (doubled text ++ behind) → IsScalar c → behind ++ more ≡ encode_utf8 c → more ≢ [] → FaultyPiece b rest (length (b ∷ rest)) Ended
cut_text_faulty text behind more c b rest u e ok f n =
    let first : b ≡ 39 = cc in
    let others : rest ≡ doubled text ++ behind = cc in
    let p : script_piece_at b rest ≡ pieces.Cut = rw (first, others) (text_is (doubled text ++ behind) ∙ text_passed text u 1 behind ∙ cut_is_cut (1 + length (doubled text)) c behind more ok f n) in
    (p, omega arith)

-- ---- what a piece means

pub data PieceMeans (b : ℕ) (rest : List ℕ) : Type 0 where
  blank : is_blank b ≡ true → PieceMeans b rest
  token : (shape : Shape) (w after : List ℕ) → IsScriptTokenText shape w → StopsBehind shape w after → b ∷ rest ≡ w ++ after → PieceMeans b rest
  fault : (offset : ℕ) (kind : TextKind) → BeginsScriptFault (b ∷ rest) offset kind → FaultyPiece b rest offset kind → PieceMeans b rest

word_means : (b : ℕ) (rest : List ℕ) → is_word_start b ≡ true → PieceMeans b rest
word_means b rest t = let r = prefix_split is_word_byte rest in token Word (b ∷ r.front) r.after (t, r.pass) r.stops (ap (λ (x : List ℕ). b ∷ x) r.splits)

number_means : (b : ℕ) (rest : List ℕ) → is_digit b ≡ true → PieceMeans b rest
number_means b rest t =
    let n = number_form b rest t in
    let within = n.within in
    let len : ℕ = (number_at b rest).0 in
    let size : length (take len (b ∷ rest)) ≡ len = length-take-le len (b ∷ rest) (omega (arith, within)) in
    let cut : b ∷ rest ≡ take len (b ∷ rest) ++ drop len (b ∷ rest) = sym (take-append-drop len (b ∷ rest)) in
    token Number (take len (b ∷ rest)) (drop len (b ∷ rest)) n.form
    (λ c more e. (let both : c ∷ more ≡ b ∷ rest = e ∙ sym cut in let first : c ≡ b = cc in let others : more ≡ rest = cc in rw (first, others) (sym size))) cut

bad_name_means : (front : List ℕ) (c : ℕ) (more rest : List ℕ) → IsNameFront front → rest ≡ front ++ c ∷ more → can_follow front c ≡ false → PieceMeans 34 rest
bad_name_means front c more rest h e f =
    let q : 34 ∷ rest ≡ 34 ∷ (front ++ c ∷ more) = ap (λ (x : List ℕ). 34 ∷ x) e in
    fault (1 + length front) Character (bad_name front c more h q f) (bad_name_faulty front c more 34 rest h q f)

cut_name_means : (front rest : List ℕ) → IsNameFront front → rest ≡ front → PieceMeans 34 rest
cut_name_means front rest h e =
    let q : 34 ∷ rest ≡ 34 ∷ front = ap (λ (x : List ℕ). 34 ∷ x) e in
    fault (length (34 ∷ rest)) Ended (cut_name front h q) (cut_name_faulty front 34 rest h q)

name_goes : (c : ℕ) (front after rest : List ℕ) → IsNameText (c ∷ front) → StopsAt is_word_byte after → rest ≡ c ∷ (front ++ after) → PieceMeans 34 rest
name_goes c front [] rest h s e = cut_name_means (c ∷ front) rest h (e ∙ ap (λ (x : List ℕ). c ∷ x) (append-nil front))
name_goes c front (d ∷ after) rest h s e = elim (cases_Bool (d == 34)) [
  | inl t ↦
      token Name (34 ∷ ((c ∷ front) ++ 34 ∷ [])) after (c ∷ front, h, refl) tt
      (ap (λ (x : List ℕ). 34 ∷ x) (e ∙ (ap (λ (x : ℕ). c ∷ (front ++ x ∷ after)) (eqb-true d 34 t) ∙ sym (append_assoc (c ∷ front) (34 ∷ []) after))))
  | inr f ↦ bad_name_means (c ∷ front) d after rest h e (rw (f, s) refl)
]

name_means : (rest : List ℕ) → PieceMeans 34 rest
name_means [] = cut_name_means [] [] tt refl
name_means (c ∷ rest) = elim (cases_Bool (c == 35 || is_word_byte c)) [
  | inl t ↦ let r = prefix_split is_word_byte rest in name_goes c r.front r.after (c ∷ rest) (t, r.pass) r.stops (ap (λ (x : List ℕ). c ∷ x) r.splits)
  | inr f ↦ bad_name_means [] c rest (c ∷ rest) tt refl f
]

text_piece_means : (rest : List ℕ) → TextMeans rest → PieceMeans 39 rest
text_piece_means rest (whole text after u s e) =
    token Text (39 ∷ (doubled text ++ 39 ∷ [])) after (text, u, refl) s (ap (λ (x : List ℕ). 39 ∷ x) (e ∙ sym (append_assoc (doubled text) (39 ∷ []) after)))
text_piece_means rest (faulty text behind u e none) =
    let q : 39 ∷ rest ≡ 39 ∷ (doubled text ++ behind) = ap (λ (x : List ℕ). 39 ∷ x) e in
    fault (1 + length (doubled text)) Character (bad_text text behind u q none) (bad_text_faulty text behind 39 rest u q none)
text_piece_means rest (cut_off text behind more c u e ok f n) =
    let q : 39 ∷ rest ≡ 39 ∷ (doubled text ++ behind) = ap (λ (x : List ℕ). 39 ∷ x) e in
    fault (length (39 ∷ rest)) Ended (cut_text text behind more c u q ok f n) (cut_text_faulty text behind more c 39 rest u q ok f n)

pub piece_means : (b : ℕ) (rest : List ℕ) → PieceMeans b rest
piece_means b rest =
    elim (cases_Bool (is_blank b)) [
      | inl t ↦ blank t
      | inr p ↦ elim (cases_Bool (is_word_start b)) [
        | inl t ↦ word_means b rest t
        | inr q ↦ elim (cases_Bool (is_digit b)) [
          | inl t ↦ number_means b rest t
          | inr r ↦ elim (cases_Bool (is_script_mark b)) [
            | inl t ↦ token Mark (b ∷ []) rest (b, t, refl) tt refl
            | inr s ↦ elim (cases_Bool (b == 34)) [
              | inl t ↦ subst (λ (x : ℕ). PieceMeans x rest) (sym (eqb-true b 34 t)) (name_means rest)
              | inr u ↦ elim (cases_Bool (b == 39)) [
                | inl t ↦ subst (λ (x : ℕ). PieceMeans x rest) (sym (eqb-true b 39 t)) (text_piece_means rest (text_means rest))
                | inr v ↦
                    let f = other_fault b rest p q r s u v in
                    fault 0 Character (no_token (fault_nothing b rest (eqb-false b 34 u) (eqb-false b 39 v) f)) f
              ]
            ]
          ]
        ]
      ]
    ]

from_fault : (b : ℕ) (rest : List ℕ) (offset : ℕ) (kind : TextKind) → BeginsNoScriptToken (b ∷ rest) → BeginsScriptFault (b ∷ rest) offset kind → FaultyPiece b rest offset kind → script_piece_at b rest ≡ pieces.Fault 0
from_fault b rest offset kind none (no_token n) p = p
from_fault b rest offset kind none (bad_name front c more h e f) p = absurd (none.no_name (front ++ c ∷ more) e)
from_fault b rest offset kind none (cut_name front h e) p = absurd (none.no_name front e)
from_fault b rest offset kind none (bad_text text behind u e n) p = absurd (none.no_text (doubled text ++ behind) e)
from_fault b rest offset kind none (cut_text text behind more c u e ok f n) p = absurd (none.no_text (doubled text ++ behind) e)

nothing_fault : (b : ℕ) (rest : List ℕ) → BeginsNoScriptToken (b ∷ rest) → script_piece_at b rest ≡ pieces.Fault 0
nothing_fault b rest none = go (piece_means b rest)
  where
    go : PieceMeans b rest → script_piece_at b rest ≡ pieces.Fault 0
    go (blank t) = absurd (none.no_blank b rest t refl)
    go (token shape w after form stops e) = absurd (none.no_token shape w after form e)
    go (fault offset kind f p) = from_fault b rest offset kind none f p

-- a fault is the piece that stands there
pub faulty_piece : (b : ℕ) (rest : List ℕ) (offset : ℕ) (kind : TextKind) → BeginsScriptFault (b ∷ rest) offset kind → FaultyPiece b rest offset kind
faulty_piece b rest offset kind (no_token none) = nothing_fault b rest none
faulty_piece b rest offset kind (bad_name front c more h e f) = bad_name_faulty front c more b rest h e f
faulty_piece b rest offset kind (cut_name front h e) = cut_name_faulty front b rest h e
faulty_piece b rest offset kind (bad_text text behind u e none) = bad_text_faulty text behind b rest u e none
faulty_piece b rest offset kind (cut_text text behind more c u e ok f n) = cut_text_faulty text behind more c b rest u e ok f n

-- nothing is left, so nothing is at fault
pub none_left : (offset : ℕ) (kind : TextKind) → ¬ (BeginsScriptFault [] offset kind)
none_left offset kind (no_token none) = none.some_left refl
none_left offset kind (bad_name front c more h e f) = absurd (cc)
none_left offset kind (cut_name front h e) = absurd (cc)
none_left offset kind (bad_text text behind u e none) = absurd (cc)
none_left offset kind (cut_text text behind more c u e ok f n) = absurd (cc)

-- Tokens that can't be mistaken for each other.
use Rattle.std.proofs.Common.{◌≡◌, ℕ, true, false, List, refl, sym}
use Rattle.std.specs.Prelude.{nat_eq}
use Rattle.std.specs.Cmp.Lexicographic.{pointwise, same_text}
use Rattle.std.proofs.lemmas.Bool.{and_parts}
use Rattle.dx_tokens.specs.declared.tokenizer.TokenKind.{TokenKind}
use Rattle.dx_tokens.specs.declared.tokenizer.TokenKind.TheVariants.{Word, Number, Str, Mark}
use Rattle.dx_grammar.proofs.Verdicts.{KeptApart}
use Rattle.dx_schema_text.specs.Grammar.{is_word_kind, is_number_kind, is_string_kind, is_mark_kind, is_word, is_string, word_is, digit_is, mark_is}

mark_no_word : (k : TokenKind) → is_mark_kind k ≡ true → is_word_kind k ≡ false
mark_no_word Word e = absurd cc
mark_no_word Number e = refl
mark_no_word Str e = refl
mark_no_word Mark e = refl

word_no_mark : (k : TokenKind) → is_word_kind k ≡ true → is_mark_kind k ≡ false
word_no_mark Word e = refl
word_no_mark Number e = absurd cc
word_no_mark Str e = absurd cc
word_no_mark Mark e = absurd cc

string_no_word : (k : TokenKind) → is_string_kind k ≡ true → is_word_kind k ≡ false
string_no_word Word e = absurd cc
string_no_word Number e = absurd cc
string_no_word Str e = refl
string_no_word Mark e = absurd cc

word_no_string : (k : TokenKind) → is_word_kind k ≡ true → is_string_kind k ≡ false
word_no_string Word e = refl
word_no_string Number e = absurd cc
word_no_string Str e = absurd cc
word_no_string Mark e = absurd cc

pub apart_marks : (m n : List ℕ) → pointwise nat_eq m n ≡ false → KeptApart (mark_is m) (mark_is n)
apart_marks m n ne x e =
    let both = and_parts (is_mark_kind x.kind) (pointwise nat_eq x.text m) e in
    let is : x.text ≡ m = same_text x.text m (sym both.1) in
    rw (both.0, is) ne

pub apart_numbers : (m n : List ℕ) → pointwise nat_eq m n ≡ false → KeptApart (digit_is m) (digit_is n)
apart_numbers m n ne x e =
    let both = and_parts (is_number_kind x.kind) (pointwise nat_eq x.text m) e in
    let is : x.text ≡ m = same_text x.text m (sym both.1) in
    rw (both.0, is) ne

pub apart_words : (v w : List ℕ) → pointwise nat_eq v w ≡ false → KeptApart (word_is v) (word_is w)
apart_words v w ne x e =
    let both = and_parts (is_word x) (pointwise nat_eq x.text v) e in
    let is : x.text ≡ v = same_text x.text v (sym both.1) in
    rw (both.0, is) ne

pub apart_mark_word : (m w : List ℕ) → KeptApart (mark_is m) (word_is w)
apart_mark_word m w x e = rw (mark_no_word x.kind (and_parts (is_mark_kind x.kind) _ e).0) refl

pub apart_word_mark : (w m : List ℕ) → KeptApart (word_is w) (mark_is m)
apart_word_mark w m x e = rw (word_no_mark x.kind (and_parts (is_word x) _ e).0) refl

pub apart_any_word_string : KeptApart is_word is_string
apart_any_word_string x e = word_no_string x.kind e

pub apart_string_any_word : KeptApart is_string is_word
apart_string_any_word x e = string_no_word x.kind e

-- Tokens that are written one after the other are scanned so.
use Rattle.std.proofs.Common.{◌≡◌, ℕ, suc, ◌+◌, ◌≤◌, Bool, true, false, ◌&&◌, List, [], ◌∷◌, ◌++◌, map, length, flat_map, None, refl, sym, ap, ◌∙◌, subst, arith, append_assoc}
use Rattle.std.specs.Prelude.{IsUtf8, codes, decimal}
use Rattle.std.proofs.lemmas.List.{append-nil}
use Rattle.std.proofs.lemmas.Bool.{and_parts}
use Rattle.dx_base.specs.Members.{Each, here, there}
use Rattle.dx_tokens.specs.Tokens.{is_blank, is_digit, is_word_start, is_word_byte}
use Rattle.dx_tokens.proofs.Lexed.{AllPass, StopsAt}
use Rattle.dx_grammar.specs.Readers.{Many, no_more, one_more}
use Rattle.dx_grammar.specs.Lists.{Past, past_one, SpellsList, list_of}
use Rattle.dx_grammar.specs.Numbers.{SpellsNumbered, none_more, next_one}
use Rattle.dx_script_tokens.specs.declared.kinds.ScriptKind.{ScriptKind}
use Rattle.dx_script_tokens.specs.declared.kinds.ScriptKind.TheVariants as kinds
use Rattle.dx_script_tokens.specs.declared.scanner.ScriptToken.{ScriptToken}
use Rattle.dx_script_tokens.specs.declared.scanner.ScriptScan.{ScriptScan}
use Rattle.dx_script_tokens.specs.Numbers.{greatest_number}
use Rattle.dx_script_tokens.specs.Kinds.{numbered_word, small_word, inner_word, word_says, is_script_mark, mark_kind}
use Rattle.dx_script_tokens.specs.Scan.{plain_token, with_token, with_tokens, script_scan_from, script_scan_of}
use Rattle.dx_script_tokens.proofs.Standing.{IsWordOf, word_scanned, number_scanned, IsNameText, name_scanned, text_scanned, mark_scanned, blank_past}
use Rattle.dx_script_tokens.specs.Quoted.{doubled, single_quoted}
use Rattle.dx_script_text.specs.Print.{parted, texts_from, name_text}
use Rattle.dx_script_text.specs.Printable.{IsScriptName, OneOrMore}
use Rattle.dx_script_text.specs.Grammar.{is_comma, is_and}
use Rattle.dx_script_tokens.proofs.QuotedTexts.{is_quote, undoubled-doubled, quoted_read}

-- The text from this place on begins with tokens that have R, and more is after them.
pub record Reads (R : List ScriptToken → Type 0) (place : ℕ) (text more : List ℕ) : Type 0 where
  pub tokens : List ScriptToken
  pub after : ℕ
  pub scanned : script_scan_from 0 place text ≡ with_tokens tokens (script_scan_from 0 after more)
  pub has : R tokens

-- no word and no text goes on here
abbrev pub Ends : List ℕ → Type 0
Ends more = StopsAt is_word_byte more × StopsAt is_quote more

pub no_token : (R : List ScriptToken → Type 0) (place : ℕ) (more : List ℕ) → R [] → Reads R place more more
no_token R place more h = record { tokens = []; after = place; scanned = refl; has = h }

one_then : (R : List ScriptToken → Type 0) (x : ScriptToken) (text tail more : List ℕ) (place next : ℕ) → script_scan_from 0 place text ≡ with_token x (script_scan_from 0 next tail) → Reads (λ u. R (x ∷ u)) next tail more → Reads R place text more
one_then R x text tail more place next e on = record { tokens = x ∷ on.tokens; after = on.after; scanned = e ∙ ap (with_token x) on.scanned; has = on.has }

pub word_then : (R : List ScriptToken → Type 0) (w : List ℕ) (kind : ScriptKind) (number : ℕ) (tail more : List ℕ) (place : ℕ) → IsWordOf w kind number → StopsAt is_word_byte tail
    → Reads (λ u. R (plain_token place kind number ∷ u)) (place + length w) tail more → Reads R place (w ++ tail) more
word_then R w kind number tail more place is stops on = one_then R (plain_token place kind number) (w ++ tail) tail more place (place + length w) (word_scanned w kind number tail place is stops) on

pub number_then : (R : List ScriptToken → Type 0) (n : ℕ) (tail more : List ℕ) (place : ℕ) → n ≤ greatest_number → StopsAt is_digit tail
    → Reads (λ u. R (plain_token place kinds.Number n ∷ u)) (place + length (decimal n)) tail more → Reads R place (decimal n ++ tail) more
number_then R n tail more place le stops on = one_then R (plain_token place kinds.Number n) (decimal n ++ tail) tail more place (place + length (decimal n)) (number_scanned n tail place le stops) on

pub mark_then : (R : List ScriptToken → Type 0) (b : ℕ) (tail more : List ℕ) (place : ℕ) → is_script_mark b ≡ true → Reads (λ u. R (plain_token place (mark_kind b) 0 ∷ u)) (place + 1) tail more → Reads R place (b ∷ tail) more
mark_then R b tail more place is on = one_then R (plain_token place (mark_kind b) 0) (b ∷ tail) tail more place (place + 1) (mark_scanned b tail place is) on

pub blank_then : (R : List ScriptToken → Type 0) (b : ℕ) (tail more : List ℕ) (place : ℕ) → is_blank b ≡ true → Reads R (place + 1) tail more → Reads R place (b ∷ tail) more
blank_then R b tail more place is on = record { tokens = on.tokens; after = on.after; scanned = blank_past place b tail is ∙ on.scanned; has = on.has }

all_from : (bs : List ℕ) → Each bs (λ b. is_word_byte b ≡ true) → AllPass is_word_byte bs
all_from [] each = tt
all_from (b ∷ bs) each = (each b (here refl), all_from bs (λ c m. each c (there m)))

name_is : (name : List ℕ) → IsScriptName name → IsNameText name
name_is [] h = h
name_is (c ∷ rest) h = (h.0, all_from rest h.1)

pub name_then : (R : List ScriptToken → Type 0) (name tail more : List ℕ) (place : ℕ) → IsScriptName name
    → ((next : ℕ) → Reads (λ u. R (record { place = place; kind = kinds.Name; number = 0; text = name } ∷ u)) next tail more) → Reads R place (name_text name ++ tail) more
name_then R name tail more place is on = one_then R (record { place = place; kind = kinds.Name; number = 0; text = name }) (name_text name ++ tail) tail more place _ (name_scanned name tail place (name_is name is)) (on _)

pub text_then : (R : List ScriptToken → Type 0) (text tail more : List ℕ) (place : ℕ) → IsUtf8 text → StopsAt is_quote tail
    → ((next : ℕ) → Reads (λ u. R (record { place = place; kind = kinds.Text; number = 0; text = text } ∷ u)) next tail more) → Reads R place (single_quoted text ++ tail) more
text_then R text tail more place utf8 stops on =
    one_then R (record { place = place; kind = kinds.Text; number = 0; text = text }) (single_quoted text ++ tail) tail more place _ (text_scanned (doubled text) text tail place (quoted_read text utf8 tail stops) (undoubled-doubled text)) (on _)

-- what has S, and then the others
pub both_then : (S R : List ScriptToken → Type 0) (text tail more : List ℕ) (place : ℕ) → Reads S place text tail → ((u : List ScriptToken) (after : ℕ) → S u → Reads (λ v. R (u ++ v)) after tail more) → Reads R place text more
both_then S R text tail more place first on =
    let next = on first.tokens first.after first.has in
    record {
      tokens = first.tokens ++ next.tokens;
      after = next.after;
      scanned = first.scanned ∙ ap (with_tokens first.tokens) next.scanned ∙ ap (λ (xs : List ScriptToken). record { tokens = xs; stop = (script_scan_from 0 next.after more).stop }) (sym (append_assoc first.tokens next.tokens _));
      has = next.has;
    }

-- the same tokens, of which more is told
pub told_as : (S R : List ScriptToken → Type 0) (text more : List ℕ) (place : ℕ) → Reads S place text more → ((u : List ScriptToken) → S u → R u) → Reads R place text more
told_as S R text more place r f = record { tokens = r.tokens; after = r.after; scanned = r.scanned; has = f r.tokens r.has }

-- ---- words that stand for themselves

abbrev passes : (ℕ → Bool) → List ℕ → Bool
passes p [] = true
passes p (b ∷ bs) = p b && passes p bs

all_pass : (p : ℕ → Bool) (bs : List ℕ) → passes p bs ≡ true → AllPass p bs
all_pass p [] e = tt
all_pass p (b ∷ bs) e = let both = and_parts (p b) (passes p bs) e in (both.0, all_pass p bs both.1)

abbrev is_word_text : List ℕ → Bool
is_word_text [] = false
is_word_text (b ∷ bs) = is_word_start b && passes is_word_byte bs

keyword : (w : List ℕ) (kind : ScriptKind) → is_word_text w ≡ true → word_says w ≡ (kind, 0) → IsWordOf w kind 0
keyword [] kind e says = absurd cc
keyword (b ∷ bs) kind e says =
    let both = and_parts (is_word_start b) (passes is_word_byte bs) e in
    record { first = b; others = bs; splits = refl; starts = both.0; goes_on = all_pass is_word_byte bs both.1; says = says }

pub create_word : IsWordOf (codes "CREATE") kinds.Create 0
unfolding word_says inner_word small_word numbered_word
create_word = keyword (codes "CREATE") kinds.Create refl refl

pub table_word : IsWordOf (codes "TABLE") kinds.Table 0
unfolding word_says inner_word small_word numbered_word
table_word = keyword (codes "TABLE") kinds.Table refl refl

pub target_word : IsWordOf (codes "target") kinds.Target 0
unfolding word_says inner_word small_word numbered_word
target_word = keyword (codes "target") kinds.Target refl refl

pub source_word : IsWordOf (codes "source") kinds.Source 0
unfolding word_says inner_word small_word numbered_word
source_word = keyword (codes "source") kinds.Source refl refl

pub as_word : IsWordOf (codes "AS") kinds.As 0
unfolding word_says inner_word small_word numbered_word
as_word = keyword (codes "AS") kinds.As refl refl

pub select_word : IsWordOf (codes "SELECT") kinds.Select 0
unfolding word_says inner_word small_word numbered_word
select_word = keyword (codes "SELECT") kinds.Select refl refl

pub distinct_word : IsWordOf (codes "DISTINCT") kinds.Distinct 0
unfolding word_says inner_word small_word numbered_word
distinct_word = keyword (codes "DISTINCT") kinds.Distinct refl refl

pub from_word : IsWordOf (codes "FROM") kinds.From 0
unfolding word_says inner_word small_word numbered_word
from_word = keyword (codes "FROM") kinds.From refl refl

pub where_word : IsWordOf (codes "WHERE") kinds.Where 0
unfolding word_says inner_word small_word numbered_word
where_word = keyword (codes "WHERE") kinds.Where refl refl

pub and_word : IsWordOf (codes "AND") kinds.And 0
unfolding word_says inner_word small_word numbered_word
and_word = keyword (codes "AND") kinds.And refl refl

pub not_word : IsWordOf (codes "NOT") kinds.Not 0
unfolding word_says inner_word small_word numbered_word
not_word = keyword (codes "NOT") kinds.Not refl refl

pub exists_word : IsWordOf (codes "EXISTS") kinds.Exists 0
unfolding word_says inner_word small_word numbered_word
exists_word = keyword (codes "EXISTS") kinds.Exists refl refl

pub insert_word : IsWordOf (codes "INSERT") kinds.Insert 0
unfolding word_says inner_word small_word numbered_word
insert_word = keyword (codes "INSERT") kinds.Insert refl refl

pub into_word : IsWordOf (codes "INTO") kinds.Into 0
unfolding word_says inner_word small_word numbered_word
into_word = keyword (codes "INTO") kinds.Into refl refl

pub skolem_word : IsWordOf (codes "SKOLEM") kinds.Skolem 0
unfolding word_says inner_word small_word numbered_word
skolem_word = keyword (codes "SKOLEM") kinds.Skolem refl refl

pub place_word : IsWordOf (codes "place") kinds.Place 0
unfolding word_says inner_word small_word numbered_word
place_word = keyword (codes "place") kinds.Place refl refl

pub type_word : IsWordOf (codes "TEXT") kinds.Type 0
unfolding word_says inner_word small_word numbered_word
type_word = keyword (codes "TEXT") kinds.Type refl refl

pub own_word : IsWordOf (codes "m") kinds.Own 0
unfolding word_says inner_word small_word numbered_word
own_word = keyword (codes "m") kinds.Own refl refl

pub other_word : IsWordOf (codes "n") kinds.Other 0
unfolding word_says inner_word small_word numbered_word
other_word = keyword (codes "n") kinds.Other refl refl

-- ---- lists with a text between

-- what stands between items: one token that passes
pub record IsGap (p : ScriptToken → Bool) (between : List ℕ) : Type 1 where
  pub starts : (ys : List ℕ) → Ends (between ++ ys)
  pub gap : (R : List ScriptToken → Type 0) (tail more : List ℕ) (place : ℕ) → ((x : ScriptToken) (next : ℕ) → p x ≡ true → Reads (λ u. R (x ∷ u)) next tail more) → Reads R place (between ++ tail) more

pub comma_gap : IsGap is_comma (codes ", ")
comma_gap = record { starts = λ ys. (refl, refl); gap = λ R tail more place on. mark_then R 44 _ more place refl (blank_then _ 32 tail more _ refl (on _ _ refl)) }

pub and_gap : IsGap is_and (codes " AND ")
and_gap = record { starts = λ ys. (refl, refl); gap = λ R tail more place on. blank_then R 32 _ more place refl (word_then R (codes "AND") kinds.And 0 _ more _ and_word refl (blank_then _ 32 tail more _ refl (on _ _ refl))) }

module _ {A : Type 0} (p : ScriptToken → Bool) (between : List ℕ) (sep : IsGap p between) (f : A → List ℕ) (P : A → Type 0) (R : A → List ScriptToken → Type 0) (one : (x : A) (place : ℕ) (tail : List ℕ) → P x → Ends tail → Reads (R x) place (f x ++ tail) tail) where
  abbrev behind : List A → List ℕ
  behind xs = flat_map (λ other. between ++ other) (map f xs)

  ends_before : (xs : List A) (tail : List ℕ) → Ends tail → Ends (behind xs ++ tail)
  ends_before [] tail ends = ends
  ends_before (x ∷ xs) tail ends = subst Ends (sym (append_assoc (between ++ f x) (behind xs) tail ∙ append_assoc between (f x) (behind xs ++ tail))) (sep.starts (f x ++ (behind xs ++ tail)))

  others_read : (xs : List A) (place : ℕ) (tail : List ℕ) → Each xs P → Ends tail → Reads (Many (Past p R) xs) place (behind xs ++ tail) tail
  others_read [] place tail each ends = no_token _ place tail no_more
  others_read (x ∷ xs) place tail each ends =
      subst (λ (text : List ℕ). Reads (Many (Past p R) (x ∷ xs)) place text tail) (sym (append_assoc (between ++ f x) (behind xs) tail ∙ append_assoc between (f x) (behind xs ++ tail)))
      (sep.gap (Many (Past p R) (x ∷ xs)) (f x ++ (behind xs ++ tail)) tail place (λ t next e.
      both_then (R x) (λ u. Many (Past p R) (x ∷ xs) (t ∷ u)) (f x ++ (behind xs ++ tail)) (behind xs ++ tail) tail next (one x next (behind xs ++ tail) (each x (here refl)) (ends_before xs tail ends)) (λ u after h.
      told_as (Many (Past p R) xs) (λ v. Many (Past p R) (x ∷ xs) (t ∷ (u ++ v))) (behind xs ++ tail) tail after (others_read xs after tail (λ y m. each y (there m)) ends) (λ v m. one_more (past_one t e h) m))))

  pub list_read : (xs : List A) (place : ℕ) (tail : List ℕ) → OneOrMore P xs → Ends tail → Reads (SpellsList p R xs) place (parted between (map f xs) ++ tail) tail
  list_read [] place tail some ends = absurd (some.0 refl)
  list_read (x ∷ xs) place tail some ends =
      subst (λ (text : List ℕ). Reads (SpellsList p R (x ∷ xs)) place text tail) (sym (append_assoc (f x) (behind xs) tail))
      (both_then (R x) (SpellsList p R (x ∷ xs)) (f x ++ (behind xs ++ tail)) (behind xs ++ tail) tail place (one x place (behind xs ++ tail) (some.1 x (here refl)) (ends_before xs tail ends)) (λ u after h.
      told_as (Many (Past p R) xs) (λ v. SpellsList p R (x ∷ xs) (u ++ v)) (behind xs ++ tail) tail after (others_read xs after tail (λ y m. some.1 y (there m)) ends) (λ v m. list_of h m)))

-- the same with a number for each item
module _ {A : Type 0} (f : ℕ → A → List ℕ) (P : A → Type 0) (R : ℕ → A → List ScriptToken → Type 0) (one : (n : ℕ) (x : A) (place : ℕ) (tail : List ℕ) → n ≤ greatest_number → P x → Ends tail → Reads (R n x) place (f n x ++ tail) tail) where
  abbrev behind_from : ℕ → List A → List ℕ
  behind_from n xs = flat_map (λ other. codes ", " ++ other) (texts_from f n xs)

  ends_from : (n : ℕ) (xs : List A) (tail : List ℕ) → Ends tail → Ends (behind_from n xs ++ tail)
  ends_from n [] tail ends = ends
  ends_from n (x ∷ xs) tail ends = (refl, refl)

  pub numbered_read : (n : ℕ) (xs : List A) (place : ℕ) (tail : List ℕ) → n + length xs ≤ 4294967296 → Each xs P → Ends tail → Reads (SpellsNumbered (λ k. Past is_comma (R k)) n xs) place (behind_from n xs ++ tail) tail
  numbered_read n [] place tail room each ends = no_token _ place tail none_more
  numbered_read n (x ∷ xs) place tail room each ends =
      let rest : List ℕ = behind_from (suc n) xs ++ tail in
      subst (λ (text : List ℕ). Reads (SpellsNumbered (λ k. Past is_comma (R k)) n (x ∷ xs)) place text tail) (sym (append_assoc (codes ", " ++ f n x) (behind_from (suc n) xs) tail ∙ append_assoc (codes ", ") (f n x) rest))
      (comma_gap.gap (SpellsNumbered (λ k. Past is_comma (R k)) n (x ∷ xs)) (f n x ++ rest) tail place (λ t next e.
      both_then (R n x) (λ u. SpellsNumbered (λ k. Past is_comma (R k)) n (x ∷ xs) (t ∷ u)) (f n x ++ rest) rest tail next (one n x next rest (omega (arith, room)) (each x (here refl)) (ends_from (suc n) xs tail ends)) (λ u after h.
      told_as (SpellsNumbered (λ k. Past is_comma (R k)) (suc n) xs) (λ v. SpellsNumbered (λ k. Past is_comma (R k)) n (x ∷ xs) (t ∷ (u ++ v))) rest tail after (numbered_read (suc n) xs after tail (omega (arith, room)) (λ y m. each y (there m)) ends) (λ v m. next_one (past_one t e h) m))))

-- ---- a whole text

pub record ReadsAll (R : List ScriptToken → Type 0) (text : List ℕ) : Type 0 where
  pub no_stop : (script_scan_of text).stop ≡ None
  pub has : R (script_scan_of text).tokens

pub reads_all : (R : List ScriptToken → Type 0) (text : List ℕ) → Reads R 0 text [] → ReadsAll R text
unfolding script_scan_from
reads_all R text r =
    let e : script_scan_of text ≡ with_tokens r.tokens (record { tokens = []; stop = None }) = r.scanned in
    record {
      no_stop = ap (λ (s : ScriptScan). s.stop) e;
      has = subst R (sym (ap (λ (s : ScriptScan). s.tokens) e ∙ append-nil r.tokens)) r.has;
    }

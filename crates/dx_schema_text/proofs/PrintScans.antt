-- Tokens that are written one after the other are read so.
use Rattle.std.proofs.Common.{◌≡◌, ℕ, ◌+◌, Bool, true, false, ◌&&◌, inl, inr, List, [], ◌∷◌, ◌++◌, length, refl, sym, ap, ◌∙◌, subst, append_assoc, None}
use Rattle.std.specs.Prelude.{IsTrue}
use Rattle.std.proofs.lemmas.List.{append-nil}
use Rattle.std.proofs.lemmas.Bool.{and_parts}
use Rattle.dx_base.specs.Members.{here, there, Each}
use Rattle.dx_base.proofs.Members.{from_append}
use Rattle.dx_tokens.specs.declared.tokenizer.TokenKind.{TokenKind}
use Rattle.dx_tokens.specs.declared.tokenizer.TokenKind.TheVariants.{Word, Mark}
use Rattle.dx_tokens.specs.declared.scanner.Lexeme.{Lexeme}
use Rattle.dx_tokens.specs.declared.scanner.Scanned.{Scanned}
use Rattle.dx_tokens.specs.Tokens.{is_blank, is_word_start, is_word_byte}
use Rattle.dx_tokens.specs.Scan.{lexeme_text, with_lexeme, scan_from, scan_of}
use Rattle.dx_tokens.specs.Lexing.{IsWord, IsMark, IsTokenText}
use Rattle.dx_tokens.proofs.Spelled.{StopsBehind}
use Rattle.dx_tokens.proofs.PartScans.{token_scanned, blanks_scanned}

-- these lexemes, and then those of a scan
abbrev pub with_all : List Lexeme → Scanned → Scanned
with_all xs s = record { lexemes = xs ++ s.lexemes; stop = s.stop }

-- The text from this place on begins with lexemes that have R, and more is after them.
pub record Reads (R : List Lexeme → Type 0) (place : ℕ) (text more : List ℕ) : Type 0 where
  pub lexemes : List Lexeme
  pub after : ℕ
  pub scanned : scan_from 0 place text ≡ with_all lexemes (scan_from 0 after more)
  pub has : R lexemes

-- no word goes on here
abbrev pub EndsWord : List ℕ → Type 0
EndsWord more = StopsBehind Word more

abbrev pub lexeme : ℕ → TokenKind → List ℕ → Lexeme
lexeme place kind w = record { place = place; kind = kind; text = lexeme_text kind w }

pub no_token : (R : List Lexeme → Type 0) (place : ℕ) (more : List ℕ) → R [] → Reads R place more more
no_token R place more h = record { lexemes = []; after = place; scanned = refl; has = h }

pub token_then : (R : List Lexeme → Type 0) (kind : TokenKind) (w tail more : List ℕ) (place : ℕ) → IsTokenText kind w → StopsBehind kind tail
    → Reads (λ u. R (lexeme place kind w ∷ u)) (place + length w) tail more → Reads R place (w ++ tail) more
token_then R kind w tail more place is stops on = record {
  lexemes = lexeme place kind w ∷ on.lexemes;
  after = on.after;
  scanned = token_scanned kind w tail place is stops ∙ ap (with_lexeme (lexeme place kind w)) on.scanned;
  has = on.has;
}

pub word_then : (R : List Lexeme → Type 0) (w tail more : List ℕ) (place : ℕ) → IsWord w → EndsWord tail
    → Reads (λ u. R (lexeme place Word w ∷ u)) (place + length w) tail more → Reads R place (w ++ tail) more
word_then R w tail more place is stops on = token_then R Word w tail more place is stops on

pub mark_then : (R : List Lexeme → Type 0) (w tail more : List ℕ) (place : ℕ) → IsMark w
    → Reads (λ u. R (lexeme place Mark w ∷ u)) (place + length w) tail more → Reads R place (w ++ tail) more
mark_then R w tail more place is on = token_then R Mark w tail more place is tt on

pub blanks_then : (R : List Lexeme → Type 0) (bs tail more : List ℕ) (place : ℕ) → Each bs (λ b. IsTrue (is_blank b)) → Reads R (place + length bs) tail more → Reads R place (bs ++ tail) more
blanks_then R bs tail more place blank on = record { lexemes = on.lexemes; after = on.after; scanned = blanks_scanned bs tail place blank ∙ on.scanned; has = on.has }

-- what has S, and then the others
pub both_then : (S R : List Lexeme → Type 0) (text tail more : List ℕ) (place : ℕ) → Reads S place text tail → ((u : List Lexeme) (after : ℕ) → S u → Reads (λ v. R (u ++ v)) after tail more) → Reads R place text more
both_then S R text tail more place first on =
    let next = on first.lexemes first.after first.has in
    record {
      lexemes = first.lexemes ++ next.lexemes;
      after = next.after;
      scanned = first.scanned ∙ ap (with_all first.lexemes) next.scanned ∙ ap (λ (xs : List Lexeme). record { lexemes = xs; stop = (scan_from 0 next.after more).stop }) (sym (append_assoc first.lexemes next.lexemes _));
      has = next.has;
    }

-- the same lexemes, of which more is told
pub told_as : (S R : List Lexeme → Type 0) (text more : List ℕ) (place : ℕ) → Reads S place text more → ((u : List Lexeme) → S u → R u) → Reads R place text more
told_as S R text more place r f = record { lexemes = r.lexemes; after = r.after; scanned = r.scanned; has = f r.lexemes r.has }

-- ---- words and blanks that are written as they are

abbrev passes : (ℕ → Bool) → List ℕ → Bool
passes p [] = true
passes p (b ∷ bs) = p b && passes p bs

pub each_passes : (p : ℕ → Bool) (bs : List ℕ) → passes p bs ≡ true → Each bs (λ b. IsTrue (p b))
each_passes p [] e c m = elim m [ ]
each_passes p (b ∷ bs) e c (here is) = subst (λ (x : ℕ). IsTrue (p x)) is (and_parts (p b) (passes p bs) e).0
each_passes p (b ∷ bs) e c (there m) = each_passes p bs (and_parts (p b) (passes p bs) e).1 c m

abbrev is_word_text : List ℕ → Bool
is_word_text [] = false
is_word_text (b ∷ bs) = is_word_start b && passes is_word_byte bs

pub a_word : (w : List ℕ) → is_word_text w ≡ true → IsWord w
a_word [] e = absurd cc
a_word (b ∷ bs) e = ((and_parts (is_word_start b) (passes is_word_byte bs) e).0, each_passes is_word_byte bs (and_parts (is_word_start b) (passes is_word_byte bs) e).1)

pub each_append : (p : ℕ → Bool) (bs cs : List ℕ) → Each bs (λ b. IsTrue (p b)) → Each cs (λ b. IsTrue (p b)) → Each (bs ++ cs) (λ b. IsTrue (p b))
each_append p bs cs e f c m = elim (from_append bs m) [ inl l ↦ e c l | inr r ↦ f c r ]

-- a whole text
pub record ReadsAll (R : List Lexeme → Type 0) (text : List ℕ) : Type 0 where
  pub no_stop : (scan_of text).stop ≡ None
  pub has : R (scan_of text).lexemes

pub reads_all : (R : List Lexeme → Type 0) (text : List ℕ) → Reads R 0 text [] → ReadsAll R text
unfolding scan_from
reads_all R text r =
    let e : scan_of text ≡ with_all r.lexemes (record { lexemes = []; stop = None }) = r.scanned in
    record {
      no_stop = ap (λ s. s.stop) e;
      has = subst R (sym (ap (λ s. s.lexemes) e ∙ append-nil r.lexemes)) r.has;
    }

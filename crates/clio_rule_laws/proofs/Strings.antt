-- What a string says can stand in a string.
use Rattle.std.proofs.Common.{◌≡◌, ℕ, suc, ◌≤◌, ◌<◌, Bool, true, false, List, [], ◌∷◌, ◌++◌, length, get_or, inl, inr, refl, sym, ◌∙◌, subst, arith, append-nil}
use Rattle.std.specs.Prelude.{◌||◌, ◌==◌, if◌then◌else◌}
use Rattle.std.proofs.lemmas.Str.{inside_one}
use Rattle.std.specs.Char.{encode_utf8}
use Rattle.std.specs.List.{concat}
use Rattle.std.proofs.lemmas.Bool.{cases_lt}
use Rattle.dx_base.specs.Members.{◌∈◌, here, there, Each}
use Rattle.dx_base.proofs.Members.{from_append, in_left}
use Rattle.dx_tokens.specs.declared.tokenizer.TokenKind.TheVariants.{Str}
use Rattle.dx_tokens.specs.Scan.{lexeme_text}
use Rattle.dx_tokens.specs.Lexing.{IsCharacter, IsString}
use Rattle.dx_tokens.specs.Quoted.{escaped, quoted}
use Rattle.dx_tokens.proofs.Quotes.{strings_are_quoted}
use Rattle.dx_tokens.proofs.Forms.{token_utf8}
use Rattle.clio_rule_laws.specs.ReadBack.{IsStringText}

abbrev HaveNoControl : List ℕ → Type 0
HaveNoControl bs = Each bs (λ b. 32 ≤ b)

both_have : (xs ys : List ℕ) → HaveNoControl xs → HaveNoControl ys → HaveNoControl (xs ++ ys)
both_have xs ys h k b m = elim (from_append xs m) [ inl l ↦ h b l | inr r ↦ k b r ]

one_has : (b : ℕ) (bs : List ℕ) → 32 ≤ b → HaveNoControl bs → HaveNoControl (b ∷ bs)
one_has b bs low h c (here e) = omega (arith, e, low)
one_has b bs low h c (there m) = h c m

none_has : HaveNoControl []
none_has b m = elim m [ ]

-- where a member stands
placed : (xs : List ℕ) (b : ℕ) → b ∈ xs → (k : ℕ) × (k < length xs) × (get_or xs k 0 ≡ b)
placed [] b m = elim m [ ]
placed (x ∷ xs) b (here e) = (0, omega arith, e)
placed (x ∷ xs) b (there m) = let at = placed xs b m in (suc at.0, omega (arith, at.1), at.2)

-- the bytes of a character
encoded_has : (x : ℕ) → 32 ≤ x → HaveNoControl (encode_utf8 x)
encoded_has x low b m =
    let at = placed (encode_utf8 x) b m in
    elim (cases_lt b 128) [
      | inl small ↦ let is : x ≡ b = inside_one x [] (encode_utf8 x) at.0 (sym (append-nil (encode_utf8 x))) at.1 (rw at.2 small) ∙ at.2 in omega (arith, is, low)
      | inr big ↦ omega arith
    ]

character_has : (c : List ℕ) → IsCharacter c → HaveNoControl c
character_has c (inl (inl e)) = rw e (one_has 92 (34 ∷ []) (omega arith) (one_has 34 [] (omega arith) none_has))
character_has c (inl (inr e)) = rw e (one_has 92 (92 ∷ []) (omega arith) (one_has 92 [] (omega arith) none_has))
character_has c (inr p) = rw p.encoded (encoded_has p.character p.not_low)

all_have : (cs : List (List ℕ)) → Each cs IsCharacter → HaveNoControl (concat cs)
all_have [] each = none_has
all_have (c ∷ cs) each = both_have c (concat cs) (character_has c (each c (here refl))) (all_have cs (λ d m. each d (there m)))

string_has : (w : List ℕ) → IsString w → HaveNoControl w
string_has w s = rw s.quoted (one_has 34 (concat s.inner ++ 34 ∷ []) (omega arith) (both_have (concat s.inner) (34 ∷ []) (all_have s.inner s.characters) (one_has 34 [] (omega arith) none_has)))

-- each byte of a text stands in what is written for it
in_escaped : (bs : List ℕ) (b : ℕ) → b ∈ bs → b ∈ escaped bs
in_escaped [] b m = elim m [ ]
in_escaped (x ∷ bs) b m = go (x == 34 || x == 92) (in_escaped bs b) m
  where
    go : (t : Bool) → (b ∈ bs → b ∈ escaped bs) → b ∈ (x ∷ bs) → b ∈ (if t then 92 ∷ x ∷ escaped bs else x ∷ escaped bs)
    go true later (here e) = there (here e)
    go true later (there k) = there (there (later k))
    go false later (here e) = here e
    go false later (there k) = there (later k)

pub string_text : (w : List ℕ) → IsString w → IsStringText (lexeme_text Str w)
string_text w s =
    let t = lexeme_text Str w in
    let all : HaveNoControl (quoted t) = subst HaveNoControl (strings_are_quoted w s) (string_has w s) in
    (token_utf8 Str w s, λ b m. all b (there (in_left (34 ∷ []) (in_escaped t b m))))

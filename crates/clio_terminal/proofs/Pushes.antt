-- Texts that grow by what is shown of one character more.
use Rattle.std.proofs.Common.{◌≡◌, ℕ, List, [], ◌∷◌, ◌++◌, encode_utf8, encode_utf8_all, append_assoc, append-nil, refl, sym, ap, ◌∙◌}
use Rattle.std.specs.List.{flat_map}
use Rattle.std.proofs.lemmas.Str.{encodes-append}
use Rattle.clio_terminal.specs.Shown.{shown, shown_character}

-- one digit more of an escape, of which these are left
pub one_digit_more : (now new rest left all : List ℕ) (c : ℕ) → now ++ encode_utf8_all left ≡ all → left ≡ c ∷ rest → new ≡ now ++ encode_utf8 c
    → new ++ encode_utf8_all rest ≡ all
one_digit_more now new rest left all c held is pushed =
    ap (λ (bs : List ℕ). bs ++ encode_utf8_all rest) pushed ∙ append_assoc now (encode_utf8 c) (encode_utf8_all rest)
    ∙ sym (ap (λ (cs : List ℕ). now ++ encode_utf8_all cs) is) ∙ held

-- what is shown of two parts
pub shown-append : (cs ds : List ℕ) → shown (cs ++ ds) ≡ shown cs ++ shown ds
shown-append [] ds = refl
shown-append (c ∷ cs) ds = ap (λ (xs : List ℕ). shown_character c ++ xs) (shown-append cs ds) ∙ sym (append_assoc (shown_character c) (shown cs) (shown ds))

-- one character more
pub one_shown_more : (now new cs : List ℕ) (c : ℕ) → now ≡ encode_utf8_all (shown cs) → new ≡ now ++ encode_utf8_all (shown_character c)
    → new ≡ encode_utf8_all (shown (cs ++ c ∷ []))
one_shown_more now new cs c held pushed =
    pushed ∙ ap (λ (bs : List ℕ). bs ++ encode_utf8_all (shown_character c)) held ∙ sym (encodes-append (shown cs) (shown_character c))
    ∙ ap encode_utf8_all (ap (λ (xs : List ℕ). shown cs ++ xs) (sym (append-nil (shown_character c))) ∙ sym (shown-append cs (c ∷ [])))

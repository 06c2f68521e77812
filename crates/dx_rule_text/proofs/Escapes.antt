-- The bytes of a string, one character after the other.
use Rattle.std.proofs.Common.{append_assoc, ◌≡◌, ◌≢◌, ℕ, List, [], ◌∷◌, ◌++◌, sym, ap, ◌∙◌}
use Rattle.std.specs.Prelude.{encode_utf8}
use Rattle.dx_tokens.specs.Quoted.{escaped}
use Rattle.dx_tokens.proofs.Forms.{plain_bytes}
use Rattle.dx_tokens.proofs.Quotes.{escaped-append, escaped-plain}

-- a character that is no quotation mark and no backslash stays
pub plain_character : (x : ℕ) → x ≢ 34 → x ≢ 92 → escaped (encode_utf8 x) ≡ encode_utf8 x
plain_character x n m = escaped-plain (encode_utf8 x) (plain_bytes x n m)

-- one character more
pub one_escaped : (before now text rest all : List ℕ) (x : ℕ) → text ≡ encode_utf8 x ++ rest → now ≡ before ++ escaped (encode_utf8 x)
    → before ++ (escaped text ++ 34 ∷ []) ≡ all → now ++ (escaped rest ++ 34 ∷ []) ≡ all
one_escaped before now text rest all x t n h =
    let parts : escaped text ≡ escaped (encode_utf8 x) ++ escaped rest = ap escaped t ∙ escaped-append (encode_utf8 x) rest in
    let held : before ++ ((escaped (encode_utf8 x) ++ escaped rest) ++ 34 ∷ []) ≡ all = ap (λ (zs : List ℕ). before ++ (zs ++ 34 ∷ [])) (sym parts) ∙ h in
    rw n (append_assoc before (escaped (encode_utf8 x)) (escaped rest ++ 34 ∷ []) ∙ ap (λ (zs : List ℕ). before ++ zs) (sym (append_assoc (escaped (encode_utf8 x)) (escaped rest) (34 ∷ []))) ∙ held)

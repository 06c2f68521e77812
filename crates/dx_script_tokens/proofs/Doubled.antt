-- The bytes of a text in single quotes, one character after the other.
use Rattle.std.proofs.Common.{append_assoc, ◌≡◌, ◌≢◌, ◌<◌, ℕ, suc, Bool, true, false, List, [], ◌∷◌, ◌++◌, length, get_or, refl, sym, ap, ◌∙◌, arith}
use Rattle.std.specs.Prelude.{encode_utf8, ◌==◌, if◌then◌else◌}
use Rattle.std.proofs.lemmas.Bool.{ne_eqb}
use Rattle.dx_script_tokens.specs.Quoted.{doubled}
use Rattle.dx_script_tokens.proofs.Utf8.{no_quote_inside}

doubled-case : (t : Bool) (b : ℕ) (d e ys : List ℕ) → d ≡ e ++ ys → (if t then 39 ∷ 39 ∷ d else b ∷ d) ≡ (if t then 39 ∷ 39 ∷ e else b ∷ e) ++ ys
doubled-case true b d e ys h = ap (λ zs. 39 ∷ 39 ∷ zs) h
doubled-case false b d e ys h = ap (λ zs. b ∷ zs) h

pub doubled-append : (xs ys : List ℕ) → doubled (xs ++ ys) ≡ doubled xs ++ doubled ys
doubled-append [] ys = refl
doubled-append (b ∷ xs) ys = doubled-case (b == 39) b (doubled (xs ++ ys)) (doubled xs) (doubled ys) (doubled-append xs ys)

pub doubled-plain : (bs : List ℕ) → ((k : ℕ) → k < length bs → get_or bs k 0 ≢ 39) → doubled bs ≡ bs
doubled-plain [] h = refl
doubled-plain (b ∷ bs) h = rw (ne_eqb b 39 (h 0 (omega arith))) (ap (λ (zs : List ℕ). b ∷ zs) (doubled-plain bs (λ k l. h (suc k) (omega arith))))

-- a character that is no single quote stays
pub plain_character : (x : ℕ) → x ≢ 39 → doubled (encode_utf8 x) ≡ encode_utf8 x
plain_character x n = doubled-plain (encode_utf8 x) (no_quote_inside x n)

-- one character more
pub one_doubled : (before now text rest all : List ℕ) (x : ℕ) → text ≡ encode_utf8 x ++ rest → now ≡ before ++ doubled (encode_utf8 x)
    → before ++ (doubled text ++ 39 ∷ []) ≡ all → now ++ (doubled rest ++ 39 ∷ []) ≡ all
one_doubled before now text rest all x t n h =
    let parts : doubled text ≡ doubled (encode_utf8 x) ++ doubled rest = ap doubled t ∙ doubled-append (encode_utf8 x) rest in
    let held : before ++ ((doubled (encode_utf8 x) ++ doubled rest) ++ 39 ∷ []) ≡ all = ap (λ (zs : List ℕ). before ++ (zs ++ 39 ∷ [])) (sym parts) ∙ h in
    rw n (append_assoc before (doubled (encode_utf8 x)) (doubled rest ++ 39 ∷ []) ∙ ap (λ (zs : List ℕ). before ++ zs) (sym (append_assoc (doubled (encode_utf8 x)) (doubled rest) (39 ∷ []))) ∙ held)

-- The digits of a text, byte by byte.
use Rattle.std.proofs.Common.{◌≡◌, ℕ, ◌+◌, ◌<◌, ◌≤◌, [], ◌∷◌, ◌++◌, true, false, cond, sym, ap, ◌∙◌, arith, length, take, get_or}
use Rattle.std.specs.Char.{encode_utf8, is_ascii_digit, IsAsciiDigit}
use Rattle.std.proofs.lemmas.List.{append-nil, take_all}
use Rattle.std.proofs.lemmas.List.Elements.{filter_more}
use Rattle.std.proofs.lemmas.Str.{encode_ascii}
use Rattle.dx_funcs.specs.Shipped.{digits_of}
use Rattle.dx_base.specs.Texts.{Text}

-- a digit is kept
pub digit_kept : (text old new : Text) (i ch : ℕ) → i < length text → old ≡ digits_of (take i text) → is_ascii_digit (get_or text i 0) ≡ true
    → IsAsciiDigit (get_or text i 0) → ch ≡ get_or text i 0 → new ≡ old ++ encode_utf8 ch → new ≡ digits_of (take (i + 1) text)
digit_kept text old new i ch lt so_far digit range is more =
    let small : get_or text i 0 < 128 = omega (arith, range) in
    more
    ∙ ap (λ t. old ++ t) (ap encode_utf8 is ∙ encode_ascii (get_or text i 0) small)
    ∙ ap (λ t. t ++ get_or text i 0 ∷ []) so_far
    ∙ ap (λ b. digits_of (take i text) ++ cond b (get_or text i 0 ∷ []) []) (sym digit)
    ∙ sym (filter_more is_ascii_digit text i 0 lt)

-- all else is left out
pub other_left_out : (text old : Text) (i : ℕ) → i < length text → old ≡ digits_of (take i text) → is_ascii_digit (get_or text i 0) ≡ false → old ≡ digits_of (take (i + 1) text)
other_left_out text old i lt so_far other =
    so_far
    ∙ sym (append-nil (digits_of (take i text)))
    ∙ ap (λ b. digits_of (take i text) ++ cond b (get_or text i 0 ∷ []) []) (sym other)
    ∙ sym (filter_more is_ascii_digit text i 0 lt)

-- where all bytes were seen, all digits are kept
pub digits_seen : (text seen kept : Text) (i : ℕ) → seen ≡ text → length seen ≤ i → kept ≡ digits_of (take i seen) → kept ≡ digits_of text
digits_seen text seen kept i is past so_far = so_far ∙ ap digits_of (take_all i seen past ∙ is)

-- What is shown is harmless, and what is harmless is shown as it is.
use Rattle.std.proofs.Common.{◌≡◌, ◌≢◌, ℕ, ◌<◌, ◌≤◌, ◌+◌, ◌/◌, ◌%◌, Bool, true, false, cond, ◌&&◌, ◌||◌, nat_le, nat_lt, List, [], ◌∷◌, ◌++◌, All, refl, ap, ◌∙◌, arith}
use Rattle.std.specs.Char.{digit_char, is_control}
use Rattle.std.specs.Int.{is_in_range}
use Rattle.std.specs.Char.Escape.{hex_digit_at}
use Rattle.std.proofs.lemmas.Bool.{cond-false, cond_both, false_from_ne_true, leb-true, ltb-true, ltb-false, ne_eqb, true≢false}
use Rattle.std.proofs.lemmas.List.Elements.{All-append, All-cons, All-head, All-nil, All-tail}
use Rattle.clio_terminal.specs.Shown.{escape_unicode, is_harmful, shown, shown_character, turns_direction}
use Rattle.clio_terminal.specs.Laws.{AllHarmless, HarmlessStays, ShownIsHarmless}

-- ---- tests

or_false : (a b : Bool) → a ≡ false → b ≡ false → (a || b) ≡ false
or_false false b f neither = neither
or_false true b f neither = absurd (true≢false f)

and_false : (a b : Bool) → b ≡ false → (a && b) ≡ false
and_false false b f = refl
and_false true b f = f

false_and : (a b : Bool) → a ≡ false → (a && b) ≡ false
false_and false b f = refl
false_and true b f = absurd (true≢false f)

greater : (a b : ℕ) → b < a → nat_le a b ≡ false
greater a b more = false_from_ne_true (nat_le a b) (λ le. let less = leb-true a b le in omega (arith, less, more))

below : (lo hi x : ℕ) → x < lo → is_in_range lo hi x ≡ false
below lo hi x less = false_and (nat_le lo x) (nat_le x hi) (greater lo x less)

above : (lo hi x : ℕ) → hi < x → is_in_range lo hi x ≡ false
above lo hi x more = and_false (nat_le lo x) (nat_le x hi) (greater x hi more)

-- ---- what an escape is made of

turns_not : (x : ℕ) → x < 0x61C → turns_direction x ≡ false
turns_not x low =
    or_false _ _ (ne_eqb x 0x61C (λ is. omega (arith, is, low)))
    (or_false _ _ (below 0x200E 0x200F x (omega (arith, low)))
    (or_false _ _ (below 0x202A 0x202E x (omega (arith, low))) (below 0x2066 0x2069 x (omega (arith, low)))))

printable : (x : ℕ) → 31 < x → x < 127 → is_harmful x ≡ false
printable x more less = or_false _ _ (or_false _ _ (above 0 0x1F x more) (below 0x7F 0x9F x less)) (turns_not x (omega (arith, less)))

digit : (d : ℕ) → d < 16 → is_harmful (digit_char d) ≡ false
digit d small =
    cond_both (nat_lt d 10) (48 + d) (87 + d) (λ (x : ℕ). is_harmful x ≡ false)
    (λ few. printable (48 + d) (omega (arith, small)) (omega (arith, small)))
    (λ many. printable (87 + d) (omega (arith, small)) (omega (arith, small)))

hex : (p c : ℕ) → is_harmful (hex_digit_at p c) ≡ false
hex p c = digit (c / p % 16) (omega arith)

-- a digit before digits, and what stands around them
one : (p c : ℕ) (cs : List ℕ) → AllHarmless cs → AllHarmless (hex_digit_at p c ∷ cs)
one p c cs rest = All-cons (λ x. is_harmful x ≡ false) (hex_digit_at p c) cs (hex p c) rest

abbrev braces : List ℕ → List ℕ
braces cs = 92 ∷ 117 ∷ 123 ∷ cs

close : AllHarmless (125 ∷ [])
close = All-cons (λ x. is_harmful x ≡ false) 125 [] refl (All-nil (λ x. is_harmful x ≡ false))

braced : (cs : List ℕ) → AllHarmless cs → AllHarmless (braces cs)
braced cs rest =
    All-cons (λ x. is_harmful x ≡ false) 92 (117 ∷ 123 ∷ cs) refl
    (All-cons (λ x. is_harmful x ≡ false) 117 (123 ∷ cs) refl (All-cons (λ x. is_harmful x ≡ false) 123 cs refl rest))

either : (b : Bool) (xs ys : List ℕ) → AllHarmless xs → AllHarmless ys → AllHarmless (cond b xs ys)
either true xs ys left right = left
either false xs ys left right = right

abbrev last1 : ℕ → List ℕ
last1 c = hex_digit_at 1 c ∷ 125 ∷ []

abbrev last2 : ℕ → List ℕ
last2 c = hex_digit_at 0x10 c ∷ last1 c

abbrev last3 : ℕ → List ℕ
last3 c = hex_digit_at 0x100 c ∷ last2 c

abbrev last4 : ℕ → List ℕ
last4 c = hex_digit_at 0x1000 c ∷ last3 c

abbrev last5 : ℕ → List ℕ
last5 c = hex_digit_at 0x1_0000 c ∷ last4 c

abbrev last6 : ℕ → List ℕ
last6 c = hex_digit_at 0x10_0000 c ∷ last5 c

-- what stands for a character from these bounds on
abbrev from5 : ℕ → List ℕ
from5 c = cond (nat_lt c 0x10_0000) (braces (last5 c)) (braces (last6 c))

abbrev from4 : ℕ → List ℕ
from4 c = cond (nat_lt c 0x1_0000) (braces (last4 c)) (from5 c)

abbrev from3 : ℕ → List ℕ
from3 c = cond (nat_lt c 0x1000) (braces (last3 c)) (from4 c)

abbrev from2 : ℕ → List ℕ
from2 c = cond (nat_lt c 0x100) (braces (last2 c)) (from3 c)

escaped : (c : ℕ) → AllHarmless (escape_unicode c)
escaped c =
    let d1 = one 1 c (125 ∷ []) close in
    let d2 = one 0x10 c (last1 c) d1 in
    let d3 = one 0x100 c (last2 c) d2 in
    let d4 = one 0x1000 c (last3 c) d3 in
    let d5 = one 0x1_0000 c (last4 c) d4 in
    let d6 = one 0x10_0000 c (last5 c) d5 in
    let s6 = braced (last6 c) d6 in
    let s5 = either (nat_lt c 0x10_0000) (braces (last5 c)) (braces (last6 c)) (braced (last5 c) d5) s6 in
    let s4 = either (nat_lt c 0x1_0000) (braces (last4 c)) (from5 c) (braced (last4 c) d4) s5 in
    let s3 = either (nat_lt c 0x1000) (braces (last3 c)) (from4 c) (braced (last3 c) d3) s4 in
    let s2 = either (nat_lt c 0x100) (braces (last2 c)) (from3 c) (braced (last2 c) d2) s3 in
    either (nat_lt c 0x10) (braces (last1 c)) (from2 c) (braced (last1 c) d1) s2

-- ---- the laws

of_one : (c : ℕ) → AllHarmless (shown_character c)
of_one c =
    cond_both (is_harmful c) (escape_unicode c) (c ∷ []) AllHarmless (λ _. escaped c)
    (λ f. All-cons (λ x. is_harmful x ≡ false) c [] f (All-nil (λ x. is_harmful x ≡ false)))

pub shown_is_harmless : ShownIsHarmless
shown_is_harmless [] = All-nil (λ x. is_harmful x ≡ false)
shown_is_harmless (c ∷ cs) = All-append (λ x. is_harmful x ≡ false) (shown_character c) (shown cs) (of_one c) (shown_is_harmless cs)

pub harmless_stays : HarmlessStays
harmless_stays [] all = refl
harmless_stays (c ∷ cs) all =
    ap (λ (xs : List ℕ). xs ++ shown cs) (cond-false (is_harmful c) (escape_unicode c) (c ∷ []) (All-head (λ x. is_harmful x ≡ false) c cs all))
    ∙ ap (λ (xs : List ℕ). c ∷ xs) (harmless_stays cs (All-tail (λ x. is_harmful x ≡ false) c cs all))

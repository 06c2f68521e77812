-- The number that a digit begins is written in decimal, and no longer number begins there.
use Rattle.std.proofs.Common.{◌≡◌, ◌≢◌, ◌⊎◌, inl, inr, ℕ, suc, ◌+◌, ◌-◌, ◌*◌, ◌/◌, ◌%◌, ◌<◌, ◌≤◌, true, List, [], ◌∷◌, ◌++◌, length, take, Option, Some, None, refl, sym, ap, ◌∙◌, subst, arith, append-nil, append_assoc, leb-true}
use Rattle.std.specs.Prelude.{decimal, nat_le, ◌&&◌}
use Rattle.std.proofs.lemmas.Bool.{and_parts, cases_eq, ne_eqb}
use Rattle.std.proofs.lemmas.Bool.Decides.{nat_tests}
use Rattle.std.proofs.lemmas.Fmt.{decimal_digit, decimal_step}
use Rattle.dx_tokens.specs.Tokens.{is_digit}
use Rattle.dx_tokens.proofs.Forms.{taken}
use Rattle.dx_script_tokens.specs.Numbers.{greatest_number, with_digit, longer, more_step, more_digits, number_at}
use Rattle.dx_script_tokens.specs.Lexing.{IsScriptNumber}
use Rattle.dx_script_tokens.proofs.Decimal.{decimal_read, more_append}

digit_low : (d : ℕ) → is_digit d ≡ true → 48 ≤ d
digit_low d e = grind (arith, nat_tests)

digit_high : (d : ℕ) → is_digit d ≡ true → d ≤ 57
digit_high d e = grind (arith, nat_tests)

-- one digit more
digit_more : (m d n : ℕ) → 0 < m → is_digit d ≡ true → n ≡ 10 * m + (d - 48) → n ≤ greatest_number → decimal n ≡ decimal m ++ d ∷ []
digit_more m d n some e is le =
    let low : 48 ≤ d = digit_low d e in
    let high : d ≤ 57 = digit_high d e in
    let whole : n / 10 ≡ m = omega arith in
    let last : 48 + n % 10 ≡ d = omega arith in
    decimal_step n (omega arith) (omega (arith, le)) ∙ (ap (λ (k : ℕ). decimal k ++ (48 + n % 10) ∷ []) whole ∙ ap (λ (x : ℕ). decimal m ++ x ∷ []) last)

digit_taken : (value d w : ℕ) → with_digit value d ≡ Some w → (is_digit d ≡ true) × (w ≡ 10 * value + (d - 48)) × (w ≤ greatest_number)
digit_taken value d w e =
    elim (taken (is_digit d && nat_le (10 * value + (d - 48)) greatest_number) (Some (10 * value + (d - 48))) None (Some w) e) [
      | inl t ↦
          let p = and_parts (is_digit d) (nat_le (10 * value + (d - 48)) greatest_number) t.0 in
          let same : 10 * value + (d - 48) ≡ w = cc in
          let le : 10 * value + (d - 48) ≤ greatest_number = leb-true (10 * value + (d - 48)) greatest_number p.1 in
          (p.0, sym same, subst (λ (k : ℕ). k ≤ greatest_number) same le)
      | inr f ↦ absurd (cc)
    ]

-- the digits that go on after a value, with the value that they make
record IsTaken (value : ℕ) (rest : List ℕ) (p : ℕ × ℕ) : Type 0 where
  within : p.0 ≤ length rest
  low : p.1 ≤ greatest_number
  is : decimal p.1 ≡ decimal value ++ take p.0 rest

none_taken : (value : ℕ) (rest : List ℕ) → value ≤ greatest_number → IsTaken value rest (0, value)
none_taken value rest le = record { within = omega arith; low = le; is = sym (append-nil (decimal value)) }

one_taken : (value d w : ℕ) (rest : List ℕ) (p : ℕ × ℕ) → decimal w ≡ decimal value ++ d ∷ [] → IsTaken w rest p → IsTaken value (d ∷ rest) (longer p)
one_taken value d w rest p e t = record {
  within = (let h = t.within in omega (arith, h));
  low = t.low;
  is = t.is ∙ (ap (λ (x : List ℕ). x ++ take p.0 rest) e ∙ append_assoc (decimal value) (d ∷ []) (take p.0 rest));
}

digits_taken : (value : ℕ) (rest : List ℕ) → 0 < value → value ≤ greatest_number → IsTaken value rest (more_digits value rest)
unfolding more_digits
digits_taken value [] some le = none_taken value [] le
digits_taken value (d ∷ rest) some le = go (with_digit value d) refl (λ w. digits_taken w rest)
  where
    go : (o : Option ℕ) → o ≡ with_digit value d → ((w : ℕ) → 0 < w → w ≤ greatest_number → IsTaken w rest (more_digits w rest))
        → IsTaken value (d ∷ rest) (more_step o value (λ w. more_digits w rest))
    go None is further = none_taken value (d ∷ rest) le
    go (Some w) is further =
        let t = digit_taken value d w (sym is) in
        let e = t.1 in
        one_taken value d w rest (more_digits w rest) (digit_more value d w some t.0 t.1 t.2) (further w (omega (arith, e, some)) t.2)

-- the bytes of the number that a digit begins
pub record IsNumberAt (b : ℕ) (rest : List ℕ) (len : ℕ) : Type 0 where
  pub some : 1 ≤ len
  pub within : len ≤ 1 + length rest
  pub form : IsScriptNumber (take len (b ∷ rest))

zero_form : (rest : List ℕ) → IsNumberAt 48 rest 1
zero_form rest = record { some = omega arith; within = omega arith; form = (0, omega arith, sym (decimal_digit 0 (omega arith))) }

first_form : (b : ℕ) (rest : List ℕ) (p : ℕ × ℕ) → is_digit b ≡ true → IsTaken (b - 48) rest p → IsNumberAt b rest (longer p).0
first_form b rest p e t =
    let low : 48 ≤ b = digit_low b e in
    let high : b ≤ 57 = digit_high b e in
    let back : 48 + (b - 48) ≡ b = omega arith in
    let one : decimal (b - 48) ≡ b ∷ [] = decimal_digit (b - 48) (omega arith) ∙ ap (λ (x : ℕ). x ∷ []) back in
    record {
      some = omega arith;
      within = (let h = t.within in omega (arith, h));
      form = (p.1, t.low, sym (t.is ∙ ap (λ (x : List ℕ). x ++ take p.0 rest) one));
    }

pub number_form : (b : ℕ) (rest : List ℕ) → is_digit b ≡ true → IsNumberAt b rest (number_at b rest).0
number_form b rest e = go (cases_eq b 48)
  where
    go : (b ≡ 48) ⊎ (b ≢ 48) → IsNumberAt b rest (number_at b rest).0
    go (inl z) = rw z (zero_form rest)
    go (inr n) =
        let low : 48 ≤ b = digit_low b e in
        let high : b ≤ 57 = digit_high b e in
        rw (ne_eqb b 48 n) (first_form b rest (more_digits (b - 48) rest) e (digits_taken (b - 48) rest (omega (arith, low, n)) (omega (arith, high))))

-- a number at the front, which the bytes after it may lengthen
pub number_front : (n : ℕ) (after : List ℕ) (b : ℕ) (rest : List ℕ) → n ≤ greatest_number → b ∷ rest ≡ decimal n ++ after
    → (is_digit b ≡ true) × (length (decimal n) ≤ (number_at b rest).0)
number_front n after b rest le e =
    let d = decimal_read n le in
    let both : b ∷ rest ≡ d.first ∷ (d.others ++ after) = e ∙ ap (λ (x : List ℕ). x ++ after) d.splits in
    let first : b ≡ d.first = cc in
    let others : rest ≡ d.others ++ after = cc in
    let size : length (decimal n) ≡ suc (length d.others) = ap length d.splits in
    (rw first d.digit, rw (first, others, size) (go (cases_eq d.first 48)))
  where
    go : ((decimal_read n le).first ≡ 48) ⊎ ((decimal_read n le).first ≢ 48) → suc (length (decimal_read n le).others) ≤ (number_at (decimal_read n le).first ((decimal_read n le).others ++ after)).0
    go (inl z) = let none = (decimal_read n le).zero_alone z in rw (z, none) (omega arith)
    go (inr ne) =
        let d = decimal_read n le in
        rw (ne_eqb d.first 48 ne, more_append (d.first - 48) n d.others after d.value) (omega arith)

-- A number that is written in decimal is read as that number.
use Rattle.std.proofs.Common.{◌≡◌, ◌≢◌, ◌⊎◌, inl, inr, ℕ, zero, suc, ◌+◌, ◌-◌, ◌*◌, ◌/◌, ◌%◌, ◌<◌, ◌≤◌, true, List, [], ◌∷◌, ◌++◌, length, Option, Some, None, refl, sym, ap, ◌∙◌, arith, append-nil}
use Rattle.std.specs.Prelude.{decimal, nat_le, ◌==◌}
use Rattle.std.proofs.lemmas.Bool.{cases_eq, ne_eqb}
use Rattle.std.proofs.lemmas.Bool.Decides.{nat_tests}
use Rattle.std.proofs.lemmas.Fmt.{decimal_by_steps}
use Rattle.std.proofs.lemmas.List.{length-append}
use Rattle.dx_tokens.specs.Tokens.{is_digit}
use Rattle.dx_tokens.proofs.Lexed.{AllPass, StopsAt}
use Rattle.dx_script_tokens.specs.Numbers.{greatest_number, with_digit, longer, more_step, more_digits, number_at, numeral_of}
use Rattle.dx_script_tokens.proofs.Digits.{past}

past_longer : (len : ℕ) (p : ℕ × ℕ) → longer (past len p) ≡ past (suc len) p
past_longer len p = ap (λ (n : ℕ). (n, p.1)) (omega arith)

more_case : (o : Option ℕ) (value m len : ℕ) (rest ys : List ℕ) → more_step o value (λ w. more_digits w rest) ≡ (suc len, m)
    → ((w : ℕ) → more_digits w rest ≡ (len, m) → more_digits w (rest ++ ys) ≡ past len (more_digits m ys))
    → more_step o value (λ w. more_digits w (rest ++ ys)) ≡ past (suc len) (more_digits m ys)
more_case None value m len rest ys e h = absurd (omega (arith, ap (λ (p : ℕ × ℕ). p.0) e))
more_case (Some w) value m len rest ys e h =
    let a : (more_digits w rest).0 ≡ len = omega (arith, ap (λ (p : ℕ × ℕ). p.0) e) in
    let b : (more_digits w rest).1 ≡ m = ap (λ (p : ℕ × ℕ). p.1) e in
    let both : more_digits w rest ≡ (len, m) = pair_is (more_digits w rest) len m a b in
    ap longer (h w both) ∙ past_longer len (more_digits m ys)
  where
    pair_is : (p : ℕ × ℕ) (x y : ℕ) → p.0 ≡ x → p.1 ≡ y → p ≡ (x, y)
    pair_is p x y a b = ap (λ (n : ℕ). (n, p.1)) a ∙ ap (λ (n : ℕ). (x, n)) b

-- digits that were all taken, and what is after them
pub more_append : (value m : ℕ) (rest ys : List ℕ) → more_digits value rest ≡ (length rest, m) → more_digits value (rest ++ ys) ≡ past (length rest) (more_digits m ys)
unfolding more_digits
more_append value m [] ys e =
    let same : value ≡ m = ap (λ (p : ℕ × ℕ). p.1) e in
    ap (λ (v : ℕ). more_digits v ys) same ∙ nothing_past (more_digits m ys)
  where
    nothing_past : (p : ℕ × ℕ) → p ≡ past 0 p
    nothing_past p = ap (λ (n : ℕ). (n, p.1)) (omega arith)
more_append value m (d ∷ rest) ys e = more_case (with_digit value d) value m (length rest) rest ys e (λ w h. more_append w m rest ys h)

more_stops : (m : ℕ) (tail : List ℕ) → StopsAt is_digit tail → more_digits m tail ≡ (0, m)
unfolding more_digits
more_stops m [] s = refl
more_stops m (c ∷ tail) s = rw s refl

-- a number in decimal: its first digit, and the others
pub record IsDecimal (n : ℕ) (ds : List ℕ) : Type 0 where
  pub first : ℕ
  pub others : List ℕ
  pub splits : ds ≡ first ∷ others
  pub digit : is_digit first ≡ true
  pub digits : AllPass is_digit others
  pub positive : 0 < n → first ≢ 48
  pub zero_alone : first ≡ 48 → others ≡ []
  pub value : more_digits (first - 48) others ≡ (length others, n)

all_append : (xs : List ℕ) (d : ℕ) → AllPass is_digit xs → is_digit d ≡ true → AllPass is_digit (xs ++ d ∷ [])
all_append [] d all e = (e, tt)
all_append (x ∷ xs) d all e = (all.0, all_append xs d all.1 e)

digit_is : (x : ℕ) → x < 10 → is_digit (48 + x) ≡ true
digit_is x l = grind (arith, nat_tests)

le_test : (k : ℕ) → k ≤ greatest_number → nat_le k greatest_number ≡ true
le_test k le = grind (arith, nat_tests)

one_digit : (m x : ℕ) → x < 10 → 10 * m + x ≤ greatest_number → more_digits m ((48 + x) ∷ []) ≡ (1, 10 * m + x)
unfolding more_digits
one_digit m x l le =
    let value : 48 + x - 48 ≡ x = omega arith in
    rw (digit_is x l, value, le_test (10 * m + x) le) refl

first_step : (m : ℕ) → m < 10 → m ≤ greatest_number → IsDecimal m ((48 + m) ∷ [])
unfolding more_digits
first_step m l le = record {
  first = 48 + m;
  others = [];
  splits = refl;
  digit = digit_is m l;
  digits = tt;
  positive = λ some e. omega (arith, some, e);
  zero_alone = λ e. refl;
  value = ap (λ (n : ℕ). (0, n)) (omega arith);
}

next_step : (m : ℕ) (ds : List ℕ) → 10 ≤ m → m ≤ greatest_number → IsDecimal (m / 10) ds → IsDecimal m (ds ++ (48 + m % 10) ∷ [])
next_step m ds l le d =
    let some : 0 < m / 10 = omega arith in
    let whole : 10 * (m / 10) + m % 10 ≡ m = omega arith in
    let last : more_digits (m / 10) ((48 + m % 10) ∷ []) ≡ (1, m) = one_digit (m / 10) (m % 10) (omega arith) (omega (arith, whole, le)) ∙ ap (λ (n : ℕ). (1, n)) whole in
    record {
      first = d.first;
      others = d.others ++ (48 + m % 10) ∷ [];
      splits = ap (λ (xs : List ℕ). xs ++ (48 + m % 10) ∷ []) d.splits;
      digit = d.digit;
      digits = all_append d.others (48 + m % 10) d.digits (digit_is (m % 10) (omega arith));
      positive = λ p. d.positive some;
      zero_alone = λ e. absurd (d.positive some e);
      value = more_append (d.first - 48) (m / 10) d.others ((48 + m % 10) ∷ []) d.value ∙ ap (past (length d.others)) last ∙ ap (λ (n : ℕ). (n, m)) (sym (length-append d.others ((48 + m % 10) ∷ [])));
    }

pub decimal_read : (n : ℕ) → n ≤ greatest_number → IsDecimal n (decimal n)
decimal_read n le = decimal_by_steps (λ m ds. m ≤ greatest_number → IsDecimal m ds) (λ m l h. first_step m l h) (λ m ds l h le. next_step m ds l le (h (omega (arith, le)))) n (omega (arith, le)) le

-- the number that its first digit begins, if no digit is after it
zero_is : (k : ℕ) → ¬ (0 < k) → 0 ≡ k
zero_is zero h = refl
zero_is (suc k) h = absurd (h (omega arith))

-- the number that its first digit begins, if no digit is after it
pub number_read : (n : ℕ) (ds tail : List ℕ) (d : IsDecimal n ds) → StopsAt is_digit tail → number_at d.first (d.others ++ tail) ≡ (suc (length d.others), n)
number_read n ds tail d stops = go (cases_eq d.first 48) where
  go : (d.first ≡ 48) ⊎ (d.first ≢ 48) → number_at d.first (d.others ++ tail) ≡ (suc (length d.others), n)
  go (inl e) =
      let none : d.others ≡ [] = d.zero_alone e in
      let zero_value : 0 ≡ n = zero_is n (λ some. d.positive some e) in
      rw (e, none) (ap (λ (k : ℕ). (1, k)) zero_value)
  go (inr ne) =
      let read : more_digits (d.first - 48) (d.others ++ tail) ≡ (length d.others + 0, n) = more_append (d.first - 48) n d.others tail d.value ∙ ap (past (length d.others)) (more_stops n tail stops) in
      rw (ne_eqb d.first 48 ne, read) (ap (λ (k : ℕ). (suc k, n)) (omega arith))

-- all of its digits are one number
pub numeral_read : (n : ℕ) (ds : List ℕ) (d : IsDecimal n ds) → numeral_of (d.first ∷ d.others) ≡ Some n
unfolding numeral_of
numeral_read n ds d =
    let read : number_at d.first d.others ≡ (suc (length d.others), n) = ap (number_at d.first) (sym (append-nil d.others)) ∙ number_read n ds [] d tt in
    rw (d.digit, read, eq_self (suc (length d.others))) refl
  where
    eq_self : (k : ℕ) → (k == k) ≡ true
    eq_self k = grind (arith, nat_tests)

-- The texts of variables are words, and differ.
use Rattle.std.proofs.Common.{◌≡◌, ◌≢◌, ℕ, ◌<◌, ◌≤◌, ◌^◌, true, List, [], ◌∷◌, refl, subst, arith}
use Rattle.std.specs.Prelude.{decimal, IsTrue}
use Rattle.std.specs.Char.{digit_value}
use Rattle.std.specs.Str.Parse.{AllDigits}
use Rattle.std.proofs.lemmas.Bool.Decides.{nat_tests}
use Rattle.std.proofs.lemmas.Str.Parse.{digit_from_value}
use Rattle.std.proofs.lemmas.Fmt.{decimal_injective, decimal_is_IsNumeral}
use Rattle.dx_base.specs.Members.{here, there, Each}
use Rattle.dx_base.proofs.Lists.{head_is}
use Rattle.dx_tokens.specs.Tokens.{is_word_byte}
use Rattle.dx_tokens.specs.Lexing.{IsWord}
use Rattle.dx_rule_text.specs.Printed.{variable_text}
use Rattle.clio_rule_laws.proofs.Says.{existential_text}

in_digits : (b : ℕ) → 48 ≤ b → b ≤ 57 → is_word_byte b ≡ true
in_digits b low high = grind (arith, nat_tests)

digit_continues : (b : ℕ) → digit_value b < 10 → is_word_byte b ≡ true
digit_continues b lt = let d = digit_from_value b lt in in_digits b d.0 d.1

digits_continue : (ds : List ℕ) → AllDigits 10 ds → Each ds (λ b. IsTrue (is_word_byte b))
digits_continue [] all b m = elim m [ ]
digits_continue (d ∷ ds) all b (here e) = subst (λ (x : ℕ). IsTrue (is_word_byte x)) e (digit_continues d all.0)
digits_continue (d ∷ ds) all b (there m) = digits_continue ds all.1 b m

number_continues : (n : ℕ) → n < 2 ^ 64 → Each (decimal n) (λ b. IsTrue (is_word_byte b))
number_continues n lt = digits_continue (decimal n) (decimal_is_IsNumeral n lt).0.1

pub variable_word : (n : ℕ) → n < 2 ^ 64 → IsWord (variable_text n)
variable_word n lt = (refl, number_continues n lt)

pub existential_word : (n : ℕ) → n < 2 ^ 64 → IsWord (existential_text n)
existential_word n lt = (refl, number_continues n lt)

tail_is : (b : ℕ) (xs ys : List ℕ) → b ∷ xs ≡ b ∷ ys → xs ≡ ys
tail_is b xs ys e = cc

pub one_variable : (m n : ℕ) → m < 2 ^ 64 → n < 2 ^ 64 → variable_text m ≡ variable_text n → m ≡ n
one_variable m n h k e = decimal_injective m n h k (tail_is 120 (decimal m) (decimal n) e)

pub one_existential : (m n : ℕ) → m < 2 ^ 64 → n < 2 ^ 64 → existential_text m ≡ existential_text n → m ≡ n
one_existential m n h k e = decimal_injective m n h k (tail_is 121 (decimal m) (decimal n) e)

pub variable_no_existential : (m n : ℕ) → variable_text m ≢ existential_text n
variable_no_existential m n e = let h = head_is 120 121 (decimal m) (decimal n) e in omega (arith, h)

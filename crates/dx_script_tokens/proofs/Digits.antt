-- Reading a number digit by digit.
use Rattle.std.proofs.Common.{◌≡◌, ℕ, suc, ◌+◌, List, [], ◌∷◌, length, Option, Some, None, sym, ap, ◌∙◌, arith}
use Rattle.dx_script_tokens.specs.Numbers.{with_digit, longer, more_step, more_digits}

-- digits that were read, and those that are still read
abbrev pub past : ℕ → ℕ × ℕ → ℕ × ℕ
past len p = (len + p.0, p.1)

pub digits_on : (value len next b : ℕ) (others rest : List ℕ) (whole : ℕ × ℕ) → rest ≡ b ∷ others → Some next ≡ with_digit value b → past len (more_digits value rest) ≡ whole → past (len + 1) (more_digits next others) ≡ whole
unfolding more_digits
digits_on value len next b others rest whole e is reads =
    let step : more_digits value (b ∷ others) ≡ longer (more_digits next others) = ap (λ (o : Option ℕ). more_step o value (λ w. more_digits w others)) (sym is) in
    let sum : len + 1 + (more_digits next others).0 ≡ len + suc (more_digits next others).0 = omega arith in
    ap (λ (n : ℕ). (n, (more_digits next others).1)) sum ∙ sym (ap (past len) (ap (more_digits value) e ∙ step)) ∙ reads

pub digits_stop : (value len b : ℕ) (others rest : List ℕ) (whole : ℕ × ℕ) → rest ≡ b ∷ others → None ≡ with_digit value b → past len (more_digits value rest) ≡ whole → (len, value) ≡ whole
unfolding more_digits
digits_stop value len b others rest whole e is reads =
    let step : more_digits value (b ∷ others) ≡ (0, value) = ap (λ (o : Option ℕ). more_step o value (λ w. more_digits w others)) (sym is) in
    let sum : len ≡ len + 0 = omega arith in
    ap (λ (n : ℕ). (n, value)) sum ∙ sym (ap (past len) (ap (more_digits value) e ∙ step)) ∙ reads

pub digits_end : (value len : ℕ) (rest : List ℕ) (whole : ℕ × ℕ) → length rest ≡ 0 → past len (more_digits value rest) ≡ whole → (len, value) ≡ whole
unfolding more_digits
digits_end value len [] whole none reads = let sum : len ≡ len + 0 = omega arith in ap (λ (n : ℕ). (n, value)) sum ∙ reads
digits_end value len (b ∷ rest) whole none reads = absurd (omega (arith, none))

-- Numbers in decimal, without leading zeros, up to the greatest.
use Rattle.std.specs.Prelude.{ℕ, suc, ◌+◌, ◌-◌, ◌*◌, ◌&&◌, ◌==◌, nat_le, if◌then◌else◌}
use Rattle.std.specs.Prelude.{List, [], ◌∷◌, length, Option, Some, None}
use Rattle.dx_tokens.specs.Tokens.{is_digit}

-- the greatest number
abbrev pub greatest_number : ℕ
greatest_number = 4294967295

-- a value with one digit more, if that does not pass the greatest
abbrev pub with_digit : ℕ → ℕ → Option ℕ
with_digit value d =
    if is_digit d && nat_le (10 * value + (d - 48)) greatest_number then Some (10 * value + (d - 48)) else None

-- one digit more
abbrev pub longer : ℕ × ℕ → ℕ × ℕ
longer p = (suc p.0, p.1)

abbrev pub more_step : Option ℕ → ℕ → (ℕ → ℕ × ℕ) → ℕ × ℕ
more_step None value next = (0, value)
more_step (Some w) value next = longer (next w)

-- how many digits go on after a value, and the value with them
unfoldable pub more_digits : ℕ → List ℕ → ℕ × ℕ
more_digits value [] = (0, value)
more_digits value (d ∷ rest) = more_step (with_digit value d) value (λ w. more_digits w rest)

-- the length and the value of the number that a digit begins: a zero stands alone,
-- and another takes as many digits as it can
abbrev pub number_at : ℕ → List ℕ → ℕ × ℕ
number_at b rest = if b == 48 then (1, 0) else longer (more_digits (b - 48) rest)

-- the value of bytes that are one number, if they are
unfoldable pub numeral_of : List ℕ → Option ℕ
numeral_of [] = None
numeral_of (b ∷ rest) =
    if is_digit b && (number_at b rest).0 == suc (length rest) then Some (number_at b rest).1 else None

-- the value, or 0 if there is none
abbrev pub or_zero : Option ℕ → ℕ
or_zero None = 0
or_zero (Some n) = n

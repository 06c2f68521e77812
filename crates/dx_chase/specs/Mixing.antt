-- Numbers as one number, for a hash.
use Rattle.std.specs.Prelude.{ℕ, ◌+◌, ◌*◌, ◌%◌, ◌^◌, List}
use Rattle.std.specs.List.{fold}

-- a step of 64 bits
abbrev pub mix_one : ℕ → ℕ → ℕ
mix_one all number = ((all * 0x9e37_79b9_7f4a_7c15) % 2 ^ 64 + number) % 2 ^ 64

abbrev pub mixed : List ℕ → ℕ
mixed numbers = fold mix_one 0 numbers

-- What an opened file gives, as far as it is known what its reads will give.
use Rattle.std.specs.Prelude.{◌≡◌, ◌<◌, ◌^◌, ◌-◌, ℕ, List, Option, IfSome, length, min}

-- there is an opened file that gives just these bytes
abbrev pub GivesJust : {F : Type 0} → (F → Option (List ℕ)) → List ℕ → Type 0
GivesJust {F} remaining bytes = (file : F) × IfSome (remaining file) (λ all. bytes ≡ all)

-- there is an opened file that gives more bytes than this, which are at least one less than a number of the machine can be
abbrev pub GivesMore : {F : Type 0} → (F → Option (List ℕ)) → ℕ → Type 0
GivesMore {F} remaining limit = (file : F) × IfSome (remaining file) (λ all. min limit (2 ^ 64 - 2) < length all)

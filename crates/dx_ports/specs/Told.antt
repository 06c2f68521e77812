-- What a port tells, and how that grows.
use Rattle.std.specs.Prelude.{◌≡◌, ◌⊎◌, ◌<◌, ℕ, List, ◌++◌, take, length, Option}
use Rattle.std.specs.Option.{option_map}

-- if the list is told, it is told afterwards and has one more
abbrev pub appended : {A : Type 0} → Option (List A) → List A → Option (List A)
appended told more = option_map (λ xs. xs ++ more) told

-- what is told grew by a prefix of these
abbrev pub GrewByPrefix : {A : Type 0} → Option (List A) → List A → Option (List A) → Type 0
GrewByPrefix old more new = (k : ℕ) × (new ≡ appended old (take k more))

-- what is told is the same, or grew by a prefix of these that lacks some
abbrev pub GrewByPart : {A : Type 0} → Option (List A) → List A → Option (List A) → Type 0
GrewByPart old more new = (new ≡ old) ⊎ ((k : ℕ) × (k < length more) × (new ≡ appended old (take k more)))

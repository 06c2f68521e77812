-- Members of lists.
use Rattle.std.specs.Prelude.{◌≡◌, List, [], ◌∷◌, ◌++◌, map}
use Rattle.std.specs.Borrow.{Bor}

-- x is a member of the list
infix 4 ◌∈◌
pub data ◌∈◌ {X : Type 0} (x : X) : List X → Type 0 where
  here : {y : X} {ys : List X} → y ≡ x → x ∈ (y ∷ ys)
  there : {y : X} {ys : List X} → x ∈ ys → x ∈ (y ∷ ys)

-- every member of A is a member of B
infix 4 ◌⊆◌
abbrev pub ◌⊆◌ : {X : Type 0} → List X → List X → Type 0
◌⊆◌ {X} A B = (x : X) → x ∈ A → x ∈ B

-- each of the two has the members of the other
infix 4 ◌≈◌
abbrev pub ◌≈◌ : {X : Type 0} → List X → List X → Type 0
◌≈◌ A B = (A ⊆ B) × (B ⊆ A)

-- each member has it
abbrev pub Each : {X : Type 0} → List X → (X → Type 0) → Type 0
Each {X} xs P = (x : X) → x ∈ xs → P x

-- no member stands twice
abbrev pub Distinct : {X : Type 0} → List X → Type 0
Distinct [] = Unit {0}
Distinct (x ∷ xs) = (¬ (x ∈ xs)) × Distinct xs

-- the second list begins with the first
abbrev pub IsPrefix : {X : Type 0} → List X → List X → Type 0
IsPrefix {X} front whole = (rest : List X) × (whole ≡ front ++ rest)

-- what stands behind references
abbrev pub behind : {X : Type 0} → List (Bor X) → List X
behind rs = map (λ r. r.now) rs

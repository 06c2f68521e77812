-- Lists for numbers, of which most have none.
use Rattle.std.specs.Prelude.{◌≡◌, ℕ, ◌<◌, zero, suc, ◌≤◌, ◌^◌, List, [], ◌∷◌, map, length, slice_index_or}
use Rattle.dx_chase.specs.Joins.{nth}

abbrev pub list_at : List (List ℕ) → ℕ → List ℕ
list_at xs i = slice_index_or xs i []

-- by number, the list in its slot; slot 0 has none
abbrev pub lists_of : List (List ℕ) → List ℕ → List (List ℕ)
lists_of lists slots = map (list_at ([] ∷ lists)) slots

-- how many numbers have a slot
abbrev pub slots_taken : List ℕ → ℕ
slots_taken [] = 0
slots_taken (zero ∷ xs) = slots_taken xs
slots_taken (suc _ ∷ xs) = suc (slots_taken xs)

-- a slot names a list, and no other number has it
pub record SlotsFit (lists : List (List ℕ)) (slots : List ℕ) : Type 0 where
  pub inside : (v : ℕ) → nth slots v ≤ length lists
  pub apart : (v w : ℕ) → nth slots v ≡ nth slots w → ¬ (nth slots v ≡ 0) → v ≡ w
  pub room : length lists ≤ slots_taken slots
  pub few : length slots < 2 ^ 32

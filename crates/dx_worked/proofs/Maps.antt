-- How many cell maps are used.
use Rattle.std.proofs.Common.{◌≡◌, ℕ, [], ◌∷◌, length, refl}
use Rattle.std.specs.Prelude.{map}
use Rattle.std.specs.List.{range_with_len}
use Rattle.dx_model.specs.declared.rules.Cell.TheVariants.{Var}
use Rattle.dx_model.specs.declared.rules.Atom.{Atom}
use Rattle.dx_model.specs.declared.rules.Rule.{Rule}
use Rattle.dx_model.specs.declared.covers.CellMap.{CellMap}
use Rattle.dx_model.specs.Covers.{cell_maps, used_maps}
use Rattle.dx_cover.specs.Search.{found_after}

abbrev atom : ℕ → Atom
atom x = record { table = 0; cells = Var x ∷ [] }

-- s(x0) -> p(x0)
abbrev one : Rule
one = record { premise = atom 0 ∷ []; derived = []; conclusion = atom 0 ∷ [] }

-- s(x0), s(x1), .. -> p(x0), p(x1), ..
abbrev many : ℕ → Rule
many n = record { premise = map atom (range_with_len 0 n); derived = []; conclusion = map atom (range_with_len 0 n) }

-- x0 becomes this variable
abbrev to : ℕ → CellMap
to x = record { exported = Var x ∷ []; existential = [] }

-- seventeen lead from the one to the other, and the first sixteen are used
seventeen_lead : length (cell_maps one (many 17)) ≡ 17
seventeen_lead = refl

sixteen_are_used : used_maps one (many 17) ≡ map to (range_with_len 0 16)
sixteen_are_used = refl

all_sixteen_are_used : used_maps one (many 16) ≡ map to (range_with_len 0 16)
all_sixteen_are_used = refl

-- after sixteen nothing more is found
no_seventeenth : found_after (map to (range_with_len 0 16)) (to 16 ∷ []) ≡ map to (range_with_len 0 16)
no_seventeenth = refl

a_sixteenth : found_after (map to (range_with_len 0 15)) (to 15 ∷ to 3 ∷ []) ≡ map to (range_with_len 0 16)
a_sixteenth = refl

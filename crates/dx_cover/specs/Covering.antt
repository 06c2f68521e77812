-- The used cell maps between the rules of a list.
use Rattle.std.specs.Prelude.{List, [], map, slice_index_or, ℕ}
use Rattle.dx_model.specs.declared.rules.Rule.{Rule}
use Rattle.dx_model.specs.declared.covers.CellMap.{CellMap}
use Rattle.dx_model.specs.Covers.{used_maps}

-- for each rule, and each rule that it may lead to, the used cell maps in order
abbrev pub covers_of : List Rule → List (List (List CellMap))
covers_of R = map (λ i. map (λ j. used_maps i j) R) R

-- the cell maps from rule number i to rule number j
abbrev pub maps_in : List (List (List CellMap)) → ℕ → ℕ → List CellMap
maps_in covers i j = slice_index_or (slice_index_or covers i []) j []

-- The canonical cells.
use Rattle.std.specs.Prelude.{◌+◌, ◌*◌, ℕ, List, [], ◌∷◌, length}
use Rattle.dx_model.specs.declared.rules.Rule.{Rule}
use Rattle.dx_model.specs.Values.{Rows}
use Rattle.dx_model.specs.Rules.{cells_of}

-- the sum over the rules of the number of places times the number of cells of the conclusion
abbrev pub canonical_cells : List Rule → Rows → ℕ
canonical_cells [] rows = 0
canonical_cells (d ∷ R) [] = 0
canonical_cells (d ∷ R) (ts ∷ rows) = length ts * length (cells_of d.conclusion) + canonical_cells R rows

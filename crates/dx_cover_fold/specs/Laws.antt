-- What the cover fold makes of the canonical instance.
use Rattle.std.specs.Prelude.{◌≡◌, ℕ, List, length}
use Rattle.dx_base.specs.Members.{◌≈◌, Each}
use Rattle.dx_model.specs.declared.rules.Rule.{Rule}
use Rattle.dx_model.specs.Values.{Rows}
use Rattle.dx_model.specs.Instances.{image}
use Rattle.dx_model.specs.Rules.{canonical}
use Rattle.dx_model.specs.Covers.{HasWidths, uncovered_part}
use Rattle.dx_instance.specs.NullMaps.{ByNull, pairs_of}
use Rattle.dx_cover_fold.specs.Folding.{IsCoverFold}

-- the image of the canonical instance under the cover fold is its uncovered part
abbrev pub FoldUncovers : Type 0
FoldUncovers =
    (width : ℕ → ℕ) (R : List Rule) (rows : Rows) (m : ByNull) → Each R (HasWidths width) → length rows ≡ length R
    → IsCoverFold R rows m → image (pairs_of m) (canonical 0 R rows) ≈ uncovered_part R rows

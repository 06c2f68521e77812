-- Names by their first appearance.
use Rattle.std.specs.Prelude.{cond, List, [], ◌∷◌, ◌++◌, flat_map}
use Rattle.dx_base.specs.Texts.{Text}
use Rattle.dx_schema.specs.Faults.{is_among}
use Rattle.dx_schema_text.specs.declared.texts.CellText.{CellText}
use Rattle.dx_schema_text.specs.declared.texts.CellText.TheVariants.{Name, Literal}
use Rattle.dx_schema_text.specs.declared.texts.AtomText.{AtomText}

-- names with one more, which goes last if it is new
abbrev pub with_name : List Text → Text → List Text
with_name names x = cond (is_among x names) names (names ++ x ∷ [])

-- names with others, each at its first appearance
abbrev pub appeared : List Text → List Text → List Text
appeared names [] = names
appeared names (x ∷ xs) = appeared (with_name names x) xs

-- the name in a cell, if there is one that is not known
abbrev pub new_name : List Text → CellText → List Text
new_name known (Name x place) = cond (is_among x known) [] (x ∷ [])
new_name known (Literal t) = []

-- the names in cells that are not known
abbrev pub new_names : List Text → List CellText → List Text
new_names known cells = flat_map (new_name known) cells

-- the cells of atoms
abbrev pub text_cells : List AtomText → List CellText
text_cells atoms = flat_map (λ (a : AtomText). a.cells) atoms

-- the names in atoms that are not known, by first appearance
abbrev pub unknown_names : List Text → List AtomText → List Text
unknown_names known atoms = appeared [] (new_names known (text_cells atoms))

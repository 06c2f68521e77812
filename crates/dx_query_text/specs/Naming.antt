-- What a query text says by numbers, or the first word that is at fault.
use Rattle.std.specs.Prelude.{ℕ, ◌<◌, ◌-◌, ◌^◌, List, [], ◌∷◌, Option, Some, None, cond, eqb, length, map}
use Rattle.dx_base.specs.Firsts.{first_of}
use Rattle.dx_base.specs.Texts.{Text}
use Rattle.dx_schema.specs.Forest.{Forest}
use Rattle.dx_schema.specs.Faults.{is_among}
use Rattle.dx_tokens.specs.declared.faults.TextFault.{TextFault}
use Rattle.dx_tokens.specs.declared.faults.TextFault.TheVariants.{At}
use Rattle.dx_tokens.specs.declared.faults.TextKind.TheVariants.{Unsafe, Width}
use Rattle.dx_schema_text.specs.declared.texts.CellText.{CellText}
use Rattle.dx_schema_text.specs.declared.texts.CellText.TheVariants.{Literal, Name}
use Rattle.dx_tgd_text.specs.Numbering.{unknown_names, text_cells}
use Rattle.dx_tgd_text.specs.Reading.{atoms_fault, atoms_of_texts, cell_of}
use Rattle.dx_queries.specs.declared.query.Part.{Part}
use Rattle.dx_queries.specs.declared.query.Query.{Query}
use Rattle.dx_query_text.specs.declared.texts.PartText.{PartText}

-- the variables of a part, by first appearance in its atoms
abbrev pub part_variables : PartText → List Text
part_variables p = unknown_names [] p.atoms

-- how many cells the answer of the first part has
abbrev pub width_of : List PartText → ℕ
width_of [] = 0
width_of (p ∷ ps) = length p.answer

-- ---- faults

-- a part has as many answer cells as the first
abbrev pub width_fault : ℕ → PartText → Option TextFault
width_fault width p = cond (eqb (length p.answer) width) None (Some (At p.place Width))

-- a variable of the answer stands in an atom
abbrev pub answer_cell_fault : List Text → CellText → Option TextFault
answer_cell_fault variables (Name x place) = cond (is_among x variables) None (Some (At place Unsafe))
answer_cell_fault variables (Literal t) = None

-- the first fault of an answer, from left to right
abbrev pub answer_fault : List Text → List CellText → Option TextFault
answer_fault variables answer = first_of (map (answer_cell_fault variables) answer)

-- of a part its atoms are looked at, then its width, then the cells of its answer
abbrev pub part_fault : Forest → ℕ → PartText → Option TextFault
part_fault f width p =
    first_of (atoms_fault f p.atoms ∷ width_fault width p ∷ answer_fault (part_variables p) p.answer ∷ [])

-- the first fault of a query, part by part
abbrev pub query_fault : Forest → List PartText → Option TextFault
query_fault f parts = first_of (map (part_fault f (width_of parts)) parts)

-- ---- values

abbrev pub part_of_text : Forest → PartText → Part
part_of_text f p =
    record {
      answer = map (cell_of (part_variables p) []) p.answer;
      atoms = atoms_of_texts f (part_variables p) [] p.atoms;
    }

-- the query, by the numbers of what it names
abbrev pub query_of : Forest → List PartText → Query
query_of f parts = record { width = width_of parts; parts = map (part_of_text f) parts }

-- ---- what texts can be read

-- fewer than 4,294,967,295 cells in the atoms, and as few in the answer
pub record PartHasFewCells (p : PartText) : Type 0 where
  pub atoms : length (text_cells p.atoms) < 2 ^ 32 - 1
  pub answer : length p.answer < 2 ^ 32 - 1

-- What holds of every text, and of what is read by numbers.
use Rattle.std.specs.Prelude.{◌≡◌, ◌≤◌, ◌+◌, ◌⊎◌, ℕ, List, None, length}
use Rattle.dx_base.specs.declared.limits.TheConstants.{QUERY_ATOMS}
use Rattle.dx_base.specs.Members.{Each}
use Rattle.dx_schema.specs.Forest.{Forest}
use Rattle.dx_schema.specs.Tables.{schema_widths}
use Rattle.dx_tokens.specs.declared.faults.TextFault.{TextFault}
use Rattle.dx_tgd_text.specs.Numbering.{text_cells}
use Rattle.dx_queries.specs.declared.query.Query.{Query}
use Rattle.dx_queries.specs.Results.{FitsPart, FitsQuery}
use Rattle.dx_query_text.specs.declared.texts.PartText.{PartText}
use Rattle.dx_query_text.specs.Naming.{part_fault, part_of_text}
use Rattle.dx_query_text.specs.Queries.{HasFewAtoms, IsFaultOver, IsPlaced, IsQueryOver}
use Rattle.dx_query_text.specs.Texts.{IsQueryText, IsQueryTextFault}

-- ---- texts

-- a text says parts of at most one query, and it has at most one first fault as a text
abbrev pub OneText : Type 0
OneText = (text : List ℕ) (p q : List PartText) → IsQueryText text p → IsQueryText text q → p ≡ q

abbrev pub OneTextFault : Type 0
OneTextFault = (text : List ℕ) (e f : TextFault) → IsQueryTextFault text e → IsQueryTextFault text f → e ≡ f

-- it has one of the two, and never both
abbrev pub TextOrFault : Type 0
TextOrFault = (text : List ℕ) → ((q : List PartText) × IsQueryText text q) ⊎ ((e : TextFault) × IsQueryTextFault text e)

abbrev pub NeverQueryAndFault : Type 0
NeverQueryAndFault =
    (text : List ℕ) (q : List PartText) (e : TextFault) → IsQueryText text q → ¬ (IsQueryTextFault text e)

-- a part has no more cells than the text has bytes
abbrev pub TextsHaveFewCells : Type 0
TextsHaveFewCells =
    (text : List ℕ) (parts : List PartText) → IsQueryText text parts
    → Each parts (λ p. length p.answer + length (text_cells p.atoms) ≤ length text)

-- ---- queries over a target

-- a text says at most one query over a target, and it has at most one first fault
abbrev pub OneQuery : Type 0
OneQuery =
    (target : Forest) (text : List ℕ) (p q : Query) → IsQueryOver target text p → IsQueryOver target text q → p ≡ q

abbrev pub OneQueryFault : Type 0
OneQueryFault =
    (target : Forest) (text : List ℕ) (e f : TextFault) → IsFaultOver target text e
    → IsFaultOver target text f → e ≡ f

-- it has one of the two, and never both
abbrev pub QueryOrFault : Type 0
QueryOrFault =
    (target : Forest) (text : List ℕ)
    → ((q : Query) × IsQueryOver target text q) ⊎ ((e : TextFault) × IsFaultOver target text e)

abbrev pub NeverSaidAndFaulty : Type 0
NeverSaidAndFaulty =
    (target : Forest) (text : List ℕ) (q : Query) (e : TextFault) → IsQueryOver target text q
    → ¬ (IsFaultOver target text e)

-- its fault has a place and a kind: none is one of depth, and want of memory is none
abbrev pub FaultsArePlaced : Type 0
FaultsArePlaced = (target : Forest) (text : List ℕ) (e : TextFault) → IsFaultOver target text e → IsPlaced e

-- a part without a fault, of not too many atoms, fits the schema
abbrev pub ReadPartsFit : Type 0
ReadPartsFit =
    (f : Forest) (width : ℕ) (p : PartText) → length p.atoms ≤ QUERY_ATOMS → part_fault f width p ≡ None
    → FitsPart (schema_widths f) width (part_of_text f p)

-- so does a query that a text says, if none of its parts has more
abbrev pub ReadQueriesFit : Type 0
ReadQueriesFit =
    (target : Forest) (text : List ℕ) (q : Query) → IsQueryOver target text q → HasFewAtoms q
    → FitsQuery (schema_widths target) q

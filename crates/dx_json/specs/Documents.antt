-- The facts of a document, and its first fault.
use Rattle.std.specs.Prelude.{◌≡◌, ℕ, List, [], ◌∷◌, ◌++◌, Option, Some, None}
use Rattle.std.specs.Prelude.{map, IsUtf8, ⊤, take, drop, if◌then◌else◌}
use Rattle.std.specs.Str.{bytes_eq}
use Rattle.serde_json.specs.Data.{Data, null, boolean, number, string, array, object}
use Rattle.serde_json.specs.Read.{read}
use Rattle.dx_model.specs.declared.facts.Fact.{Fact}
use Rattle.dx_schema.specs.Forest.{Forest, Tree}
use Rattle.dx_schema.specs.Tables.{tree_at}
use Rattle.dx_json.specs.declared.fault.JsonFault.{JsonFault}
use Rattle.dx_json.specs.declared.fault.JsonFault.TheVariants as fault
use Rattle.dx_json.specs.declared.fault.JsonKind.{JsonKind}
use Rattle.dx_json.specs.declared.fault.JsonKind.TheVariants as kind
use Rattle.dx_json.specs.Said.{DocumentItem, says, wrong_shape, wrong_number, unknown_member, items_say, sets_say}

-- what a document says of a set whose table has this number: it is to be an array of objects
abbrev pub tree_says : Tree → ℕ → Data → List DocumentItem
tree_says t table null = wrong_shape [] ∷ []
tree_says t table (boolean b) = wrong_shape [] ∷ []
tree_says t table (number n) = wrong_shape [] ∷ []
tree_says t table (string s) = wrong_shape [] ∷ []
tree_says t table (array ds) =
    items_say t.label t.inner (sets_say t.inner) (record { table = table; up = None; path = [] }) 0 ds
tree_says t table (object ms) = wrong_shape [] ∷ []

-- what a document says of a root of a schema
abbrev pub document_says : Forest → ℕ → Data → List DocumentItem
document_says schema root d = tree_says (tree_at schema root) root d

-- the first fault that is met
abbrev pub first_fault : List DocumentItem → Option JsonKind
first_fault [] = None
first_fault (says f ∷ rest) = first_fault rest
first_fault (wrong_shape path ∷ rest) = Some (kind.Shape path)
first_fault (wrong_number path ∷ rest) = Some (kind.Number path)
first_fault (unknown_member path ∷ rest) = Some (kind.Unknown path)

-- the bytes without one byte order mark
abbrev pub without_mark : List ℕ → List ℕ
without_mark bytes = if bytes_eq (take 3 bytes) (239 ∷ 187 ∷ 191 ∷ []) then drop 3 bytes else bytes

-- the bytes are the text of a value
abbrev pub IsDocument : List ℕ → Data → Type 0
IsDocument bytes d = IsUtf8 (without_mark bytes) × (read (without_mark bytes) ≡ Some d)

-- a refusal tells the first fault that is met
abbrev pub TellsFirstFault : List DocumentItem → JsonFault → Type 0
TellsFirstFault met (fault.Bad k) = first_fault met ≡ Some k
TellsFirstFault met fault.Memory = ⊤

-- what was met so far: facts alone, which were added, or else a first fault
abbrev pub FactsOrFirstFault : Option JsonKind → List Fact → List Fact → List DocumentItem → Type 0
FactsOrFirstFault None old new met = map says new ≡ map says old ++ met
FactsOrFirstFault (Some k) old new met = first_fault met ≡ Some k

-- why the value that was read, if one was, says no facts
abbrev pub Refuses : Option Data → (Data → List DocumentItem) → JsonFault → Type 0
Refuses None said (fault.Bad k) = k ≡ kind.NotJson
Refuses (Some d) said (fault.Bad k) = first_fault (said d) ≡ Some k
Refuses o said fault.Memory = ⊤

-- the bytes are a document that says these facts of the root, and no fault
abbrev pub SaysFacts : List ℕ → Forest → ℕ → List Fact → Type 0
SaysFacts bytes schema root facts = (d : Data) × IsDocument bytes d × (document_says schema root d ≡ map says facts)

-- why bytes give no facts: they are no document, or this is the first fault of what their document says of the root
abbrev pub IsFirstDocumentFault : List ℕ → Forest → ℕ → JsonKind → Type 0
IsFirstDocumentFault bytes schema root kind.NotJson = (d : Data) → ¬ (IsDocument bytes d)
IsFirstDocumentFault bytes schema root k =
    (d : Data) × IsDocument bytes d × (first_fault (document_says schema root d) ≡ Some k)

-- why a document was not read: its first fault, or memory ran out
abbrev pub HasDocumentFault : List ℕ → Forest → ℕ → JsonFault → Type 0
HasDocumentFault bytes schema root (fault.Bad k) = IsFirstDocumentFault bytes schema root k
HasDocumentFault bytes schema root fault.Memory = ⊤

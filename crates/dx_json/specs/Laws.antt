-- The laws of documents and of nested texts. Each is a clause of a public function with an empty body.
use Rattle.std.specs.Prelude.{◌≡◌, ◌<◌, ◌⊎◌, ℕ, List, None, length}
use Rattle.dx_model.specs.declared.facts.Fact.{Fact}
use Rattle.dx_model.specs.Tables.{IsInstance}
use Rattle.dx_schema.specs.Forest.{Forest}
use Rattle.dx_schema.specs.Tables.{model_tables, schema_table, tables_of}
use Rattle.dx_instance.specs.Stored.{TableRows}
use Rattle.dx_json.specs.declared.fault.JsonKind.{JsonKind}
use Rattle.dx_json.specs.Documents.{IsFirstDocumentFault, SaysFacts}
use Rattle.dx_json.specs.Nesting.{IsNestedText}

-- bytes say no two lists of facts
abbrev pub FactsAreOne : Type 0
FactsAreOne =
    (bytes : List ℕ) (schema : Forest) (root : ℕ) (a b : List Fact) → SaysFacts bytes schema root a
    → SaysFacts bytes schema root b → a ≡ b

-- bytes have no two first faults
abbrev pub OneDocumentFault : Type 0
OneDocumentFault =
    (bytes : List ℕ) (schema : Forest) (root : ℕ) (a b : JsonKind)
    → IsFirstDocumentFault bytes schema root a → IsFirstDocumentFault bytes schema root b → a ≡ b

-- bytes say facts, or they have a first fault
abbrev pub FactsOrFault : Type 0
FactsOrFault =
    (bytes : List ℕ) (schema : Forest) (root : ℕ)
    → ((facts : List Fact) × SaysFacts bytes schema root facts)
    ⊎ ((k : JsonKind) × IsFirstDocumentFault bytes schema root k)

-- and never both
abbrev pub NeverFactsAndFault : Type 0
NeverFactsAndFault =
    (bytes : List ℕ) (schema : Forest) (root : ℕ) (facts : List Fact) (k : JsonKind)
    → SaysFacts bytes schema root facts → ¬ (IsFirstDocumentFault bytes schema root k)

-- the facts that bytes say of a root fit the tables of its schema
abbrev pub DocumentFactsFit : Type 0
DocumentFactsFit =
    (bytes : List ℕ) (schema : Forest) (root : ℕ) (facts : List Fact) → root < length (tables_of schema)
    → (schema_table schema root).parent ≡ None
    → SaysFacts bytes schema root facts → IsInstance (model_tables schema) facts

-- a root of an instance has no two nested texts
abbrev pub NestedTextIsOne : Type 0
NestedTextIsOne =
    (I : List TableRows) (schema : Forest) (root : ℕ) (a b : List ℕ) → IsNestedText I schema root a
    → IsNestedText I schema root b → a ≡ b

-- and it has one
abbrev pub HasNestedText : Type 0
HasNestedText = (I : List TableRows) (schema : Forest) (root : ℕ) → (text : List ℕ) × IsNestedText I schema root text

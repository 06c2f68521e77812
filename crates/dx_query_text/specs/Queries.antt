-- The query that a text says over a target, and its first fault.
use Rattle.std.specs.Prelude.{◌≡◌, ◌⊎◌, ◌≤◌, ℕ, List, length, Option, Some, None, Result, Ok, Err}
use Rattle.dx_base.specs.declared.limits.TheConstants.{QUERY_ATOMS}
use Rattle.dx_base.specs.Members.{Each}
use Rattle.dx_schema.specs.Forest.{Forest}
use Rattle.dx_tokens.specs.declared.faults.TextFault.{TextFault}
use Rattle.dx_tokens.specs.declared.faults.TextFault.TheVariants.{At, Memory, TooDeep}
use Rattle.dx_tokens.specs.Judged.{Reads}
use Rattle.dx_queries.specs.declared.query.Query.{Query}
use Rattle.dx_query_text.specs.declared.texts.PartText.{PartText}
use Rattle.dx_query_text.specs.Naming.{query_fault, query_of}
use Rattle.dx_query_text.specs.Texts.{IsQueryText, IsQueryTextFault, query_of_text}

-- the text says parts without a fault, which are this query by numbers
abbrev pub IsQueryOver : Forest → List ℕ → Query → Type 0
IsQueryOver target text q =
    (parts : List PartText) × IsQueryText text parts × (query_fault target parts ≡ None)
    × (q ≡ query_of target parts)

-- the text's first fault as a text, or if it says parts, the first word in them that is at fault
abbrev pub IsFaultOver : Forest → List ℕ → TextFault → Type 0
IsFaultOver target text e =
    IsQueryTextFault text e ⊎ ((parts : List PartText) × IsQueryText text parts
    × (query_fault target parts ≡ Some e))

-- a fault that is told is the first, unless memory ran out
abbrev pub IsQueryFaultOrMemory : Forest → List ℕ → TextFault → Type 0
IsQueryFaultOrMemory target text e = (e ≡ Memory) ⊎ IsFaultOver target text e

-- a fault at a place of the text, which is none of depth
abbrev pub IsPlaced : TextFault → Type 0
IsPlaced (At place kind) = Unit {0}
IsPlaced (TooDeep place) = ⊥
IsPlaced Memory = ⊥

-- no part has too many atoms
abbrev pub HasFewAtoms : Query → Type 0
HasFewAtoms q = Each q.parts (λ p. length p.atoms ≤ QUERY_ATOMS)

-- ---- the answer, as it is computed

-- what is answered of parts with this first fault
abbrev pub query_unless_fault : Forest → List PartText → Option TextFault → Result Query TextFault
query_unless_fault target parts None = Ok (query_of target parts)
query_unless_fault target parts (Some e) = Err e

-- what is answered of parts that are read
abbrev pub named_read : Forest → Result (List PartText) TextFault → Result Query TextFault
named_read target (Ok parts) = query_unless_fault target parts (query_fault target parts)
named_read target (Err e) = Err e

-- what is answered of a text
abbrev pub read_over : Forest → List ℕ → Result Query TextFault
read_over target text = named_read target (query_of_text text)

-- whatever query the text says is answered, and whatever first fault it has
abbrev pub AnswersQuery : Forest → List ℕ → Result Query TextFault → Type 0
AnswersQuery target text r = (q : Query) → IsQueryOver target text q → Reads r (Ok q)

abbrev pub AnswersQueryFault : Forest → List ℕ → Result Query TextFault → Type 0
AnswersQueryFault target text r = (e : TextFault) → IsFaultOver target text e → Reads r (Err e)

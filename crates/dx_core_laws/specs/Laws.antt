-- The laws of cores. Each is the clause of a public function with an empty body.
use Rattle.std.specs.Prelude.{◌≡◌, ◌↔◌, ◌≤◌, ℕ, List, length}
use Rattle.dx_base.specs.Members.{◌⊆◌, ◌≈◌}
use Rattle.dx_model.specs.declared.facts.Fact.{Fact}
use Rattle.dx_model.specs.declared.facts.NullPair.{NullPair}
use Rattle.dx_model.specs.declared.rules.Rule.{Rule}
use Rattle.dx_model.specs.Values.{Conversions, Tuple}
use Rattle.dx_model.specs.Instances.{IsCore, IsHomomorphism, MapsInto, image}
use Rattle.dx_model.specs.Tables.{Table}
use Rattle.dx_model.specs.Blocks.{IsEquivalentPart}
use Rattle.dx_model.specs.Solutions.{IsSolution, IsUniversal}
use Rattle.dx_instance.specs.Stored.{TableRows, facts, rows_of}
use Rattle.dx_stages.specs.Stages.{over}
use Rattle.dx_stages.specs.Laws.{PassesOne}
use Rattle.dx_exchange.specs.declared.mode.Mode.TheVariants as modes
use Rattle.dx_exchange.specs.declared.result.Exchange.{Exchange}
use Rattle.dx_exchange.specs.Exchanging.{ExchangeInput, IsExchange, exchanging}
use Rattle.dx_queries.specs.declared.query.Query.{Query}
use Rattle.dx_queries.specs.Queries.{IsCertain}
use Rattle.dx_queries.specs.Results.{AreConstantAnswers}
use Rattle.dx_judge.specs.declared.verdict.Verdict.TheVariants as verdicts
use Rattle.dx_judge.specs.Verdicts.{IsVerdict, JudgeInput}
use Rattle.dx_core_laws.specs.Isomorphic.{AreAlike, AreIsomorphic, OfOneSource}
use Rattle.dx_core_laws.specs.Isomorphic.{IsIsomorphism, NoMoreFacts, NoMoreNulls}

-- ---- isomorphisms

-- each instance is isomorphic to itself and to each with the same facts, isomorphisms turn round,
-- and follow one another
abbrev pub SameAreIsomorphic : Type 0
SameAreIsomorphic = (A B : List Fact) → A ≈ B → AreIsomorphic A B

abbrev pub IsomorphismsTurn : Type 0
IsomorphismsTurn = (A B : List Fact) → AreIsomorphic A B → AreIsomorphic B A

abbrev pub IsomorphismsJoin : Type 0
IsomorphismsJoin = (A B C : List Fact) → AreIsomorphic A B → AreIsomorphic B C → AreIsomorphic A C

-- isomorphic instances have as many facts in each table, and as many nulls
abbrev pub IsomorphicAreAsMany : Type 0
IsomorphicAreAsMany =
    (A B : List Fact) → AreIsomorphic A B → NoMoreFacts A B × NoMoreFacts B A × NoMoreNulls A B × NoMoreNulls B A

-- what is isomorphic to a core is a core
abbrev pub IsomorphicToCore : Type 0
IsomorphicToCore = (A B : List Fact) → AreIsomorphic A B → IsCore A → IsCore B

-- what is isomorphic to a universal solution is one
abbrev pub IsomorphicToUniversal : Type 0
IsomorphicToUniversal =
    (convert : Conversions) (R : List Rule) (schema : List Table) (I A B : List Fact)
    → AreIsomorphic A B → IsUniversal convert R schema I A → IsUniversal convert R schema I B

-- ---- the core is one

-- of two cores that map into each other each homomorphism is an isomorphism
abbrev pub EquivalentCoresAreAlike : Type 0
EquivalentCoresAreAlike =
    (A B : List Fact) (h : List NullPair) → IsCore A → IsCore B → MapsInto B A → IsHomomorphism h A B
    → IsIsomorphism h A B

-- two universal solutions that are cores are isomorphic
abbrev pub CoresAreAlike : Type 0
CoresAreAlike =
    (convert : Conversions) (R : List Rule) (schema : List Table) (I T U : List Fact)
    → IsUniversal convert R schema I T → IsCore T → IsUniversal convert R schema I U → IsCore U → AreIsomorphic T U

-- so of one universal solution that is a core: the others are exactly what is isomorphic to it
abbrev pub CoresExactly : Type 0
CoresExactly =
    (convert : Conversions) (R : List Rule) (schema : List Table) (I T U : List Fact)
    → IsUniversal convert R schema I T → IsCore T → (IsUniversal convert R schema I U × IsCore U) ↔ AreIsomorphic T U

-- ---- the core is the least

-- A universal solution that is a core is isomorphic to a part of each universal solution. The whole maps into this
-- part, which is universal and a core too.
abbrev pub CoreIsPart : Type 0
CoreIsPart =
    (convert : Conversions) (R : List Rule) (schema : List Table) (I T U : List Fact)
    → IsUniversal convert R schema I T → IsCore T → IsUniversal convert R schema I U
    → (P : List Fact) × IsEquivalentPart U P × IsUniversal convert R schema I P × IsCore P × AreIsomorphic T P

-- it has no more facts in any table, and no more nulls, than any universal solution
abbrev pub CoreIsLeast : Type 0
CoreIsLeast =
    (convert : Conversions) (R : List Rule) (schema : List Table) (I T U : List Fact)
    → IsUniversal convert R schema I T → IsCore T → IsUniversal convert R schema I U → NoMoreFacts T U × NoMoreNulls T U

-- a universal solution that has no more facts than any other is a core
abbrev pub LeastIsCore : Type 0
LeastIsCore =
    (convert : Conversions) (R : List Rule) (schema : List Table) (I T : List Fact)
    → IsUniversal convert R schema I T
    → ((U : List Fact) → IsUniversal convert R schema I U → NoMoreFacts T U) → IsCore T

-- the image of a universal solution under an endomorphism is a universal solution
abbrev pub ImageIsUniversal : Type 0
ImageIsUniversal =
    (convert : Conversions) (R : List Rule) (schema : List Table) (I T : List Fact) (h : List NullPair)
    → IsUniversal convert R schema I T → IsHomomorphism h T T → IsUniversal convert R schema I (image h T)

-- a core that is a part of a universal solution, into which the whole maps, is one
abbrev pub ReductIsUniversal : Type 0
ReductIsUniversal =
    (convert : Conversions) (R : List Rule) (schema : List Table) (I U T : List Fact)
    → IsUniversal convert R schema I U → IsEquivalentPart U T → IsCore T → IsUniversal convert R schema I T

-- where there is a universal solution, a part of it is one that is a core
abbrev pub UniversalHasCore : Type 0
UniversalHasCore =
    (convert : Conversions) (R : List Rule) (schema : List Table) (I U : List Fact)
    → IsUniversal convert R schema I U → (T : List Fact) × (T ⊆ U) × IsUniversal convert R schema I T × IsCore T

-- ---- the exchange is one

-- a plain exchange of the same rules and rows is one: the matches, the fold and the target
abbrev pub PlainIsOne : Type 0
PlainIsOne =
    (convert : Conversions) (a b : ExchangeInput) (e d : Exchange) → OfOneSource a b
    → a.mode ≡ modes.Plain → b.mode ≡ modes.Plain
    → IsExchange convert a e → IsExchange convert b d → e ≡ d

-- what is asked, in plain mode
abbrev pub in_plain_mode : ExchangeInput → ExchangeInput
in_plain_mode a = record a { mode = modes.Plain }

-- so as a stage the exchange in plain mode passes one value alone
abbrev pub PlainPassesOne : Type 0
PlainPassesOne = (convert : Conversions) → PassesOne (over in_plain_mode (exchanging convert))

-- in core mode it is one up to the names of the target's nulls
abbrev pub CoreModeIsOne : Type 0
CoreModeIsOne =
    (convert : Conversions) (a b : ExchangeInput) (e d : Exchange) → OfOneSource a b
    → a.mode ≡ modes.Core → b.mode ≡ modes.Core
    → IsExchange convert a e → IsExchange convert b d → AreAlike e d

-- the target of core mode has in each table at most as many rows as any universal solution, and no more nulls
abbrev pub CoreModeIsLeast : Type 0
CoreModeIsLeast =
    (convert : Conversions) (a : ExchangeInput) (e : Exchange) (K : List TableRows)
    → a.mode ≡ modes.Core → IsExchange convert a e
    → IsUniversal convert a.rules a.schema a.rows (facts K)
    → ((t : ℕ) → length (rows_of e.target t) ≤ length (rows_of K t)) × NoMoreNulls (facts e.target) (facts K)

-- it is isomorphic to a part of the plain target
abbrev pub CoreModeIsPart : Type 0
CoreModeIsPart =
    (convert : Conversions) (a b : ExchangeInput) (e d : Exchange) → OfOneSource a b
    → a.mode ≡ modes.Core → b.mode ≡ modes.Plain
    → IsExchange convert a e → IsExchange convert b d
    → ((P : List Fact) × (P ⊆ facts d.target) × AreIsomorphic (facts e.target) P)
    × ((t : ℕ) → length (rows_of e.target t) ≤ length (rows_of d.target t))

-- ---- the judge

-- an instance has the verdict `Core` exactly if it is isomorphic to what core mode makes
abbrev pub CoreVerdictExactly : Type 0
CoreVerdictExactly =
    (convert : Conversions) (a : JudgeInput) (b : ExchangeInput) (e : Exchange)
    → a.rules ≡ b.rules → a.schema ≡ b.schema → a.rows ≈ b.rows → b.mode ≡ modes.Core → IsExchange convert b e
    → IsVerdict convert a verdicts.Core ↔ AreIsomorphic a.given (facts e.target)

-- ---- more source rows

-- what is a solution of more rows is one of fewer
abbrev pub SolvesFewer : Type 0
SolvesFewer =
    (convert : Conversions) (R : List Rule) (schema : List Table) (I J K : List Fact)
    → I ⊆ J → IsSolution convert R schema J K → IsSolution convert R schema I K

-- a universal solution of fewer rows maps into each one of more
abbrev pub FewerMapsIntoMore : Type 0
FewerMapsIntoMore =
    (convert : Conversions) (R : List Rule) (schema : List Table) (I J T U : List Fact)
    → I ⊆ J → IsUniversal convert R schema I T → IsUniversal convert R schema J U → MapsInto T U

-- more rows lose no certain answer
abbrev pub CertainStays : Type 0
CertainStays =
    (convert : Conversions) (R : List Rule) (schema : List Table) (I J : List Fact) (q : Query) (t : Tuple)
    → I ⊆ J → IsCertain convert R schema I q t → IsCertain convert R schema J q t

-- so of universal solutions of fewer and of more rows: each constant answer on the one is one on the other
abbrev pub AnswersGrow : Type 0
AnswersGrow =
    (convert : Conversions) (R : List Rule) (schema : List Table) (I J T U : List Fact) (q : Query)
    (rows others : List Tuple)
    → I ⊆ J → IsUniversal convert R schema I T → IsUniversal convert R schema J U
    → AreConstantAnswers T q rows → AreConstantAnswers U q others → rows ⊆ others

-- the rows' members alone decide what is universal
abbrev pub UniversalByRows : Type 0
UniversalByRows =
    (convert : Conversions) (R : List Rule) (schema : List Table) (I J T : List Fact)
    → I ≈ J → IsUniversal convert R schema I T → IsUniversal convert R schema J T

-- What holds of verdicts. Each law is the clause of a public function with an empty body.
use Rattle.std.specs.Prelude.{◌≡◌, List}
use Rattle.dx_base.specs.Members.{◌≈◌}
use Rattle.dx_model.specs.declared.facts.Fact.{Fact}
use Rattle.dx_model.specs.declared.rules.Rule.{Rule}
use Rattle.dx_model.specs.Values.{Conversions, Rows}
use Rattle.dx_model.specs.Instances.{IsCore}
use Rattle.dx_model.specs.Tables.{IsInstance, Table}
use Rattle.dx_model.specs.Rules.{AreRows, canonical}
use Rattle.dx_model.specs.Chase.{NoneReceives}
use Rattle.dx_model.specs.Solutions.{IsSolution, IsUniversal}
use Rattle.dx_stages.specs.Laws.{IsDecided}
use Rattle.dx_funcs.specs.declared.conversion.Conversion.{Conversion}
use Rattle.dx_exchange.specs.Exchanging.{RulesFitSchemas}
use Rattle.dx_judge.specs.declared.verdict.Why.{Why}
use Rattle.dx_judge.specs.declared.verdict.Why.TheVariants as whys
use Rattle.dx_judge.specs.declared.verdict.Verdict.{Verdict}
use Rattle.dx_judge.specs.declared.verdict.Verdict.TheVariants as verdicts
use Rattle.dx_judge.specs.declared.fault.JudgeFault.{JudgeFault}
use Rattle.dx_judge.specs.Verdicts.{IsVerdict, JudgeInput, judging}

-- what a verdict says of what is given
abbrev pub VerdictSays : Conversions → JudgeInput → Verdict → Type 0
VerdictSays convert a (verdicts.NotSolution why) = ¬ (IsSolution convert a.rules a.schema a.rows a.given)
VerdictSays convert a (verdicts.Solution other) =
    IsSolution convert a.rules a.schema a.rows a.given × (¬ (IsUniversal convert a.rules a.schema a.rows a.given))
VerdictSays convert a (verdicts.Universal map missed) =
    IsUniversal convert a.rules a.schema a.rows a.given × (¬ (IsCore a.given))
VerdictSays convert a verdicts.Core = IsUniversal convert a.rules a.schema a.rows a.given × IsCore a.given

-- a verdict says it truly
abbrev pub VerdictsSay : Type 0
VerdictsSay = (convert : Conversions) (a : JudgeInput) (v : Verdict) → IsVerdict convert a v → VerdictSays convert a v

-- reasons of one place of a rule, of one determination of a table, of one link of a table
abbrev pub SameWhy : Why → Why → Type 0
SameWhy (whys.Rule i k) (whys.Rule j l) = (i ≡ j) × (k ≡ l)
SameWhy (whys.Key t k one other c) (whys.Key u l two more d) = (t ≡ u) × (k ≡ l)
SameWhy (whys.Link t row l) (whys.Link u other m) = (t ≡ u) × (l ≡ m)
SameWhy _ _ = ⊥

-- verdicts of one kind, and if they give reasons, these are one
abbrev pub SameKind : Verdict → Verdict → Type 0
SameKind (verdicts.NotSolution why) (verdicts.NotSolution other) = SameWhy why other
SameKind (verdicts.Solution K) (verdicts.Solution L) = Unit {0}
SameKind (verdicts.Universal h f) (verdicts.Universal k g) = Unit {0}
SameKind verdicts.Core verdicts.Core = Unit {0}
SameKind _ _ = ⊥

-- two verdicts on one instance are of one kind
abbrev pub VerdictsAreOne : Type 0
VerdictsAreOne =
    (convert : Conversions) (a : JudgeInput) (v w : Verdict) → IsVerdict convert a v
    → IsVerdict convert a w → SameKind v w

-- rules that fit, and an instance of the target's schema
pub record InputFits (list : List Conversion) (source : List Table) (a : JudgeInput) : Type 0 where
  pub fits : RulesFitSchemas list a.rules source a.schema
  pub given_fits : IsInstance a.schema a.given

-- each instance of the target's schema has a verdict
abbrev pub EachHasVerdict : Type 0
EachHasVerdict =
    (convert : Conversions) (list : List Conversion) (source : List Table) (a : JudgeInput)
    → InputFits list source a → (v : Verdict) × IsVerdict convert a v

-- what counts of an instance that is judged are its members
abbrev pub VerdictByMembers : Type 0
VerdictByMembers =
    (convert : Conversions) (a : JudgeInput) (K : List Fact) (v : Verdict)
    → a.given ≈ K → IsVerdict convert a v → IsVerdict convert (record a { given = K }) v

-- what counts of the source rows are the rows of the rules on them
abbrev pub VerdictByMatches : Type 0
VerdictByMatches =
    (convert : Conversions) (a : JudgeInput) (J : List Fact) (rows : Rows) (v : Verdict)
    → AreRows convert a.rules a.rows rows → AreRows convert a.rules J rows → IsVerdict convert a v
    → IsVerdict convert (record a { rows = J }) v

-- the canonical instance of a solution has no clash: some instance in which keys hold receives it
abbrev pub NoClash : Type 0
NoClash =
    (convert : Conversions) (R : List Rule) (schema : List Table) (I K : List Fact) (rows : Rows)
    → AreRows convert R I rows → IsSolution convert R schema I K → ¬ (NoneReceives schema (canonical 0 R rows))

-- two reasons why there is no verdict are one
abbrev pub SameFault : JudgeFault → JudgeFault → Type 0
SameFault e f = e ≡ f

-- what fits is judged, or the canonical cells pass the limit, and never both
abbrev pub JudgedOrLimit : Type 0
JudgedOrLimit =
    (convert : Conversions) (list : List Conversion) (source : List Table)
    → IsDecided SameFault (InputFits list source) (judging convert)

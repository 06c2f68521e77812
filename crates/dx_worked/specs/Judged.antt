-- What is said of given targets that are no solutions: one that lacks a row which a rule makes, and one in which a key
-- doesn't hold.
use Rattle.std.specs.Prelude.{◌≡◌, ℕ, List, [], ◌∷◌, codes}
use Rattle.dx_base.specs.Texts.{Text}
use Rattle.dx_ports.specs.States.{OutputState}
use Rattle.dx_model.specs.declared.values.Value.TheVariants.{Const, Null}
use Rattle.dx_model.specs.declared.rules.Cell.{Cell}
use Rattle.dx_model.specs.declared.rules.Cell.TheVariants.{Var, Ex}
use Rattle.dx_model.specs.declared.rules.Rule.{Rule}
use Rattle.dx_model.specs.Values.{Conversions}
use Rattle.dx_stages.specs.Ending.{PlanContent}
use Rattle.dx_stages.specs.Worlds.{World}
use Rattle.dx_schema.specs.Forest.{Forest, bare_set, none, set}
use Rattle.dx_instance.specs.Stored.{TableRows}
use Rattle.dx_judge.specs.declared.verdict.Verdict.{Verdict}
use Rattle.dx_judge.specs.declared.verdict.Verdict.TheVariants as verdicts
use Rattle.dx_judge.specs.declared.verdict.Why.TheVariants as whys
use Rattle.dx_judge.specs.Verdicts.{IsJudgement}
use Rattle.clio_accept.specs.declared.mapping.Mapping.{Mapping}
use Rattle.clio_ending.specs.declared.ending.Done.{Done}
use Rattle.clio_ending.specs.declared.ending.Done.TheVariants.{Judged}
use Rattle.clio_steps.specs.Outcomes.{wrote_all}
use Rattle.clio_steps.specs.Steps.{Program}
use Rattle.clio_judge.specs.Judging.{judged, judged_plan}
use Rattle.clio_judge.specs.Outcomes.{IsJudgedIn}

-- ---- a row is lacking

-- employees and their telephones
abbrev pub emps_and_phones : Forest
emps_and_phones =
    set (bare_set (codes "emp") (codes "name" ∷ [])) none
    (set (bare_set (codes "phone") (codes "name" ∷ codes "num" ∷ [])) none none)

abbrev pub persons : Forest
persons = set (bare_set (codes "person") (codes "name" ∷ codes "num" ∷ [])) none none

-- a rule of one atom from the table of this number to persons
abbrev pub to_person : ℕ → List Cell → Cell → Rule
to_person table cells num = record {
  premise = record { table = table; cells = cells } ∷ [];
  derived = [];
  conclusion = record { table = 0; cells = Var 0 ∷ num ∷ [] } ∷ [];
}

-- `emp(x0) -> person(x0, y0)` and `phone(x0, x1) -> person(x0, x1)`
abbrev pub of_persons : Mapping
of_persons = record {
  source = emps_and_phones;
  target = persons;
  conditions = [];
  rules = to_person 0 (Var 0 ∷ []) (Ex 0) ∷ to_person 1 (Var 0 ∷ Var 1 ∷ []) (Var 1) ∷ [];
}

-- ann, and her telephone
abbrev pub ann_with_phone : List TableRows
ann_with_phone =
    record { width = 1; rows = (Const (codes "ann") ∷ []) ∷ [] }
    ∷ record { width = 2; rows = (Const (codes "ann") ∷ Const (codes "555") ∷ []) ∷ [] }
    ∷ []

-- a person whose telephone is not known
abbrev pub without_phone : List TableRows
without_phone =
    record {
      width = 2;
      rows = (Const (codes "ann") ∷ Null (record { rule = 0; var = 0; row = 0 }) ∷ []) ∷ [];
    } ∷ []

-- each verdict on that is, that a rule isn't satisfied
abbrev pub RuleIsMissed : Type 0
RuleIsMissed =
    (convert : Conversions) (v : Verdict)
    → IsJudgement convert (judged ((of_persons, ann_with_phone), without_phone)) v
    → (rule : ℕ) × (place : ℕ) × (v ≡ verdicts.NotSolution (whys.Rule rule place))

-- ---- a key doesn't hold

-- `p(x0, x1) -> person(x0, x1)`, where the first column of persons is their key
abbrev pub keyed_persons : Mapping
keyed_persons = record {
  source = set (bare_set (codes "p") (codes "id" ∷ codes "name" ∷ [])) none none;
  target =
      set
      (record {
        name = codes "person";
        columns = codes "id" ∷ codes "name" ∷ [];
        keys = record { columns = codes "id" ∷ [] } ∷ [];
        deps = [];
        refs = [];
      })
      none none;
  conditions = [];
  rules = to_person 0 (Var 0 ∷ Var 1 ∷ []) (Var 1) ∷ [];
}

-- two persons of one number
abbrev pub two_of_one : Verdict
two_of_one =
    verdicts.NotSolution
    (whys.Key 0 0 (Const (codes "1") ∷ Const (codes "ann") ∷ []) (Const (codes "1") ∷ Const (codes "bob") ∷ []) 1)

abbrev pub said_of_them : Text
said_of_them = codes "verdict not a solution: key 0 of table person\n"

-- the line that is said names the set of the target
abbrev pub TargetSetIsNamed : Type 0
TargetSetIsNamed =
    judged_plan (keyed_persons, two_of_one)
    ≡ record { done = Judged two_of_one; files = []; text = said_of_them }

-- and so it is in whatever world this is the verdict
abbrev pub TargetSetIsSaid : Type 0
TargetSetIsSaid =
    (P : Program) (c : World) (before after : OutputState)
    → (j : IsJudgedIn P c two_of_one (wrote_all before after)) → j.mapping ≡ keyed_persons
    → wrote_all before after [] said_of_them

-- A target without the telephone that a rule asks for satisfies no list of rules with that rule, so that each verdict on it is that a
-- rule isn't satisfied.
use Rattle.std.proofs.Common.{◌≡◌, ℕ, zero, suc, [], ◌∷◌, refl, ap, subst}
use Rattle.std.specs.Prelude.{codes}
use Rattle.dx_base.specs.Members.{◌∈◌, Each, here, there}
use Rattle.dx_base.specs.Texts.{Text}
use Rattle.dx_model.specs.declared.facts.Fact.{Fact}
use Rattle.dx_model.specs.declared.rules.Atom.{Atom}
use Rattle.dx_model.specs.declared.rules.Cell.TheVariants.{Var}
use Rattle.dx_model.specs.declared.rules.Rule.{Rule}
use Rattle.dx_model.specs.declared.values.Value.{Value}
use Rattle.dx_model.specs.Following.{SatisfyAll}
use Rattle.dx_model.specs.Rules.{IsMatch, Satisfies, fact_of_atom, premise_fact}
use Rattle.dx_model.specs.Values.{Conversions}
use Rattle.dx_instance.specs.Stored.{facts}
use Rattle.dx_judge.specs.declared.verdict.Verdict.{Verdict}
use Rattle.dx_judge.specs.declared.verdict.Verdict.TheVariants as verdicts
use Rattle.dx_judge.specs.declared.verdict.Why.TheVariants as whys
use Rattle.dx_judge.specs.Verdicts.{IsVerdict}
use Rattle.clio_judge.specs.Judging.{judged}
use Rattle.dx_worked.specs.Judged.{RuleIsMissed, ann_with_phone, of_persons, to_person, without_phone}

abbrev phone_rule : Rule
phone_rule = to_person 1 (Var 0 ∷ Var 1 ∷ []) (Var 1)

-- the texts of ann and her telephone
texts : ℕ → Text
texts zero = codes "ann"
texts (suc x) = codes "555"

module _ (convert : Conversions) where
  -- which make a match
  is_match : IsMatch convert phone_rule (facts ann_with_phone) texts
  unfolding texts
  is_match = record { premise = λ a m. premise a m; derived = tt }
    where
      premise : (a : Atom) → a ∈ phone_rule.premise → premise_fact texts a ∈ facts ann_with_phone
      premise a (here e) = subst (λ (b : Atom). premise_fact texts b ∈ facts ann_with_phone) e (there (here refl))
      premise a (there m) = elim m [ ]

  not_satisfied : ¬ (Satisfies convert phone_rule (facts ann_with_phone) (facts without_phone))
  unfolding texts
  not_satisfied s = let w = s texts is_match in of w.0 (w.1 _ (here refl))
    where
      of : (values : ℕ → Value) → ¬ (fact_of_atom texts values (record { table = 0; cells = Var 0 ∷ Var 1 ∷ [] }) ∈ facts without_phone)
      of values (here e) = let row = ap (λ (f : Fact). f.row) e in absurd (cc row)
      of values (there m) = elim m [ ]

  not_all : ¬ (SatisfyAll convert of_persons.rules (facts ann_with_phone) (facts without_phone))
  not_all s = not_satisfied (s phone_rule (there (here refl)))

  missed : (v : Verdict) → IsVerdict convert (judged ((of_persons, ann_with_phone), without_phone)) v
      → (rule : ℕ) × (place : ℕ) × (v ≡ verdicts.NotSolution (whys.Rule rule place))
  missed (verdicts.NotSolution (whys.Rule i k)) h = (i, k, refl)
  missed (verdicts.NotSolution (whys.Key t k one other c)) h = absurd (not_all h.rules_hold)
  missed (verdicts.NotSolution (whys.Link t row l)) h = absurd (not_all h.rules_hold)
  missed (verdicts.Solution other) h = absurd (not_all h.solution.rules)
  missed (verdicts.Universal map fact) h = absurd (not_all h.universal.solution.rules)
  missed verdicts.Core h = absurd (not_all h.universal.solution.rules)

pub rule_is_missed : RuleIsMissed
rule_is_missed convert v j = missed convert v j.verdict

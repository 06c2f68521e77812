-- Questions of the judge on small values: which terms stand for which, which constants have no number, and what a refusal says.
use Rattle.std.proofs.Common.{◌≡◌, ℕ, [], ◌∷◌, refl, ap, arith}
use Rattle.dx_base.specs.Members.{◌∈◌, Each, here, there}
use Rattle.dx_base.specs.declared.file.Count.TheVariants.{TargetCells}
use Rattle.dx_base.specs.declared.file.Limit.{Limit}
use Rattle.dx_base.specs.Texts.{Text}
use Rattle.dx_model.specs.declared.values.NullId.{NullId}
use Rattle.dx_model.specs.declared.values.Value.{Value}
use Rattle.dx_model.specs.declared.values.Value.TheVariants.{Const, Null}
use Rattle.dx_model.specs.declared.facts.Fact.{Fact}
use Rattle.dx_model.specs.declared.rules.Cell.TheVariants.{Var, Ex}
use Rattle.dx_model.specs.declared.rules.Rule.{Rule}
use Rattle.dx_model.specs.Values.{Conversions, Rows}
use Rattle.dx_model.specs.Rules.{fact_of_atom, text_of, exported}
use Rattle.dx_solver.specs.declared.atom.Term.TheVariants.{Number, Variable}
use Rattle.dx_judge.specs.declared.fault.JudgeFault.TheVariants as faults
use Rattle.dx_judge.specs.Asking.{HasStranger, IsStranger, SaysValue, place_in}
use Rattle.dx_judge.specs.Turned.{fact_turned}
use Rattle.dx_judge.specs.Verdicts.{HasNoVerdict, JudgeInput, PlaceHolds}

abbrev null : ℕ → NullId
null k = record { rule = 0; var = 0; row = k }

-- texts, of one byte each
abbrev a_text : Text
a_text = 1 ∷ []

abbrev b_text : Text
b_text = 2 ∷ []

abbrev ann : Value
ann = Const a_text

abbrev bob : Value
bob = Const b_text

-- ---- terms

-- a null is a variable: the first place where it stands
first_place : place_in (null 4 ∷ null 7 ∷ null 9 ∷ []) (null 7) ≡ 1
first_place = refl

no_place : place_in (null 4 ∷ null 7 ∷ []) (null 9) ≡ 2
no_place = refl

null_is_variable : SaysValue (ann ∷ bob ∷ []) (null 4 ∷ null 7 ∷ []) (Null (null 7)) (Variable 1)
null_is_variable = refl

-- a constant is its number
constant_is_number : SaysValue (ann ∷ bob ∷ []) [] bob (Number 1)
constant_is_number = (1, refl, omega arith, refl)

not_another_number : ¬ (SaysValue (ann ∷ bob ∷ []) [] bob (Number 0))
not_another_number s = let n = s.1 in let v = s.3 in absurd (cc (n, v))

not_a_number : ¬ (SaysValue (ann ∷ bob ∷ []) (null 0 ∷ []) (Null (null 0)) (Number 0))
not_a_number e = absurd (cc e)

-- a constant that is not there is a stranger; a null is none
bob_is_a_stranger : IsStranger (ann ∷ []) bob
bob_is_a_stranger (here e) = absurd (cc e)
bob_is_a_stranger (there m) = elim m [ ]

ann_is_none : ¬ (IsStranger (ann ∷ []) ann)
ann_is_none s = s (here refl)

a_null_is_none : ¬ (HasStranger (ann ∷ []) (Null (null 0) ∷ []))
a_null_is_none h = of h.0 h.1 h.2
  where
    of : (v : Value) → v ∈ (Null (null 0) ∷ []) → ¬ (IsStranger (ann ∷ []) v)
    of v (here e) s = rw (← e) at s
    of v (there m) s = elim m [ ]

-- the columns of a row in another order
turned : fact_turned ((2 ∷ 0 ∷ 1 ∷ []) ∷ []) (record { table = 0; row = ann ∷ bob ∷ Null (null 0) ∷ [] })
    ≡ record { table = 0; row = Null (null 0) ∷ ann ∷ bob ∷ [] }
turned = refl

-- ---- a place of a rule

-- emp(x0) -> person(x0, y0)
abbrev named : Rule
named = record {
  premise = record { table = 0; cells = Var 0 ∷ [] } ∷ [];
  derived = [];
  conclusion = record { table = 0; cells = Var 0 ∷ Ex 0 ∷ [] } ∷ [];
}

-- its places: ann, and bob
abbrev matches : Rows
matches = ((a_text ∷ []) ∷ (b_text ∷ []) ∷ []) ∷ []

abbrev person : Value → Value → Fact
person name phone = record { table = 0; row = name ∷ phone ∷ [] }

-- any value will do for the phone
ann_is_there : PlaceHolds (named ∷ []) matches (person ann (Null (null 3)) ∷ []) 0 0
ann_is_there = ((λ v. Null (null 3)), of)
  where
    of : Each named.conclusion (λ a. fact_of_atom (text_of (exported named) (a_text ∷ [])) (λ v. Null (null 3)) a ∈ (person ann (Null (null 3)) ∷ []))
    of a (here e) = rw (← e) (here refl)
    of a (there m) = elim m [ ]

-- for the name that of the place alone
bob_is_not : ¬ (PlaceHolds (named ∷ []) matches (person ann (Null (null 3)) ∷ []) 0 1)
bob_is_not h = of (h.1 _ (here refl))
  where
    of : ¬ (person bob (h.0 0) ∈ (person ann (Null (null 3)) ∷ []))
    of (here e) = let row = ap (λ (f : Fact). f.row) e in absurd (cc row)
    of (there m) = elim m [ ]

-- ---- no verdict

-- a refusal names the count of target cells and the number of the limit
it_names_the_limit : (convert : Conversions) (a : JudgeInput) (l : Limit) → HasNoVerdict convert a (faults.Limit l)
    → l ≡ record { what = TargetCells; number = a.limit }
it_names_the_limit convert a l h = h.0

-- want of memory is no reason
memory_is_none : (convert : Conversions) (a : JudgeInput) → ¬ (HasNoVerdict convert a faults.Memory)
memory_is_none convert a h = h

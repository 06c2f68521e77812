-- What two mappings must have in common, on small ones: no conditions, and no conversions; and whose fault it is.
use Rattle.std.proofs.Common.{◌≡◌, List, [], ◌∷◌, refl, inl, inr, Bool, true, false, ap, sym}
use Rattle.dx_base.specs.Members.{◌∈◌, here, there}
use Rattle.dx_model.specs.declared.rules.Rule.{Rule}
use Rattle.dx_schema.specs.Forest.{none}
use Rattle.clio_accept.specs.declared.mapping.Mapping.{Mapping}
use Rattle.clio_ending.specs.declared.ending.Refusal.{Refusal}
use Rattle.clio_ending.specs.declared.ending.Refusal.TheVariants as refusals
use Rattle.clio_ending.specs.declared.faults.OtherFault.{OtherFault}
use Rattle.clio_ending.specs.declared.faults.OtherFault.TheVariants as other_faults
use Rattle.clio_compare.specs.Comparing.{BothUnconditional, NoneDerived, HasDerived, HaveConditions, IsFirstDerived}

abbrev empty : Mapping
empty = record { source = none; target = none; conditions = []; rules = [] }

-- ---- conditions

abbrev conditioned : Mapping
conditioned =
    record { source = none; target = none; conditions = (record { place = record { table = 0; column = 0 }; code = 0 }) ∷ []; rules = [] }

neither_has_a_condition : BothUnconditional (empty, empty)
neither_has_a_condition = (refl, refl)

the_first_has_one : ¬ (BothUnconditional (conditioned, empty))
the_first_has_one h = absurd (cc h.0)

the_second_has_one : ¬ (BothUnconditional (empty, conditioned))
the_second_has_one h = absurd (cc h.1)

-- it is refused as one of other conditions
it_is_said : HaveConditions (empty, conditioned) (refusals.Other other_faults.Conditions)
it_is_said = (the_second_has_one, refl)

-- ---- conversions

abbrev converts : Rule
converts = record { premise = []; derived = (record { code = 0; args = 0 ∷ [] }) ∷ []; conclusion = [] }

abbrev copies : Rule
copies = record { premise = []; derived = []; conclusion = [] }

abbrev converting : Mapping
converting = record { source = none; target = none; conditions = []; rules = copies ∷ converts ∷ [] }

no_rule : NoneDerived []
no_rule d m = elim m [ ]

-- the second of two rules is the first that has one
second_rule : IsFirstDerived (copies ∷ converts ∷ []) 1
second_rule = record { rule = converts; is = refl; some = λ h. absurd (cc h); before = first }
  where
    first : NoneDerived (copies ∷ [])
    first d (here e) = ap (λ (r : Rule). r.derived) (sym e)
    first d (there m) = elim m [ ]

-- of the mapping it is told as one of the mapping, and of the other one as one of that
of_the_mapping : HasDerived (converting, empty) (refusals.Other (other_faults.Derived false 1))
of_the_mapping = inl (1, second_rule, refl)

of_the_other : HasDerived (empty, converting) (refusals.Other (other_faults.Derived true 1))
of_the_other = inr (no_rule, (1, second_rule, refl))

abbrev is_second : OtherFault → Bool
is_second other_faults.Absent = false
is_second (other_faults.Mapping fault) = false
is_second other_faults.Schemas = false
is_second other_faults.Conditions = false
is_second (other_faults.Derived second rule) = second

abbrev side_of : Refusal → Bool
side_of refusals.Usage = false
side_of (refusals.Clash k table key column) = false
side_of (refusals.Mapping fault) = false
side_of (refusals.Rows file fault) = false
side_of (refusals.Limit limit) = false
side_of (refusals.Query fault) = false
side_of (refusals.Other fault) = is_second fault

not_exchanged : ¬ (HasDerived (converting, empty) (refusals.Other (other_faults.Derived true 1)))
not_exchanged (inl (n, first, is)) = let e : true ≡ false = ap side_of is in absurd (cc e)
not_exchanged (inr (plain, rest)) = absurd (cc (plain converts (there (here refl))))

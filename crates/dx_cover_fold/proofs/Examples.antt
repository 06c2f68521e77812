-- Two rules: a(x0) -> p(x0, "main") and b(x0) -> p(x0, y0). The first covers the places of the second that have its text.
use Rattle.std.proofs.Common.{◌≡◌, ℕ, List, [], ◌∷◌, codes, refl, arith}
use Rattle.dx_model.specs.declared.values.NullId.{NullId}
use Rattle.dx_model.specs.declared.values.Value.TheVariants.{Const, Null}
use Rattle.dx_model.specs.declared.rules.Cell.{Cell}
use Rattle.dx_model.specs.declared.rules.Cell.TheVariants.{Var, Ex, Lit}
use Rattle.dx_model.specs.declared.rules.Atom.{Atom}
use Rattle.dx_model.specs.declared.rules.Rule.{Rule}
use Rattle.dx_model.specs.Values.{Rows}
use Rattle.dx_model.specs.Covers.{cover_fold}
use Rattle.dx_instance.specs.NullMaps.{ByNull, becomes}
use Rattle.dx_cover_fold.specs.Folding.{IsCoverFold, IsPlaceNull}

abbrev atom : List Cell → Atom
atom cells = record { table = 0; cells = cells }

abbrev null : ℕ → ℕ → ℕ → NullId
null rule var row = record { rule = rule; var = var; row = row }

abbrev main_rule : Rule
main_rule = record { premise = atom (Var 0 ∷ []) ∷ []; derived = []; conclusion = atom (Var 0 ∷ Lit (codes "main") ∷ []) ∷ [] }

abbrev open_rule : Rule
open_rule = record { premise = atom (Var 0 ∷ []) ∷ []; derived = []; conclusion = atom (Var 0 ∷ Ex 0 ∷ []) ∷ [] }

abbrev rules : List Rule
rules = main_rule ∷ open_rule ∷ []

-- ann has a match of both, bob one of the second alone
abbrev rows : Rows
rows = ((codes "ann" ∷ []) ∷ []) ∷ ((codes "ann" ∷ []) ∷ (codes "bob" ∷ []) ∷ []) ∷ []

-- ann's null goes where the cover has a text, and bob's stays
ann_is_at_main : cover_fold rules rows (null 1 0 0) ≡ Const (codes "main")
ann_is_at_main = refl

bob_stays : cover_fold rules rows (null 1 0 1) ≡ Null (null 1 0 1)
bob_stays = refl

-- of two rules that say one thing the first covers the second, and not the other way round
abbrev twins : List Rule
twins = open_rule ∷ open_rule ∷ []

second_twin_goes : cover_fold twins rows (null 1 0 0) ≡ Null (null 0 0 0)
second_twin_goes = refl

first_twin_stays : cover_fold twins rows (null 0 0 0) ≡ Null (null 0 0 0)
first_twin_stays = refl

-- ---- the nulls of places

of_a_place : IsPlaceNull rules rows (null 1 0 0)
of_a_place = record { place = (omega arith, omega arith, omega arith); variable = omega arith }

not_of_a_second_variable : ¬ (IsPlaceNull rules rows (null 1 1 0))
not_of_a_second_variable p = absurd (omega (arith, p.variable))

not_of_a_third_place : ¬ (IsPlaceNull rules rows (null 1 0 2))
not_of_a_third_place p = absurd (omega (arith, p.place.2))

not_of_a_rule_without_nulls : ¬ (IsPlaceNull rules rows (null 0 0 0))
not_of_a_rule_without_nulls p = absurd (omega (arith, p.variable))

-- ---- cover folds

-- a cover fold takes ann's null along
ann_goes : (m : ByNull) → IsCoverFold rules rows m → becomes m (null 1 0 0) ≡ Const (codes "main")
ann_goes m f = f.folds (null 1 0 0) of_a_place

-- and leaves each null that is of no place
other_nulls_stay : (m : ByNull) → IsCoverFold rules rows m → becomes m (null 1 1 0) ≡ Null (null 1 1 0)
other_nulls_stay m f = f.stays (null 1 1 0) not_of_a_second_variable

-- Cell maps of small rules, computed.
use Rattle.std.proofs.Common.{◌≡◌, true, false, [], ◌∷◌, codes, refl}
use Rattle.dx_model.specs.declared.rules.Cell.TheVariants.{Var, Ex}
use Rattle.dx_model.specs.declared.rules.Rule.{Rule}
use Rattle.dx_model.specs.Covers.{before, cover_fold, used_maps, least_cover, uncovered, folded}
use Rattle.dx_model.specs.Rules.{canonical}
use Rattle.dx_model.specs.Values.{Rows}
use Rattle.dx_model.specs.declared.values.Value.TheVariants.{Const, Null}

-- T(x0, y0) and T(x0, x1): the first has one cell map to the second, and the second none to the first
narrow : Rule
narrow = record { premise = record { table = 0; cells = Var 0 ∷ [] } ∷ []; derived = []; conclusion = record { table = 0; cells = Var 0 ∷ Ex 0 ∷ [] } ∷ [] }

wide : Rule
wide = record { premise = record { table = 1; cells = Var 0 ∷ Var 1 ∷ [] } ∷ []; derived = []; conclusion = record { table = 0; cells = Var 0 ∷ Var 1 ∷ [] } ∷ [] }

maps : used_maps narrow wide ≡ record { exported = Var 0 ∷ []; existential = Var 1 ∷ [] } ∷ []
unfolding narrow wide
maps = refl

none : used_maps wide narrow ≡ []
unfolding narrow wide
none = refl

first : before (narrow ∷ wide ∷ []) 1 0 ≡ true
unfolding narrow wide
first = refl

not_back : before (narrow ∷ wide ∷ []) 0 1 ≡ false
unfolding narrow wide
not_back = refl

-- of two rules with the same conclusion the earlier is before the later
tie : before (narrow ∷ narrow ∷ []) 0 1 ≡ true
unfolding narrow
tie = refl

no_tie : before (narrow ∷ narrow ∷ []) 1 0 ≡ false
unfolding narrow
no_tie = refl

-- where the second has the text for a place of the first, the first's place is covered: the second's fact alone is left, and
-- the null goes to its text
ann_twice : Rows
ann_twice = ((codes "ann" ∷ []) ∷ []) ∷ ((codes "ann" ∷ codes "1" ∷ []) ∷ []) ∷ []

one_is_left : uncovered (least_cover (narrow ∷ wide ∷ []) ann_twice) 0 (narrow ∷ wide ∷ []) ann_twice
    ≡ record { table = 0; row = Const (codes "ann") ∷ Const (codes "1") ∷ [] } ∷ []
unfolding narrow wide ann_twice
one_is_left = refl

null_folds : folded (narrow ∷ wide ∷ []) ann_twice (least_cover (narrow ∷ wide ∷ []) ann_twice) 3 (record { rule = 0; var = 0; row = 0 }) ≡ Const (codes "1")
unfolding narrow wide ann_twice
null_folds = refl

-- nulls of no place stay: of a place that is not there, of a second variable, and of a rule that is not there
no_place_stays : cover_fold (narrow ∷ wide ∷ []) ann_twice (record { rule = 0; var = 0; row = 1 }) ≡ Null (record { rule = 0; var = 0; row = 1 })
unfolding narrow wide ann_twice
no_place_stays = refl

no_variable_stays : cover_fold (narrow ∷ wide ∷ []) ann_twice (record { rule = 0; var = 1; row = 0 }) ≡ Null (record { rule = 0; var = 1; row = 0 })
unfolding narrow wide ann_twice
no_variable_stays = refl

no_rule_stays : cover_fold (narrow ∷ wide ∷ []) ann_twice (record { rule = 2; var = 0; row = 0 }) ≡ Null (record { rule = 2; var = 0; row = 0 })
unfolding narrow wide ann_twice
no_rule_stays = refl

-- where it has other texts, nothing is covered
ann_and_bob : Rows
ann_and_bob = ((codes "ann" ∷ []) ∷ []) ∷ ((codes "bob" ∷ codes "1" ∷ []) ∷ []) ∷ []

nothing_is_covered : uncovered (least_cover (narrow ∷ wide ∷ []) ann_and_bob) 0 (narrow ∷ wide ∷ []) ann_and_bob ≡ canonical 0 (narrow ∷ wide ∷ []) ann_and_bob
unfolding narrow wide ann_and_bob
nothing_is_covered = refl

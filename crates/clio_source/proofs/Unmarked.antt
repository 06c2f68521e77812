-- Without marks all is read.
use Rattle.std.proofs.Common.{◌≡◌, List, [], ◌∷◌, map, refl, ap}
use Rattle.dx_base.proofs.Members.{same_equal, same_sym, same_trans}
use Rattle.dx_model.specs.declared.facts.Fact.{Fact}
use Rattle.dx_instance.specs.Stored.{facts}
use Rattle.dx_used.specs.Used.{fact_blanked}
use Rattle.clio_source.specs.Laws.{AllIsRead}

nothing_blanked : (fs : List Fact) → map (fact_blanked []) fs ≡ fs
nothing_blanked [] = refl
nothing_blanked (f ∷ fs) = ap (λ (gs : List Fact). f ∷ gs) (nothing_blanked fs)

pub all_is_read : AllIsRead
all_is_read passes w J left old new (I, agree, widths, ran) =
    (I, same_trans (same_sym (same_equal (nothing_blanked (facts I)))) (same_trans agree (same_equal (nothing_blanked (facts J)))), ran)

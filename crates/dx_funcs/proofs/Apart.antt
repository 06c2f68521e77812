-- Lists whose members a computation tells apart, and what it finds of each member.
use Rattle.std.proofs.Common.{◌≡◌, List, [], ◌∷◌, Bool, true, false, ◌&&◌, sym}
use Rattle.std.specs.Prelude.{not}
use Rattle.std.specs.Cmp.{IsEquivalence}
use Rattle.std.specs.List.{list_any}
use Rattle.std.proofs.lemmas.Bool.{and_parts, true≢false}
use Rattle.dx_base.specs.Members.{Distinct}
use Rattle.dx_base.proofs.Tests.{to_any}

-- by this test no member is a later one
abbrev pub tells_apart : {X : Type 0} → (X → X → Bool) → List X → Bool
tells_apart same [] = true
tells_apart same (x ∷ xs) = not (list_any (same x) xs) && tells_apart same xs

-- what is not so can't be so
not_both : (b : Bool) → not b ≡ true → ¬ (b ≡ true)
not_both true h e = true≢false (sym h)
not_both false h e = true≢false (sym e)

-- then no member is there twice
pub distinct_by : {X : Type 0} (same : X → X → Bool) → IsEquivalence same → (xs : List X) → tells_apart same xs ≡ true → Distinct xs
distinct_by same laws [] h = tt
distinct_by same laws (x ∷ xs) h =
    let parts = and_parts (not (list_any (same x) xs)) (tells_apart same xs) h in
    (λ m. not_both (list_any (same x) xs) parts.0 (to_any (same x) xs m (laws.refl x)), distinct_by same laws xs parts.1)

-- The first fault among faults.
use Rattle.std.proofs.Common.{◌≡◌, ℕ, ◌≤◌, List, Option, None, length, map, drop, refl, ◌∙◌}
use Rattle.std.proofs.lemmas.List.{drop_all}
use Rattle.dx_tokens.specs.declared.faults.TextFault.{TextFault}
use Rattle.dx_base.specs.Firsts.{first_of}

-- where nothing is left, there is no fault
pub fault_none : {X : Type 0} (g : X → Option TextFault) (xs : List X) (i : ℕ) → length xs ≤ i
    → first_of (map g xs) ≡ first_of (map g (drop i xs)) → first_of (map g xs) ≡ None
fault_none g xs i past so_far = so_far ∙ rw (drop_all i xs past) refl

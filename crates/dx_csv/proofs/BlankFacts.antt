-- Constants that are blank in the columns that are not used.
use Rattle.std.proofs.Common.{◌≡◌, ◌∷◌, ◌<◌, ◌∙◌, ℕ, zero, suc, List, [], Bool, true, false, ap, arith, length, get_or}
use Rattle.std.specs.Prelude.{cond}
use Rattle.std.specs.List.{list_any}
use Rattle.std.proofs.lemmas.List.{get_or-map, length-map}
use Rattle.dx_base.specs.Members.{◌∈◌, here, there}
use Rattle.dx_base.proofs.Loops.{neither}
use Rattle.dx_model.specs.declared.values.Value.{Value}
use Rattle.dx_model.specs.declared.values.Value.TheVariants.{Const}
use Rattle.dx_used.specs.Used.{blank}
use Rattle.dx_used.proofs.Blanking.{blanked_at}
use Rattle.dx_csv.specs.Blanks.{constants_used, is_used}
use Rattle.dx_model.specs.Values.{constants}

-- ---- the marks

pub unused_in : (used : List Bool) (i : ℕ) → is_used used i ≡ false → false ∈ used
unused_in [] i h = absurd (cc h)
unused_in (u ∷ used) zero h = here h
unused_in (u ∷ used) (suc i) h = there (unused_in used i h)

pub all_used : (same : Bool → Bool) (used : List Bool) → list_any same used ≡ false → same false ≡ true → ¬ (false ∈ used)
all_used same [] h t m = elim m [ ]
all_used same (u ∷ used) h t (here e) = let n = (neither (same u) (list_any same used) h).0 in absurd (cc (e, t, n))
all_used same (u ∷ used) h t (there m) = all_used same used (neither (same u) (list_any same used) h).1 t m

-- ---- the constant at a place

pub value_at : (used : List Bool) (texts : List (List ℕ)) (i : ℕ) (d : Value) → i < length texts → get_or (constants_used used texts) i d ≡ cond (is_used used i) (Const (get_or texts i [])) (Const [])
value_at used texts i d h =
    blanked_at used (constants texts) i d (omega (arith, h, length-map texts Const)) ∙ ap (λ v. cond (is_used used i) v (blank v)) (get_or-map Const texts i [] d h)

-- Rows that are blank in the columns that are not used, and instances that agree on the others.
use Rattle.std.proofs.Common.{◌≡◌, ℕ, zero, suc, ◌<◌, List, [], ◌∷◌, ◌++◌, Bool, true, false, refl, sym, ◌∙◌, ap, arith, length, get_or, take}
use Rattle.std.specs.Prelude.{cond}
use Rattle.std.proofs.lemmas.List.{map-append}
use Rattle.dx_base.specs.Members.{◌≈◌}
use Rattle.dx_base.proofs.Members.{same_append, same_equal, same_map, same_trans}
use Rattle.dx_model.specs.declared.values.Value.{Value}
use Rattle.dx_model.specs.declared.values.Value.TheVariants.{Const, Null}
use Rattle.dx_model.specs.declared.facts.Fact.{Fact}
use Rattle.dx_used.specs.Used.{AgreeOnUsed, Marks, blank, blanked, fact_blanked}

-- ---- rows

blank_twice : (v : Value) → blank (blank v) ≡ blank v
blank_twice (Const t) = refl
blank_twice (Null n) = refl

pub blanked_twice : (used : List Bool) (row : List Value) → blanked used (blanked used row) ≡ blanked used row
blanked_twice [] row = refl
blanked_twice (true ∷ used) [] = refl
blanked_twice (false ∷ used) [] = refl
blanked_twice (true ∷ used) (v ∷ row) = ap (λ vs. v ∷ vs) (blanked_twice used row)
blanked_twice (false ∷ used) (v ∷ row) = ap (λ w. w ∷ blanked used (blanked used row)) (blank_twice v) ∙ ap (λ vs. blank v ∷ vs) (blanked_twice used row)

pub blanked_length : (used : List Bool) (row : List Value) → length (blanked used row) ≡ length row
blanked_length [] row = refl
blanked_length (true ∷ used) [] = refl
blanked_length (false ∷ used) [] = refl
blanked_length (true ∷ used) (v ∷ row) = ap suc (blanked_length used row)
blanked_length (false ∷ used) (v ∷ row) = ap suc (blanked_length used row)

-- the first values of a blanked row are the first values, blanked
pub blanked_take : (used : List Bool) (row : List Value) (n : ℕ) → take n (blanked used row) ≡ blanked used (take n row)
blanked_take [] row n = refl
blanked_take (true ∷ used) row zero = refl
blanked_take (false ∷ used) row zero = refl
blanked_take (true ∷ used) [] (suc n) = refl
blanked_take (false ∷ used) [] (suc n) = refl
blanked_take (true ∷ used) (v ∷ row) (suc n) = ap (λ vs. v ∷ vs) (blanked_take used row n)
blanked_take (false ∷ used) (v ∷ row) (suc n) = ap (λ vs. blank v ∷ vs) (blanked_take used row n)

-- the value in a column; a column without a mark is used
pub blanked_at : (used : List Bool) (row : List Value) (i : ℕ) (d : Value) → i < length row → get_or (blanked used row) i d ≡ cond (get_or used i true) (get_or row i d) (blank (get_or row i d))
blanked_at [] row i d h = refl
blanked_at (u ∷ used) [] i d h = absurd (omega (arith, h))
blanked_at (true ∷ used) (v ∷ row) zero d h = refl
blanked_at (false ∷ used) (v ∷ row) zero d h = refl
blanked_at (true ∷ used) (v ∷ row) (suc i) d h = blanked_at used row i d (omega (arith, h))
blanked_at (false ∷ used) (v ∷ row) (suc i) d h = blanked_at used row i d (omega (arith, h))

-- ---- instances

-- the same facts agree
pub agree_same : (used : Marks) {I J : List Fact} → I ≈ J → AgreeOnUsed used I J
agree_same used s = same_map (fact_blanked used) s

pub agree_append : (used : Marks) (I J K L : List Fact) → AgreeOnUsed used I J → AgreeOnUsed used K L → AgreeOnUsed used (I ++ K) (J ++ L)
agree_append used I J K L s t =
    same_trans (same_equal (map-append (fact_blanked used) I K)) (same_trans (same_append s t) (same_equal (sym (map-append (fact_blanked used) J L))))

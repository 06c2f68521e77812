-- The notions on small values: R(n) and its ways into R(a), R(b).
use Rattle.std.proofs.Common.{◌≡◌, ℕ, zero, suc, ◌<◌, true, false, List, [], ◌∷◌, codes, refl, sym, ◌∙◌, ap, subst, arith}
use Rattle.std.specs.Prelude.{Option, Some, None}
use Rattle.std.proofs.lemmas.Option.{none-some}
use Rattle.std.specs.FinMap as finite
use Rattle.dx_base.specs.Members.{◌∈◌, here, there}
use Rattle.dx_model.specs.declared.values.NullId.{NullId}
use Rattle.dx_model.specs.declared.values.Value.{Value}
use Rattle.dx_model.specs.declared.values.Value.TheVariants.{Const, Null}
use Rattle.dx_model.specs.declared.facts.Fact.{Fact}
use Rattle.dx_model.specs.declared.facts.NullPair.{NullPair}
use Rattle.dx_model.specs.Values.{null_cmp}
use Rattle.dx_model.specs.Instances.{given, fact_moved, image, values}
use Rattle.dx_instance.specs.NullMaps.{ByNull}
use Rattle.dx_instance.specs.Stored.{TableRows, facts}
use Rattle.dx_hom.specs.declared.matching.Found.{Found}
use Rattle.dx_hom.specs.Homs.{IsNullAssignment, IsSought, found_pairs}
use Rattle.dx_hom.specs.Narrowing.{IsNullCell, found_nulls, null_value}
use Rattle.dx_hom.specs.Searching.{Reaches}
use Rattle.dx_hom.specs.View.{all_there, gone_at, marked}

abbrev n : NullId
n = record { rule = 0; var = 0; row = 0 }

abbrev a : Value
a = Const []

abbrev b : Value
b = Const (codes "b")

abbrev fact : Value → Fact
fact v = record { table = 0; row = v ∷ [] }

abbrev from : List Fact
from = fact (Null n) ∷ []

abbrev into : List TableRows
into = record { width = 1; rows = (a ∷ []) ∷ (b ∷ []) ∷ [] } ∷ []

abbrev to : Value → List NullPair
to v = record { null = n; value = v } ∷ []

nothing_is_fixed : (k : NullId) (v w : Value) → finite.get (finite.empty {X = Value} {R = null_cmp}) k ≡ Some v → w ≡ v
nothing_is_fixed k v w e = absurd (none-some v (sym (finite.get-empty null_cmp k) ∙ e))

-- ---- what is sought

-- with R(a) to avoid, the null may become b
b_is_sought : IsSought finite.empty (Some (fact a)) from (facts into) (to b)
b_is_sought = record {
  homomorphism = record { null_map = ((λ e. absurd (cc)), (λ q m. elim m [ ]), tt); inside = λ f m. inside f m };
  keeps = λ k v e. nothing_is_fixed k v (given (to b) k) e;
  avoids = λ f e m. other f e m;
}
  where
    inside : (f : Fact) → f ∈ image (to b) from → f ∈ facts into
    inside f (here e) = there (here e)
    inside f (there m) = elim m [ ]

    other : (f : Fact) → Some (fact a) ≡ Some f → f ∈ image (to b) from → ⊥
    other f e (here d) = let g : fact a ≡ f = cc in let r : (b ∷ []) ≡ (a ∷ []) = ap (λ (x : Fact). x.row) (d ∙ sym g) in absurd (cc)
    other f e (there m) = elim m [ ]

-- and may not become a
a_is_avoided : (fixed : ByNull) → ¬ IsSought fixed (Some (fact a)) from (facts into) (to a)
a_is_avoided fixed s = s.avoids (fact a) refl (here refl)

-- a null that is fixed at a does not become b
b_is_not_the_fixed_value : (fixed : ByNull) (avoid : Option Fact) → finite.get fixed n ≡ Some a → ¬ IsSought fixed avoid from (facts into) (to b)
b_is_not_the_fixed_value fixed avoid g s = let e : b ≡ a = s.keeps n a g in absurd (cc)

-- and a null that is fixed does not stay, though R(n) is there
a_fixed_null_does_not_stay : (fixed : ByNull) (avoid : Option Fact) → finite.get fixed n ≡ Some a → ¬ IsSought fixed avoid from from []
a_fixed_null_does_not_stay fixed avoid g s = let e : Null n ≡ a = s.keeps n a g in absurd (cc)

-- each fact goes somewhere
nothing_receives_no_fact : (fixed : ByNull) (avoid : Option Fact) (h : List NullPair) → ¬ IsSought fixed avoid from [] h
nothing_receives_no_fact fixed avoid h s = elim (s.homomorphism.inside (fact_moved (given h) (fact (Null n))) (here refl)) [ ]

-- ---- what is found

abbrev cell : ℕ → Found
cell p = record { null = n; table = 0; place = p; column = 0 }

-- the cell of b is an answer
b_is_an_answer : IsNullAssignment into finite.empty None from (cell 1 ∷ [])
b_is_an_answer = record {
  once = ((λ m. elim m [ ]), tt);
  nulls = λ k. ((λ m. it k m), (λ m. back k m));
  cells = λ c m. there_is c m;
  gives = λ h null_map same. record {
    homomorphism = record { null_map = null_map; inside = λ f m. inside h (same n (here refl)) f m };
    keeps = λ k v e. nothing_is_fixed k v (given h k) e;
    avoids = λ f e. absurd (none-some f e);
  };
}
  where
    it : (k : NullId) → k ∈ found_nulls (cell 1 ∷ []) → Null k ∈ values from
    it k (here e) = here (ap (λ (x : NullId). Null x) e)
    it k (there m) = elim m [ ]

    back : (k : NullId) → Null k ∈ values from → k ∈ found_nulls (cell 1 ∷ [])
    back k (here e) = let d : n ≡ k = cc in here d
    back k (there m) = elim m [ ]

    there_is : (c : Found) → c ∈ (cell 1 ∷ []) → IsNullCell into c
    there_is c (here e) = subst (IsNullCell into) e (record { table = omega arith; place = omega arith; column = omega arith })
    there_is c (there m) = elim m [ ]

    inside : (h : List NullPair) → given h n ≡ given (found_pairs into (cell 1 ∷ [])) n → (f : Fact) → f ∈ image h from → f ∈ facts into
    inside h s f (here e) = let d : fact b ≡ fact (given h n) = ap fact (sym s) in there (here (d ∙ e))
    inside h s f (there m) = elim m [ ]

-- each null is found, also if it can stay, once, in a cell that is there
abbrev itself : List TableRows
itself = record { width = 1; rows = (Null n ∷ []) ∷ [] } ∷ []

nothing_is_no_answer : (fixed : ByNull) (avoid : Option Fact) → ¬ IsNullAssignment itself fixed avoid from []
nothing_is_no_answer fixed avoid w = elim ((w.nulls n).1 (here refl)) [ ]

two_cells_are_no_answer : (fixed : ByNull) (avoid : Option Fact) → ¬ IsNullAssignment into fixed avoid from (cell 0 ∷ cell 1 ∷ [])
two_cells_are_no_answer fixed avoid w = w.once.0 (here refl)

no_cell_is_no_answer : (fixed : ByNull) (avoid : Option Fact) → ¬ IsNullAssignment into fixed avoid from (cell 2 ∷ [])
no_cell_is_no_answer fixed avoid w = let h : 2 < 2 = (w.cells (cell 2) (here refl)).place in absurd (omega (arith, h))

-- a cell is of its own table
in_the_second_table : null_value (record { width = 1; rows = [] } ∷ into) (record { null = n; table = 1; place = 1; column = 0 }) ≡ b
in_the_second_table = refl

-- ---- facts that are taken out

all_are_there : all_there into ≡ (false ∷ false ∷ []) ∷ []
all_are_there = refl

one_is_taken_out : marked (all_there into) 0 1 ≡ (false ∷ true ∷ []) ∷ []
one_is_taken_out = refl

it_is_gone : gone_at (marked (all_there into) 0 1) 0 1 ≡ true
it_is_gone = refl

without_marks_nothing_is_gone : gone_at [] 0 0 ≡ false
without_marks_nothing_is_gone = refl

-- what is taken out is not reached
nothing_is_left : (fixed : ByNull) (avoid : Option Fact) → ¬ Reaches into ((true ∷ true ∷ []) ∷ []) fixed avoid from
nothing_is_left fixed avoid w = let s = w.2 (fact (Null n)) (here refl) in gone s.0 s.1.place s.1.kept
  where
    gone : (p : ℕ) → p < 2 → gone_at ((true ∷ true ∷ []) ∷ []) 0 p ≡ false → ⊥
    gone zero h e = absurd (cc)
    gone (suc zero) h e = absurd (cc)
    gone (suc (suc p)) h e = absurd (omega (arith, h))

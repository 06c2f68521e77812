-- What a chase answers, on small values: a table with three keys, its first column, both columns and its second column, stands after
-- one without keys. It has more keys than there are tables.
use Rattle.std.proofs.Common.{◌≡◌, ℕ, List, [], ◌∷◌, codes, refl, ap, arith}
use Rattle.dx_base.specs.Members.{here, there}
use Rattle.dx_model.specs.declared.values.Value.{Value}
use Rattle.dx_model.specs.declared.values.Value.TheVariants.{Const}
use Rattle.dx_model.specs.declared.facts.Fact.{Fact}
use Rattle.dx_model.specs.declared.facts.NullPair.{NullPair}
use Rattle.dx_model.specs.Tables.{IsKeyed, Table, key_of}
use Rattle.dx_model.specs.Instances.{IsHomomorphism}
use Rattle.dx_instance.specs.NullMaps.{ByNull}
use Rattle.dx_instance.specs.Stored.{TableRows, facts}
use Rattle.dx_keys.specs.declared.answers.Clash.{Clash}
use Rattle.dx_keys.specs.Answers.{IsChased, IsClash}

abbrev schema : List Table
schema = record { width = 2; determinations = []; links = []; optional = [] }
    ∷ record { width = 2; determinations = key_of 2 (0 ∷ []) ∷ key_of 2 (0 ∷ 1 ∷ []) ∷ key_of 2 (1 ∷ []) ∷ []; links = []; optional = [] } ∷ []

abbrev a : Value
a = Const []

abbrev b : Value
b = Const (codes "b")

abbrev c : Value
c = Const (codes "c")

-- the rows a, c and b, c agree on the third key alone
abbrev two_rows : List TableRows
two_rows = record { width = 2; rows = [] } ∷ record { width = 2; rows = (a ∷ c ∷ []) ∷ (b ∷ c ∷ []) ∷ [] } ∷ []

abbrev fact : Value → Fact
fact v = record { table = 1; row = v ∷ c ∷ [] }

-- ---- the clash of the two

abbrev told : ℕ → ℕ → Value → Value → Clash
told table key left right = record { steps = []; table = table; key = key; left = left ∷ c ∷ []; right = right ∷ c ∷ []; column = 0 }

they_clash : IsClash schema (facts two_rows) (told 1 2 a b)
they_clash = record {
  steps = tt;
  key = omega arith;
  clash = record {
    break = record {
      left = here refl;
      right = there (here refl);
      table = refl;
      of_table = there (there (here refl));
      same = refl;
      column = here refl;
      differ = λ e. absurd (cc);
    };
    one = [];
    other = codes "b";
    left = refl;
    right = refl;
  };
  lesser = refl;
  none = λ K g k h. none K g k h;
}
  where
    none : (K : List Fact) (g : List NullPair) → IsKeyed schema K → IsHomomorphism g (facts two_rows) K → ⊥
    none K g k h =
        let e : (a ∷ c ∷ []) ≡ (b ∷ c ∷ []) = k.keys (fact a) (h.inside (fact a) (here refl)) (fact b) (h.inside (fact b) (there (here refl))) refl (key_of 2 (1 ∷ [])) (there (there (here refl))) refl in
        absurd (cc)

-- the lesser row comes first
not_turned : ¬ IsClash schema (facts two_rows) (told 1 2 b a)
not_turned w = let e = w.lesser in absurd (cc)

-- it is the third key on which they agree
not_of_the_first_key : ¬ IsClash schema (facts two_rows) (told 1 0 a b)
not_of_the_first_key w = let e : (a ∷ []) ≡ (b ∷ []) = w.clash.break.same in absurd (cc)

not_of_the_second_key : ¬ IsClash schema (facts two_rows) (told 1 1 a b)
not_of_the_second_key w = let e : (a ∷ c ∷ []) ≡ (b ∷ c ∷ []) = w.clash.break.same in absurd (cc)

-- there is no fourth
not_of_a_fourth_key : ¬ IsClash schema (facts two_rows) (told 1 3 a b)
not_of_a_fourth_key w = absurd (omega (arith, w.key))

-- and the second table
not_of_the_first_table : (key : ℕ) → ¬ IsClash schema (facts two_rows) (told 0 key a b)
not_of_the_first_table key w = elim w.clash.break.left [
  | here d ↦ let e : 1 ≡ 0 = ap (λ (f : Fact). f.table) d in absurd (omega (arith, e))
  | there k ↦ elim k [ here d ↦ let e : 1 ≡ 0 = ap (λ (f : Fact). f.table) d in absurd (omega (arith, e)) | there k ↦ elim k [ ] ]
]

-- ---- what is no chase

-- two constants are not let stand
they_are_no_chase : (m : ByNull) → ¬ IsChased schema two_rows (record { instance = two_rows; map = m })
they_are_no_chase m w =
    let e : (a ∷ c ∷ []) ≡ (b ∷ c ∷ []) = w.keyed.keys (fact a) (here refl) (fact b) (there (here refl)) refl (key_of 2 (1 ∷ [])) (there (there (here refl))) refl in
    absurd (cc)

-- and none of them is dropped
abbrev one_row : List TableRows
one_row = record { width = 2; rows = [] } ∷ record { width = 2; rows = (a ∷ c ∷ []) ∷ [] } ∷ []

one_is_no_chase : (m : ByNull) → ¬ IsChased schema two_rows (record { instance = one_row; map = m })
one_is_no_chase m w = elim (w.imaged.is.0 (fact b) (there (here refl))) [
  | here d ↦ let e : (a ∷ c ∷ []) ≡ (b ∷ c ∷ []) = ap (λ (f : Fact). f.row) d in absurd (cc)
  | there k ↦ elim k [ ]
]

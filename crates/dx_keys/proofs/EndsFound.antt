-- Keys hold in an instance, or it has a break; and each break is a clash or gives a key step.
use Rattle.std.proofs.Common.{◌≡◌, ℕ, List, [], ◌∷◌, ◌⊎◌, inl, inr, refl, sym, ◌∙◌, ap, subst}
use Rattle.std.specs.Ordering.{ordering_reverse}
use Rattle.std.specs.declared.cmp.Ordering.{Ordering}
use Rattle.std.specs.declared.cmp.Ordering.TheVariants.{Less, Equal, Greater}
use Rattle.std.proofs.lemmas.Bool.{cases_eq}
use Rattle.dx_base.specs.Members.{◌∈◌, here, there, Each}
use Rattle.dx_model.specs.declared.values.NullId.{NullId}
use Rattle.dx_model.specs.declared.values.Value.{Value}
use Rattle.dx_model.specs.declared.values.Value.TheVariants.{Const, Null}
use Rattle.dx_model.specs.declared.facts.Fact.{Fact}
use Rattle.dx_model.specs.declared.facts.NullPair.{NullPair}
use Rattle.dx_model.specs.Tables.{Table, Determination, table_of, cell, values_in, RowsObey, PairObeys, KeysHold}
use Rattle.dx_model.specs.Values.{null_cmp, value_cmp}
use Rattle.dx_model.specs.Chase.{Break, IsKeyStep, IsClashAt}
use Rattle.dx_model.proofs.Decided.{same_list, same_value}
use Rattle.dx_model.proofs.Orders.{null_total, null_exact}

-- each member has P, or one has Q
each_or : {X : Type 0} (P Q : X → Type 0) → ((x : X) → P x ⊎ Q x) → (xs : List X) → Each xs P ⊎ ((x : X) × (x ∈ xs) × Q x)
each_or P Q f [] = inl (λ x m. elim m [ ])
each_or P Q f (x ∷ xs) = elim (f x) [
  | inr q ↦ inr (x, here refl, q)
  | inl p ↦ elim (each_or P Q f xs) [ inr r ↦ inr (r.0, there r.1, r.2) | inl e ↦ inl (both p e) ]
]
  where
    both : P x → Each xs P → Each (x ∷ xs) P
    both p e y (here d) = subst P d p
    both p e y (there m) = e y m

-- rows that agree in each column agree in all
cells_agree : (cs : List ℕ) (u v : List Value) → Each cs (λ c. cell u c ≡ cell v c) → values_in cs u ≡ values_in cs v
cells_agree [] u v e = refl
cells_agree (c ∷ cs) u v e = let p = e c (here refl) in let r = cells_agree cs u v (λ d m. e d (there m)) in cc

-- two rows, and two facts, that break a determination
abbrev DiffersIn : List Value → List Value → List ℕ → Type 0
DiffersIn u v cs = (c : ℕ) × (c ∈ cs) × (¬ (cell u c ≡ cell v c))

abbrev RowsBreak : List Value → List Value → Determination → Type 0
RowsBreak u v d = (values_in d.left u ≡ values_in d.left v) × DiffersIn u v d.right

abbrev PairBreaks : List Table → Fact → Fact → Type 0
PairBreaks schema a b =
    (a.table ≡ b.table) × ((d : Determination) × (d ∈ (table_of schema a.table).determinations) × RowsBreak a.row b.row d)

columns_or : (u v : List Value) (cs : List ℕ) → Each cs (λ c. cell u c ≡ cell v c) ⊎ DiffersIn u v cs
columns_or u v cs = each_or (λ c. cell u c ≡ cell v c) (λ c. ¬ (cell u c ≡ cell v c)) (λ c. same_value (cell u c) (cell v c)) cs

rows_or : (u v : List Value) (d : Determination) → RowsObey u v d ⊎ RowsBreak u v d
rows_or u v d = elim (same_list same_value (values_in d.left u) (values_in d.left v)) [
  | inr n ↦ inl (λ e. absurd (n e))
  | inl s ↦ elim (columns_or u v d.right) [ inl e ↦ inl (λ _. cells_agree d.right u v e) | inr w ↦ inr (s, w) ]
]

pair_or : (schema : List Table) (a b : Fact) → PairObeys schema a b ⊎ PairBreaks schema a b
pair_or schema a b = elim (cases_eq a.table b.table) [
  | inr n ↦ inl (λ e. absurd (n e))
  | inl t ↦
      elim (each_or (RowsObey a.row b.row) (RowsBreak a.row b.row) (rows_or a.row b.row) (table_of schema a.table).determinations) [
        | inl e ↦ inl (λ _. e)
        | inr w ↦ inr (t, w)
      ]
]

abbrev pub HasBreak : List Table → List Fact → Type 0
HasBreak schema B = (a : Fact) × (b : Fact) × (d : Determination) × (c : ℕ) × Break schema B a b d c

pub keys_or_break : (schema : List Table) (B : List Fact) → KeysHold schema B ⊎ HasBreak schema B
keys_or_break schema B =
    elim (each_or (λ a. Each B (PairObeys schema a)) (λ a. (b : Fact) × (b ∈ B) × PairBreaks schema a b)
    (λ a. each_or (PairObeys schema a) (PairBreaks schema a) (pair_or schema a) B) B) [
      | inl k ↦ inl k
      | inr w ↦ inr (found w.0 w.1 w.2.0 w.2.1 w.2.2)
    ]
  where
    found : (a : Fact) → a ∈ B → (b : Fact) → b ∈ B → PairBreaks schema a b → HasBreak schema B
    found a m b n p = (
      a,
      b,
      p.1.0,
      p.1.2.1.0,
      record {
        left = m;
        right = n;
        table = p.0;
        of_table = p.1.1;
        same = p.1.2.0;
        column = p.1.2.1.1;
        differ = p.1.2.1.2;
      },
    )

-- the same of the other fact
pub turned : (schema : List Table) (B : List Fact) (a b : Fact) (d : Determination) (c : ℕ) → Break schema B a b d c → Break schema B b a d c
turned schema B a b d c w = record {
  left = w.right;
  right = w.left;
  table = sym w.table;
  of_table = subst (λ t. d ∈ (table_of schema t).determinations) w.table w.of_table;
  same = sym w.same;
  column = w.column;
  differ = λ e. w.differ (sym e);
}

abbrev pub ClashOrStep : List Table → List Fact → Fact → Fact → Determination → ℕ → Type 0
ClashOrStep schema B a b d c = IsClashAt schema B a b d c ⊎ ((p : NullPair) × IsKeyStep schema B p)

pub clash_or_step : (schema : List Table) (B : List Fact) (a b : Fact) (d : Determination) (c : ℕ) → Break schema B a b d c
    → ClashOrStep schema B a b d c
clash_or_step schema B a b d c w = of_values (cell a.row c) (cell b.row c) refl refl
  where
    -- the null of the first becomes the value of the second, and the other way
    first : (n : NullId) (v : Value) → cell a.row c ≡ Null n → cell b.row c ≡ v → value_cmp v (Null n) ≡ Less → ClashOrStep schema B a b d c
    first n v e f l = inr (record { null = n; value = v }, record { a = a; b = b; d = d; c = c; break = w; null = e; value = f; less = l })

    second : (n : NullId) (v : Value) → cell a.row c ≡ v → cell b.row c ≡ Null n → value_cmp v (Null n) ≡ Less → ClashOrStep schema B a b d c
    second n v e f l =
        inr (record { null = n; value = v }, record { a = b; b = a; d = d; c = c; break = turned schema B a b d c w; null = f; value = e; less = l })

    of_nulls : (m n : NullId) (o : Ordering) → null_cmp m n ≡ o → cell a.row c ≡ Null m → cell b.row c ≡ Null n → ClashOrStep schema B a b d c
    of_nulls m n Less q e f = second n (Null m) e f q
    of_nulls m n Equal q e f = absurd (w.differ (e ∙ (ap Null (null_exact m n q) ∙ sym f)))
    of_nulls m n Greater q e f = first m (Null n) e f (null_total.antisymm n m ∙ ap ordering_reverse q)

    of_values : (x y : Value) → cell a.row c ≡ x → cell b.row c ≡ y → ClashOrStep schema B a b d c
    of_values (Const t) (Const u) e f = inl (record { break = w; one = t; other = u; left = e; right = f })
    of_values (Const t) (Null n) e f = second n (Const t) e f refl
    of_values (Null m) (Const u) e f = first m (Const u) e f refl
    of_values (Null m) (Null n) e f = of_nulls m n (null_cmp m n) refl e f

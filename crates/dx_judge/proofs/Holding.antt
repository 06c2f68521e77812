-- Keys and links by the numbers of determinations and links: whether they hold is decided, with what shows that one does not.
use Rattle.std.proofs.Common.{◌≡◌, ◌∙◌, ◌⊎◌, ℕ, zero, suc, ◌<◌, List, [], ◌∷◌, inl, inr, refl, sym, ap, subst, arith, length}
use Rattle.std.specs.declared.cmp.Ordering.{Ordering}
use Rattle.std.specs.declared.cmp.Ordering.TheVariants.{Less, Equal, Greater}
use Rattle.std.specs.Ordering.{ordering_reverse}
use Rattle.std.proofs.lemmas.Bool.{cases_eq, cases_lt}
use Rattle.dx_base.specs.Members.{◌∈◌, here, there, Each}
use Rattle.dx_base.proofs.Members.{in_at, map_agrees}
use Rattle.dx_model.specs.declared.facts.Fact.{Fact}
use Rattle.dx_model.specs.declared.tables.Link.{Link}
use Rattle.dx_model.specs.declared.values.Value.{Value}
use Rattle.dx_model.specs.Tables.{Determination, KeysHold, LinksHold, RowsObey, Table, cell, table_of, values_in, determination_at}
use Rattle.dx_model.specs.Chase.{Break}
use Rattle.dx_model.specs.Values.{row_cmp}
use Rattle.dx_model.proofs.Decided.{same_list, same_value}
use Rattle.dx_model.proofs.Orders.{row_exact}
use Rattle.dx_instance.proofs.Placed.{row_total}
use Rattle.dx_fails.specs.Firsts.{DeterminationHolds, HasDetermination, HasLink, HasLinked, IsFirstFailing, LinkHolds, link_at}
use Rattle.dx_judge.proofs.Numbered.{all_or_first, each_or, number_of}

abbrev no_table : Table
no_table = record { width = 0; determinations = []; links = []; optional = [] }

abbrev no_determination : Determination
no_determination = record { left = []; right = [] }

abbrev no_link : Link
no_link = record { from = []; table = 0; to = [] }

-- a number of something that a table has is that of a table of the schema
has_table : {X : Type 0} (f : Table → List X) → length (f no_table) ≡ 0 → (schema : List Table) (t k : ℕ) → k < length (f (table_of schema t))
    → t < length schema
has_table f e [] t k h = absurd (omega (arith, h, e))
has_table f e (x ∷ xs) zero k h = omega arith
has_table f e (x ∷ xs) (suc t) k h = let r = has_table f e xs t k h in omega (arith, r)

module _ (schema : List Table) (K : List Fact) where
  -- ---- keys

  pub keys_hold_by : ((t k : ℕ) → HasDetermination schema t k → DeterminationHolds schema K t k) → KeysHold schema K
  keys_hold_by all a m b n same d i =
      let k = number_of (table_of schema a.table).determinations d no_determination i in
      subst (λ (x : Determination). RowsObey a.row b.row x) k.2 (all a.table k.0 k.1 a m b n refl (sym same))

  pub determination_holds : KeysHold schema K → (t k : ℕ) → HasDetermination schema t k → DeterminationHolds schema K t k
  determination_holds hold t k h a m b n e d =
      hold a m b n (e ∙ sym d) (determination_at schema t k)
      (subst (λ (u : ℕ). determination_at schema t k ∈ (table_of schema u).determinations) (sym e)
      (in_at (table_of schema t).determinations k no_determination h))

  -- rows that agree nowhere
  column_or : (cs : List ℕ) (a b : List Value) → (values_in cs a ≡ values_in cs b) ⊎ ((c : ℕ) × (c ∈ cs) × (¬ (cell a c ≡ cell b c)))
  column_or [] a b = inl refl
  column_or (c ∷ cs) a b = elim (same_value (cell a c) (cell b c)) [
    | inr n ↦ inr (c, here refl, n)
    | inl e ↦ elim (column_or cs a b) [
      | inr w ↦ inr (w.0, there w.1, w.2)
      | inl r ↦ inl (ap (λ (v : Value). v ∷ values_in cs a) e ∙ ap (λ (vs : List Value). cell b c ∷ vs) r)
    ]
  ]

  -- two facts and a column that show that a determination does not hold
  pub record Shown (t k : ℕ) : Type 0 where
    pub one : List Value
    pub other : List Value
    pub column : ℕ
    pub break : Break schema K (record { table = t; row = one }) (record { table = t; row = other }) (determination_at schema t k) column
    pub lesser : row_cmp one other ≡ Less

  -- what shows that it does not hold
  pub shown_fails : (t k : ℕ) (a b : Fact) (c : ℕ) → Break schema K a b (determination_at schema t k) c → a.table ≡ t
      → ¬ (DeterminationHolds schema K t k)
  shown_fails t k a b c break e hold =
      break.differ (map_agrees (cell a.row) (cell b.row)
      (hold a break.left b break.right e (sym break.table ∙ e) break.same) break.column)

  abbrev Apart : ℕ → ℕ → Fact → Fact → Type 0
  Apart t k a b =
      (a.table ≡ t) × (b.table ≡ t) × (values_in (determination_at schema t k).left a.row ≡ values_in (determination_at schema t k).left b.row)
      × (c : ℕ) × (c ∈ (determination_at schema t k).right) × (¬ (cell a.row c ≡ cell b.row c))

  abbrev Fit : ℕ → ℕ → Fact → Fact → Type 0
  Fit t k a b = a.table ≡ t → b.table ≡ t → RowsObey a.row b.row (determination_at schema t k)

  pair_or : (t k : ℕ) (a b : Fact) → Fit t k a b ⊎ Apart t k a b
  pair_or t k a b = elim (cases_eq a.table t) [
    | inr n ↦ inl (λ e. absurd (n e))
    | inl e ↦ elim (cases_eq b.table t) [
      | inr n ↦ inl (λ _ d. absurd (n d))
      | inl d ↦ elim (same_list same_value (values_in (determination_at schema t k).left a.row) (values_in (determination_at schema t k).left b.row)) [
        | inr n ↦ inl (λ _ _ s. absurd (n s))
        | inl s ↦ elim (column_or (determination_at schema t k).right a.row b.row) [
          | inl r ↦ inl (λ _ _ _. r)
          | inr w ↦ inr (e, d, s, w.0, w.1, w.2)
        ]
      ]
    ]
  ]

  abbrev in_table : ℕ → List Value → Fact
  in_table t row = record { table = t; row = row }

  placed_in : (t : ℕ) (a : Fact) → a ∈ K → a.table ≡ t → in_table t a.row ∈ K
  placed_in t a m e = subst (λ (u : ℕ). in_table u a.row ∈ K) e m

  is_shown : (t k : ℕ) → HasDetermination schema t k → (a b : Fact) → a ∈ K → b ∈ K → Apart t k a b → row_cmp a.row b.row ≡ Less → Shown t k
  is_shown t k h a b m n p less = record {
    one = a.row;
    other = b.row;
    column = p.3;
    break = record {
      left = placed_in t a m p.0;
      right = placed_in t b n p.1;
      table = refl;
      of_table = in_at (table_of schema t).determinations k no_determination h;
      same = p.2;
      column = p.4;
      differ = p.5;
    };
    lesser = less;
  }

  turned : (t k : ℕ) (a b : Fact) → Apart t k a b → Apart t k b a
  turned t k a b p = (p.1, p.0, sym p.2, p.3, p.4, (λ e. p.5 (sym e)))

  in_order : (t k : ℕ) → HasDetermination schema t k → (a b : Fact) → a ∈ K → b ∈ K → Apart t k a b → (o : Ordering) → row_cmp a.row b.row ≡ o
      → Shown t k
  in_order t k h a b m n p Less e = is_shown t k h a b m n p e
  in_order t k h a b m n p Equal e = absurd (p.5 (ap (λ (r : List Value). cell r p.3) (row_exact a.row b.row e)))
  in_order t k h a b m n p Greater e =
      is_shown t k h b a n m (turned t k a b p) (row_total.antisymm b.row a.row ∙ ap ordering_reverse e)

  -- a determination holds, or something shows that it does not
  pub determination_or : (t k : ℕ) → HasDetermination schema t k → DeterminationHolds schema K t k ⊎ Shown t k
  determination_or t k h =
      elim (each_or (λ a. Each K (λ b. Fit t k a b)) (λ a. (b : Fact) × (b ∈ K) × Apart t k a b) K
      (λ a m. each_or (λ b. Fit t k a b) (λ b. Apart t k a b) K (λ b n. pair_or t k a b))) [
        | inl all ↦ inl all
        | inr w ↦ inr (in_order t k h w.0 w.2.0 w.1 w.2.1 w.2.2 (row_cmp w.0.row w.2.0.row) refl)
      ]

  -- ---- links

  pub links_hold_by : ((t l : ℕ) → HasLink schema t l → LinkHolds schema K t l) → LinksHold schema K
  links_hold_by all a m link i =
      let k = number_of (table_of schema a.table).links link no_link i in
      subst (λ (x : Link). HasLinked K x a) k.2 (all a.table k.0 k.1 a m refl)

  pub link_holds : LinksHold schema K → (t l : ℕ) → HasLink schema t l → LinkHolds schema K t l
  link_holds hold t l h a m e =
      hold a m (link_at schema t l)
      (subst (λ (u : ℕ). link_at schema t l ∈ (table_of schema u).links) (sym e) (in_at (table_of schema t).links l no_link h))

  leads_or : (link : Link) (a b : Fact) → ((b.table ≡ link.table) × (values_in link.to b.row ≡ values_in link.from a.row))
      ⊎ (¬ ((b.table ≡ link.table) × (values_in link.to b.row ≡ values_in link.from a.row)))
  leads_or link a b = elim (cases_eq b.table link.table) [
    | inr n ↦ inr (λ w. n w.0)
    | inl e ↦ elim (same_list same_value (values_in link.to b.row) (values_in link.from a.row)) [
      | inr n ↦ inr (λ w. n w.1)
      | inl s ↦ inl (e, s)
    ]
  ]

  linked_or : (link : Link) (a : Fact) → HasLinked K link a ⊎ (¬ (HasLinked K link a))
  linked_or link a =
      elim (each_or (λ b. ¬ ((b.table ≡ link.table) × (values_in link.to b.row ≡ values_in link.from a.row)))
      (λ b. (b.table ≡ link.table) × (values_in link.to b.row ≡ values_in link.from a.row)) K (λ b m. turn (leads_or link a b))) [
        | inr w ↦ inl (w.0, w.1, w.2.0, w.2.1)
        | inl none ↦ inr (λ w. none w.0 w.1 (w.2, w.3))
      ]
    where
      turn : {P : Type 0} → P ⊎ (¬ P) → (¬ P) ⊎ P
      turn (inl p) = inr p
      turn (inr n) = inl n

  -- a link holds, or a fact has not the fact that it names
  pub link_or : (t l : ℕ) → LinkHolds schema K t l
      ⊎ ((row : List Value) × (in_table t row ∈ K) × (¬ (HasLinked K (link_at schema t l) (in_table t row))))
  link_or t l =
      elim (each_or (λ a. a.table ≡ t → HasLinked K (link_at schema t l) a)
      (λ a. (a.table ≡ t) × (¬ (HasLinked K (link_at schema t l) a))) K decide) [
        | inl all ↦ inl all
        | inr w ↦ inr (w.0.row, placed_in t w.0 w.1 w.2.0, w.2.1)
      ]
    where
      decide : (a : Fact) → a ∈ K
          → (a.table ≡ t → HasLinked K (link_at schema t l) a) ⊎ ((a.table ≡ t) × (¬ (HasLinked K (link_at schema t l) a)))
      decide a m = elim (cases_eq a.table t) [
        | inr n ↦ inl (λ e. absurd (n e))
        | inl e ↦ elim (linked_or (link_at schema t l) a) [ inl w ↦ inl (λ _. w) | inr n ↦ inr (e, n) ]
      ]

  -- ---- all of them

  abbrev determinations_in : ℕ → ℕ
  determinations_in t = length (table_of schema t).determinations

  -- keys hold, or a determination is the first that does not
  pub keys_or : KeysHold schema K ⊎ ((t k : ℕ) × IsFirstFailing (HasDetermination schema) (DeterminationHolds schema K) t k)
  keys_or =
      elim (all_or_first (HasDetermination schema) (λ t k. HasDetermination schema t k → DeterminationHolds schema K t k) one determinations_in
      (length schema) (λ t k h. (has_table (λ (x : Table). x.determinations) refl schema t k h, h)) (λ t k h i. i)) [
        | inl all ↦ inl (keys_hold_by (λ t k h. all t k h h))
        | inr w ↦ inr (
          w.0,
          w.1,
          record {
            is_there = w.2.is_there;
            fails = λ h. w.2.fails (λ _. h);
            before = λ j l t b. w.2.before j l t b t;
          },
        )
      ]
    where
      one : (t k : ℕ) → (HasDetermination schema t k → DeterminationHolds schema K t k) ⊎ (¬ (HasDetermination schema t k → DeterminationHolds schema K t k))
      one t k = elim (cases_lt k (determinations_in t)) [
        | inr n ↦ inl (λ h. absurd (omega (arith, h, n)))
        | inl h ↦ elim (determination_or t k h) [
          | inl d ↦ inl (λ _. d)
          | inr s ↦ inr (λ f. shown_fails t k (in_table t s.one) (in_table t s.other) s.column s.break refl (f h))
        ]
      ]

  -- links hold, or one is the first that does not
  pub links_or : LinksHold schema K ⊎ ((t l : ℕ) × IsFirstFailing (HasLink schema) (LinkHolds schema K) t l)
  links_or =
      elim (all_or_first (HasLink schema) (LinkHolds schema K) one (λ t. length (table_of schema t).links) (length schema)
      (λ t l h. (has_table (λ (x : Table). x.links) refl schema t l h, h)) (λ t l h i. i)) [
        | inl all ↦ inl (links_hold_by all)
        | inr w ↦ inr w
      ]
    where
      one : (t l : ℕ) → LinkHolds schema K t l ⊎ (¬ (LinkHolds schema K t l))
      one t l = elim (link_or t l) [
        | inl h ↦ inl h
        | inr w ↦ inr (λ h. w.2 (h (in_table t w.0) w.1 refl))
      ]

-- The null map of roots is the forced map.
use Rattle.std.proofs.Common.{◌≡◌, ℕ, suc, ◌<◌, ◌≤◌, ◌+◌, true, List, [], ◌∷◌, inl, inr, refl, sym, ◌∙◌, ap, length, arith}
use Rattle.std.specs.Prelude.{map}
use Rattle.std.proofs.lemmas.Bool.{cases_eq, cases_lt, cases_Bool, eq-eqb, ne_eqb}
use Rattle.std.proofs.lemmas.List.FromFn.{length-range_with_len}
use Rattle.dx_base.specs.Members.{◌∈◌, here, there}
use Rattle.dx_model.specs.declared.values.NullId.{NullId}
use Rattle.dx_model.specs.declared.values.Value.{Value}
use Rattle.dx_model.specs.declared.values.Value.TheVariants.{Const, Null}
use Rattle.dx_model.specs.declared.facts.Fact.{Fact}
use Rattle.dx_model.specs.declared.facts.NullPair.{NullPair}
use Rattle.dx_model.specs.Tables.{Table, cell, IsInstance, KeysHold}
use Rattle.dx_model.specs.Instances.{moved, fact_moved, same_null, given, values, image, IsNullMap}
use Rattle.dx_model.specs.Chase.{IsForcedValue}
use Rattle.dx_model.proofs.Maps.{listing, listing_gives, moved_same, same_null-true, same_null-refl}
use Rattle.dx_chase.specs.Demands.{Demand}
use Rattle.dx_chase.specs.Joins.{nth, AreDemands, AllFit}
use Rattle.dx_chase.specs.Boards.{firsts}
use Rattle.dx_chase.proofs.Opening.{at_first}
use Rattle.dx_keys.specs.Numbers.{AreValues, null_of, null_pairs_from, null_map_of}
use Rattle.dx_keys.proofs.Demanding.{AreDemandsOf, IsFactMap}
use Rattle.dx_keys.proofs.Followed.{followed_first, followed_forced}
use Rattle.dx_keys.proofs.Readings.{DistinctRanks}
use Rattle.dx_keys.proofs.Bridge.{Stands, keys_hold, distinct}

-- the values from a number on
pub record View (S : List Value) (i : ℕ) (vs : List Value) : Type 0 where
  pub each : i + length vs ≡ length S
  pub same : (j : ℕ) → j < length vs → cell vs j ≡ cell S (i + j)

view_more : (S : List Value) (i : ℕ) (v : Value) (vs : List Value) → View S i (v ∷ vs) → View S (i + 1) vs
view_more S i v vs W = record {
  each = (let e = W.each in omega arith);
  same = λ j h. let e : i + suc j ≡ (i + 1) + j = omega arith in W.same (suc j) (omega arith) ∙ ap (cell S) e;
}

view_first : (S : List Value) → View S 0 S
view_first S = record { each = omega arith; same = λ j h. let e : j ≡ 0 + j = omega arith in ap (cell S) e }

view_here : (S : List Value) (i : ℕ) (v : Value) (vs : List Value) → View S i (v ∷ vs) → (v ≡ cell S i) × (i < length S)
view_here S i v vs W = (let e : i + 0 ≡ i = omega arith in W.same 0 (omega arith) ∙ ap (cell S) e, let q = W.each in omega arith)

module _ (S : List Value) (roots : List ℕ) (D : DistinctRanks S) (inside : (k : ℕ) → k < length S → nth roots k < length S)
    (nulls : (k : ℕ) → k < length S → ¬ (nth roots k ≡ k) → (n : NullId) × (cell S k ≡ Null n)) where
  -- a pair is that of a number that is not its own root
  pub record IsPairAt (i : ℕ) (p : NullPair) : Type 0 where
    pub k : ℕ
    pub from : i ≤ k
    pub small : k < length S
    pub null : cell S k ≡ Null p.null
    pub value : p.value ≡ cell S (nth roots k)
    pub other : ¬ (nth roots k ≡ k)

  pair_here : (i : ℕ) (v : Value) → v ≡ cell S i → i < length S → ¬ (nth roots i ≡ i) → cell S i ≡ Null (null_of v)
  pair_here i v e h d =
      let w = nulls i h d in
      w.1 ∙ ap Null (sym (ap null_of w.1) ∙ ap null_of (sym e))

  pub pairs_at : (i : ℕ) (vs : List Value) → View S i vs → (p : NullPair) → p ∈ null_pairs_from S roots i vs → IsPairAt i p
  pairs_at i [] W p m = elim m [ ]
  pairs_at i (v ∷ vs) W p m = elim (cases_eq (nth roots i) i) [
    | inl e ↦ later (pairs_at (i + 1) vs (view_more S i v vs W) p (rw (eq-eqb (nth roots i) i e) at m))
    | inr d ↦ first d (λ l. pairs_at (i + 1) vs (view_more S i v vs W) p l) (rw (ne_eqb (nth roots i) i d) at m)
  ]
    where
      later : IsPairAt (i + 1) p → IsPairAt i p
      later Q = record { k = Q.k; from = (let f = Q.from in omega arith); small = Q.small; null = Q.null; value = Q.value; other = Q.other }

      first : ¬ (nth roots i ≡ i) → (p ∈ null_pairs_from S roots (i + 1) vs → IsPairAt (i + 1) p) → p ∈ (record { null = null_of v; value = cell S (nth roots i) } ∷ null_pairs_from S roots (i + 1) vs) → IsPairAt i p
      first d f (here e) =
          let h = view_here S i v vs W in
          record {
            k = i;
            from = omega arith;
            small = h.1;
            null = pair_here i v h.0 h.1 d ∙ ap (λ (z : NullPair). Null z.null) e;
            value = sym (ap (λ (z : NullPair). z.value) e);
            other = d;
          }
      first d f (there l) = later (f l)

  map_from : (i : ℕ) (vs : List Value) → View S i vs → IsNullMap (null_pairs_from S roots i vs)
  map_from i [] W = tt
  map_from i (v ∷ vs) W = elim (cases_eq (nth roots i) i) [
    | inl e ↦ rw (eq-eqb (nth roots i) i e) (map_from (i + 1) vs (view_more S i v vs W))
    | inr d ↦ rw (ne_eqb (nth roots i) i d) (go d (map_from (i + 1) vs (view_more S i v vs W)) (pairs_at (i + 1) vs (view_more S i v vs W)))
  ]
    where
      go : ¬ (nth roots i ≡ i) → IsNullMap (null_pairs_from S roots (i + 1) vs) → ((p : NullPair) → p ∈ null_pairs_from S roots (i + 1) vs → IsPairAt (i + 1) p)
          → IsNullMap (record { null = null_of v; value = cell S (nth roots i) } ∷ null_pairs_from S roots (i + 1) vs)
      go d N f =
          let h = view_here S i v vs W in
          let n = pair_here i v h.0 h.1 d in (
            λ e. d (D (nth roots i) i (inside i h.1) h.1 (e ∙ sym n)),
            λ q m e. let Q = f q m in let z : Q.k ≡ i = D Q.k i Q.small h.1 (Q.null ∙ (ap Null e ∙ sym n)) in let g = Q.from in absurd (omega arith),
            N,
          )

  -- a null that stands before is not listed
  none_from : (i : ℕ) (vs : List Value) → View S i vs → (k : ℕ) (n : NullId) → k < i → k < length S → cell S k ≡ Null n → given (null_pairs_from S roots i vs) n ≡ Null n
  none_from i [] W k n l s e = refl
  none_from i (v ∷ vs) W k n l s e = let rest : given (null_pairs_from S roots (i + 1) vs) n ≡ Null n = none_from (i + 1) vs (view_more S i v vs W) k n (omega arith) s e in elim (cases_eq (nth roots i) i) [
    | inl q ↦ rw (eq-eqb (nth roots i) i q) rest
    | inr d ↦ rw (ne_eqb (nth roots i) i d) (elim (cases_Bool (same_null (null_of v) n)) [
      | inl t ↦ absurd (clash d t)
      | inr f ↦ rw f rest
    ])
  ]
    where
      clash : ¬ (nth roots i ≡ i) → same_null (null_of v) n ≡ true → ⊥
      clash d t =
          let h = view_here S i v vs W in
          let z : i ≡ k = D i k h.1 s (pair_here i v h.0 h.1 d ∙ (ap Null (same_null-true (null_of v) n t) ∙ sym e)) in
          omega arith

  gives_from : (i : ℕ) (vs : List Value) → View S i vs → (k : ℕ) (n : NullId) → i ≤ k → k < length S → cell S k ≡ Null n
      → given (null_pairs_from S roots i vs) n ≡ cell S (nth roots k)
  gives_from i [] W k n l s e = absurd (let q = W.each in omega arith)
  gives_from i (v ∷ vs) W k n l s e = let rest = λ (o : ¬ (k ≡ i)). gives_from (i + 1) vs (view_more S i v vs W) k n (omega arith) s e in elim (cases_eq k i) [
    | inl q ↦ elim (cases_eq (nth roots i) i) [
      | inl r ↦ rw (eq-eqb (nth roots i) i r) (none_from (i + 1) vs (view_more S i v vs W) k n (omega arith) s e ∙ (sym e ∙ ap (cell S) (q ∙ (sym r ∙ ap (nth roots) (sym q)))))
      | inr d ↦ rw (ne_eqb (nth roots i) i d, is_null d q, same_null-refl n) (ap (λ z. cell S (nth roots z)) (sym q))
    ]
    | inr o ↦ elim (cases_eq (nth roots i) i) [
      | inl r ↦ rw (eq-eqb (nth roots i) i r) (rest o)
      | inr d ↦ rw (ne_eqb (nth roots i) i d) (elim (cases_Bool (same_null (null_of v) n)) [
        | inl t ↦ absurd (clash d o t)
        | inr f ↦ rw f (rest o)
      ])
    ]
  ]
    where
      is_null : ¬ (nth roots i ≡ i) → k ≡ i → null_of v ≡ n
      is_null d q =
          let h = view_here S i v vs W in
          ap null_of (h.0 ∙ (ap (cell S) (sym q) ∙ e))

      clash : ¬ (nth roots i ≡ i) → ¬ (k ≡ i) → same_null (null_of v) n ≡ true → ⊥
      clash d o t =
          let h = view_here S i v vs W in
          o (sym (D i k h.1 s (pair_here i v h.0 h.1 d ∙ (ap Null (same_null-true (null_of v) n t) ∙ sym e))))

-- each value of an instance stands under a number
abbrev pub HasNumbers : List Value → List Fact → Type 0
HasNumbers S A = (v : Value) → v ∈ values A → (i : ℕ) × (i < length S) × (cell S i ≡ v)

-- the first roots
row_same : (row : List Value) → row ≡ map (moved Null) row
row_same [] = refl
row_same (Const t ∷ row) = ap (λ z. Const t ∷ z) (row_same row)
row_same (Null n ∷ row) = ap (λ z. Null n ∷ z) (row_same row)

facts_same : (A : List Fact) → A ≡ map (fact_moved Null) A
facts_same [] = refl
facts_same (f ∷ A) =
    let e = row_same f.row in
    let d : f ≡ fact_moved Null f = (λ i. record { table = f.table; row = e i }) in
    let r = facts_same A in
    cc

pub stands_first : (schema : List Table) (S : List Value) (consts : ℕ) (A : List Fact) → Stands schema S consts A (firsts (length S)) Null []
stands_first schema S consts A = record {
  followed = followed_first schema A (facts_same A);
  reads = record {
    each = length-range_with_len 0 (length S);
    inside = λ i h. rw (at_first (length S) i h) h;
    gives = λ n i h e. sym e ∙ ap (cell S) (sym (at_first (length S) i h));
  };
  constants = λ i h k. at_first (length S) i k;
}

-- a number that is not its own root is that of a null
pub nulls_at : (schema : List Table) (S : List Value) (consts : ℕ) (A : List Fact) → AreValues consts S → (roots : List ℕ) (h : NullId → Value) (ss : List NullPair) → Stands schema S consts A roots h ss
    → (k : ℕ) → k < length S → ¬ (nth roots k ≡ k) → (n : NullId) × (cell S k ≡ Null n)
nulls_at schema S consts A V roots h ss T k l d = elim (cases_lt k consts) [
  | inl c ↦ absurd (d (T.constants k c l))
  | inr g ↦ V.nulls k g l
]

module _ (schema : List Table) (S : List Value) (consts : ℕ) (A : List Fact) (ds : List Demand) (V : AreValues consts S) (O : HasNumbers S A)
    (D : AreDemands (length S) ds) (M : AreDemandsOf schema S A ds) where
  module _ (roots : List ℕ) (h : NullId → Value) (ss : List NullPair) (T : Stands schema S consts A roots h ss) (fits : IsInstance schema A)
      (F : AllFit ds roots) where
    -- what each number gives, also one that no fact has
    pub root_gives : (i : ℕ) → i < length S → moved (given (null_map_of S roots)) (cell S i) ≡ cell S (nth roots i)
    root_gives i l = elim (cases_lt i consts) [
      | inl c ↦
          let w = V.constants i c l in
          ap (moved (given (null_map_of S roots))) w.1 ∙ (sym w.1 ∙ ap (cell S) (sym (T.constants i c l)))
      | inr g ↦
          let w = V.nulls i g l in
          ap (moved (given (null_map_of S roots))) w.1 ∙ gives_from S roots (distinct consts S V) T.reads.inside (nulls_at schema S consts A V roots h ss T) 0 S (view_first S) i w.0 (omega arith) l w.1
    ]

    pub map_gives : (n : NullId) → Null n ∈ values A → given (null_map_of S roots) n ≡ h n
    map_gives n m =
        let w = O (Null n) m in
        gives_from S roots (distinct consts S V) T.reads.inside (nulls_at schema S consts A V roots h ss T) 0 S (view_first S) w.0 n (omega arith) w.1 w.2 ∙ sym (T.reads.gives n w.0 w.1 w.2)

    image_is : image (null_map_of S roots) A ≡ map (fact_moved h) A
    image_is = moved_same (given (null_map_of S roots)) h A map_gives

    keys : KeysHold schema (map (fact_moved h) A)
    keys = keys_hold schema S consts A ds V D M roots h ss T F

    pub fact_map : IsFactMap schema A ss (null_map_of S roots)
    fact_map = record {
      forced = record {
        null_map = map_from S roots (distinct consts S V) T.reads.inside (nulls_at schema S consts A V roots h ss T) 0 S (view_first S);
        here_alone = λ p m.
            let Q = pairs_at S roots (distinct consts S V) T.reads.inside (nulls_at schema S consts A V roots h ss T) 0 S (view_first S) p m in
            elim (T.followed.from p.null) [
              | inl e ↦ absurd (Q.other (distinct consts S V (nth roots Q.k) Q.k (T.reads.inside Q.k Q.small) Q.small (sym (T.reads.gives p.null Q.k Q.small Q.null) ∙ (e ∙ sym Q.null))))
              | inr k ↦ k
            ];
        gives = λ n m.
            let was : IsForcedValue schema A n (given (listing h (values A)) n) = (followed_forced schema A h ss T.followed fits keys).gives n m in
            rw (map_gives n m ∙ sym (listing_gives h n (values A) m)) was;
      };
      keys = rw image_is keys;
      there = image_is ∙ T.followed.there;
    }

-- What a function moves, where another takes it back, is as many facts and nulls there.
use Rattle.std.proofs.Common.{◌≡◌, ◌∙◌, ℕ, ◌≤◌, List, [], ◌∷◌, ◌⊎◌, inl, inr, refl, sym, ap, subst, arith, length}
use Rattle.std.specs.Prelude.{map}
use Rattle.std.proofs.lemmas.List.{length-map}
use Rattle.dx_base.specs.Members.{◌∈◌, ◌⊆◌, Distinct, Each, here, there}
use Rattle.dx_base.proofs.Members.{from_map, no_longer}
use Rattle.dx_model.specs.declared.values.NullId.{NullId}
use Rattle.dx_model.specs.declared.values.Value.{Value}
use Rattle.dx_model.specs.declared.values.Value.TheVariants.{Const, Null}
use Rattle.dx_model.specs.declared.facts.Fact.{Fact}
use Rattle.dx_model.specs.Instances.{Moves, fact_moved, moved, values}
use Rattle.dx_model.proofs.Decided.{Same, decide_in}
use Rattle.dx_instance.specs.Stored.{TableRows, facts, rows_of}
use Rattle.dx_instance.proofs.StoredFacts.{fact_from_row, row_from_fact}
use Rattle.dx_core_laws.specs.Isomorphic.{IsFactOf, IsNullOf, NoMore, NoMoreFacts, NoMoreNulls}
use Rattle.dx_core_laws.proofs.Backs.{Undoes, facts_apart, null_same, to_nulls, value_moves}

-- ---- lists without repetitions

-- what takes no two members to one takes different ones to different ones
pub distinct_map : {X Y : Type 0} (f : X → Y) (xs : List X) → ((x y : X) → x ∈ xs → y ∈ xs → f x ≡ f y → x ≡ y) → Distinct xs
    → Distinct (map f xs)
distinct_map f [] apart d = tt
distinct_map {X} {Y} f (x ∷ xs) apart d = (first, distinct_map f xs (λ y z k l. apart y z (there k) (there l)) d.1)
  where
    first : f x ∈ map f xs → ⊥
    first m =
        let r = from_map f xs m in
        d.0 (subst (λ (z : X). z ∈ xs) (apart r.0 x (there r.1) (here refl) r.2) r.1)

-- what has P at a function's values is no less than what has it before
pub no_more_by : {X : Type 0} (P Q : X → Type 0) (f : X → X) → ((x : X) → P x → Q (f x)) → ((x y : X) → P x → P y → f x ≡ f y → x ≡ y) → NoMore P Q
no_more_by {X} P Q f goes apart xs d each = (
  map f xs,
  distinct_map f xs (λ x y k l. apart x y (each x k) (each y l)) d,
  (λ y m. let r = from_map f xs m in subst Q r.2 (goes r.0 (each r.0 r.1))),
  length-map xs f,
)

-- those of a list that have P, each once
pub those : {X : Type 0} (P : X → Type 0) → Same X → ((x : X) → P x ⊎ (¬ (P x))) → (xs : List X)
    → (ys : List X) × Distinct ys × Each ys P × ((x : X) → x ∈ xs → P x → x ∈ ys)
those P same decide [] = ([], tt, (λ x m. elim m [ ]), (λ x m. elim m [ ]))
those {X} P same decide (x ∷ xs) =
    let r = those P same decide xs in
    elim (decide x) [
      | inr n ↦ (r.0, r.1, r.2, without n r.0 r.3)
      | inl p ↦ elim (decide_in same x r.0) [
        | inl i ↦ (r.0, r.1, r.2, kept r.0 i r.3)
        | inr n ↦ (x ∷ r.0, (n, r.1), more r.0 p r.2, again r.0 r.3)
      ]
    ]
  where
    without : ¬ (P x) → (ys : List X) → ((y : X) → y ∈ xs → P y → y ∈ ys) → (y : X) → y ∈ (x ∷ xs) → P y → y ∈ ys
    without n ys h y (here e) p = absurd (n (subst P (sym e) p))
    without n ys h y (there m) p = h y m p

    kept : (ys : List X) → x ∈ ys → ((y : X) → y ∈ xs → P y → y ∈ ys) → (y : X) → y ∈ (x ∷ xs) → P y → y ∈ ys
    kept ys i h y (here e) p = subst (λ (z : X). z ∈ ys) e i
    kept ys i h y (there m) p = h y m p

    more : (ys : List X) → P x → Each ys P → Each (x ∷ ys) P
    more ys p each y (here e) = subst P e p
    more ys p each y (there m) = each y m

    again : (ys : List X) → ((y : X) → y ∈ xs → P y → y ∈ ys) → (y : X) → y ∈ (x ∷ xs) → P y → y ∈ (x ∷ ys)
    again ys h y (here e) p = here e
    again ys h y (there m) p = there (h y m p)

-- ---- facts and nulls

-- the null that a value is
abbrev name_of : Value → NullId
name_of (Const t) = record { rule = 0; var = 0; row = 0 }
name_of (Null n) = n

named : (v : Value) (k : NullId) → v ≡ Null k → Null (name_of v) ≡ v
named (Const t) k e = absurd (cc e)
named (Null n) k e = refl

module _ (w g : NullId → Value) (A B : List Fact) (u : Undoes w g A) (s : Moves g A B) where
  pub facts_no_more : NoMoreFacts A B
  facts_no_more t =
      no_more_by (IsFactOf A t) (IsFactOf B t) (fact_moved g) (λ f p. (s f p.0, p.1))
      (λ e f p q d. facts_apart w g A u e f p.0 q.0 d)

  pub nulls_no_more : NoMoreNulls A B
  nulls_no_more =
      no_more_by (IsNullOf A) (IsNullOf B) (λ n. name_of (g n))
      (λ n i. let k = to_nulls w g A u n i in
      subst (λ (v : Value). v ∈ values B) (sym (named (g n) k.0 k.1)) (value_moves g A B s (Null n) i))
      (λ m n i j e.
      let k = to_nulls w g A u m i in
      let l = to_nulls w g A u n j in
      let q : g m ≡ g n = sym (named (g m) k.0 k.1) ∙ (ap Null e ∙ named (g n) l.0 l.1) in
      null_same m n (sym (u m i) ∙ (ap (moved w) q ∙ u n j)))

-- ---- rows that are stored

-- no more facts are no more rows, where no row stands twice
pub rows_no_more : (I K : List TableRows) → ((t : ℕ) → Distinct (rows_of I t)) → NoMoreFacts (facts I) (facts K)
    → (t : ℕ) → length (rows_of I t) ≤ length (rows_of K t)
rows_no_more I K once few t =
    let as_fact : List Value → Fact = λ row. record { table = t; row = row } in
    let fs = map as_fact (rows_of I t) in
    let k = few t fs
    (distinct_map as_fact (rows_of I t) (λ x y i j e. ap (λ (f : Fact). f.row) e) (once t))
    (λ f m. let r = from_map as_fact (rows_of I t) m in subst (IsFactOf (facts I) t) r.2 (fact_from_row I t r.0 r.1, refl)) in
    let rows = map (λ (f : Fact). f.row) k.0 in
    let apart : Distinct rows = distinct_map (λ (f : Fact). f.row) k.0 (λ x y i j e. same_fact_at x y ((k.2 x i).1) ((k.2 y j).1) e) k.1 in
    let standing : rows ⊆ rows_of K t = λ row m.
    let r = from_map (λ (f : Fact). f.row) k.0 m in
    let q = k.2 r.0 r.1 in
    subst (λ (x : List Value). x ∈ rows_of K t) r.2 (subst (λ (n : ℕ). r.0.row ∈ rows_of K n) q.1 (row_from_fact K r.0 q.0)) in
    let a = no_longer rows (rows_of K t) apart standing in
    let b = length-map k.0 (λ (f : Fact). f.row) in
    let c = length-map (rows_of I t) as_fact in
    let d = k.3 in omega (arith, a, b, c, d)
  where
    same_fact_at : (x y : Fact) → x.table ≡ t → y.table ≡ t → x.row ≡ y.row → x ≡ y
    same_fact_at x y p q e = λ i. record { table = (p ∙ sym q) i; row = e i }

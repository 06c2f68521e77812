-- Pruned lists, and following over the instances of two schemas.
use Rattle.std.proofs.Common.{◌≡◌, ℕ, List, [], ◌∷◌, ◌++◌, ◌⊎◌, inl, inr, length, refl, sym, ◌∙◌, ap, subst, arith}
use Rattle.std.specs.Prelude.{map}
use Rattle.std.proofs.lemmas.Bool.{cases_eq, cases_order}
use Rattle.std.proofs.lemmas.List.{length-map, append_assoc}
use Rattle.dx_model.specs.declared.values.Value.{Value}
use Rattle.dx_model.specs.declared.values.Value.TheVariants.{Const, Null}
use Rattle.dx_model.specs.declared.facts.Fact.{Fact}
use Rattle.dx_model.specs.declared.rules.Cell.{Cell}
use Rattle.dx_model.specs.declared.rules.Cell.TheVariants.{Var, Ex, Lit}
use Rattle.dx_model.specs.declared.rules.Atom.{Atom}
use Rattle.dx_model.specs.declared.rules.Rule.{Rule}
use Rattle.dx_base.specs.Members.{◌∈◌, ◌⊆◌, here, there, Each}
use Rattle.dx_base.proofs.Members.{in_left, in_right, from_append, from_flat_map}
use Rattle.dx_base.proofs.Tests.{from_filter}
use Rattle.dx_model.specs.Values.{Conversions}
use Rattle.dx_base.specs.Texts.{Text}
use Rattle.dx_model.specs.Instances.{HoldsConstants}
use Rattle.dx_model.specs.Tables.{Table, table_of, FactFits}
use Rattle.dx_model.specs.Rules.{cell_value, fact_of_atom, premise_fact, Satisfies}
use Rattle.dx_model.specs.Solutions.{AtomFits}
use Rattle.dx_model.specs.Following.{SatisfyAll, Implies, are_none, CanGo, PrunedAfter}
use Rattle.dx_model.specs.Laws.{ImpliesEach, OnePruned, PrunedImplies, FollowsInSchemas}
use Rattle.dx_model.proofs.RowsExist.{match_of}

pub implies_each : ImpliesEach
implies_each convert P Q = ((λ h d m I K s. h I K s d m), (λ h I K s d m. h d m I K s))

pub one_after : (convert : Conversions) (front R P Q : List Rule) → PrunedAfter convert front R P → PrunedAfter convert front R Q → P ≡ Q
one_after convert front [] P Q p q = p ∙ sym q
one_after convert front (d ∷ R) P Q p q = go (one_after convert (front ++ d ∷ []) R p.0 q.0 p.1 q.1) p.2 q.2
  where
    go : p.0 ≡ q.0 → (CanGo convert (front ++ p.0) d × (P ≡ p.0)) ⊎ ((¬ (CanGo convert (front ++ p.0) d)) × (P ≡ d ∷ p.0))
        → (CanGo convert (front ++ q.0) d × (Q ≡ q.0)) ⊎ ((¬ (CanGo convert (front ++ q.0) d)) × (Q ≡ d ∷ q.0)) → P ≡ Q
    go e (inl a) (inl b) = a.1 ∙ (e ∙ sym b.1)
    go e (inl a) (inr b) = absurd (b.0 (subst (λ kept. CanGo convert (front ++ kept) d) e a.0))
    go e (inr a) (inl b) = absurd (a.0 (subst (λ kept. CanGo convert (front ++ kept) d) (sym e) b.0))
    go e (inr a) (inr b) = a.1 ∙ (ap (λ kept. d ∷ kept) e ∙ sym b.1)

pub one_pruned : OnePruned
one_pruned convert R P Q = one_after convert [] R P Q

pub part_after : (convert : Conversions) (front R P : List Rule) → PrunedAfter convert front R P → P ⊆ R
part_after convert front [] P p = λ r m. rw p at m
part_after convert front (d ∷ R) P p = go (part_after convert (front ++ d ∷ []) R p.0 p.1) p.2
  where
    longer : p.0 ⊆ R → (d ∷ p.0) ⊆ (d ∷ R)
    longer s r (here e) = here e
    longer s r (there m) = there (s r m)

    go : p.0 ⊆ R → (CanGo convert (front ++ p.0) d × (P ≡ p.0)) ⊎ ((¬ (CanGo convert (front ++ p.0) d)) × (P ≡ d ∷ p.0)) → P ⊆ (d ∷ R)
    go s (inl a) = λ r m. there (s r (rw a.1 at m))
    go s (inr a) = λ r m. longer s r (rw a.1 at m)

implies_after : (convert : Conversions) (front R P : List Rule) → PrunedAfter convert front R P → Implies convert (front ++ P) (front ++ R)
implies_after convert front [] P p = λ I K s. subst (λ Q. SatisfyAll convert (front ++ Q) I K) p s
implies_after convert front (d ∷ R) P p = λ I K s. go I K (implies_after convert (front ++ d ∷ []) R p.0 p.1 I K) s p.2
  where
    go : (I K : List Fact) → (SatisfyAll convert ((front ++ d ∷ []) ++ p.0) I K → SatisfyAll convert ((front ++ d ∷ []) ++ R) I K) → SatisfyAll convert (front ++ P) I K
        → (CanGo convert (front ++ p.0) d × (P ≡ p.0)) ⊎ ((¬ (CanGo convert (front ++ p.0) d)) × (P ≡ d ∷ p.0)) → SatisfyAll convert (front ++ d ∷ R) I K
    go I K h s (inl a) =
        let t : SatisfyAll convert (front ++ p.0) I K = subst (λ Q. SatisfyAll convert (front ++ Q) I K) a.1 s in
        let of_d : Satisfies convert d I K = a.0.1 I K (λ r m. t r (from_filter (λ (d : Rule). are_none d.derived) (front ++ p.0) m).0) in
        subst (λ Q. SatisfyAll convert Q I K) (append_assoc front (d ∷ []) R)
        (h (λ r m. elim (from_append (front ++ d ∷ []) m) [
          | inr k ↦ t r (in_right front k)
          | inl k ↦ elim (from_append front k) [ inl l ↦ t r (in_left p.0 l) | inr l ↦ alone r of_d l ]
        ]))
      where
        alone : (r : Rule) → Satisfies convert d I K → r ∈ (d ∷ []) → Satisfies convert r I K
        alone r o (here e) = subst (λ (c : Rule). Satisfies convert c I K) e o
        alone r o (there m) = elim m [ ]
    go I K h s (inr a) =
        let t : SatisfyAll convert (front ++ d ∷ p.0) I K = subst (λ Q. SatisfyAll convert (front ++ Q) I K) a.1 s in
        subst (λ Q. SatisfyAll convert Q I K) (append_assoc front (d ∷ []) R) (h (subst (λ Q. SatisfyAll convert Q I K) (sym (append_assoc front (d ∷ []) p.0)) t))

pub pruned_implies : PrunedImplies
pruned_implies convert R P p = (part_after convert [] R P p, implies_after convert [] R P p)

-- ---- parts of lists that are decided

module _ {X : Type 0} (P : X → Type 0) (decide : (x : X) → P x ⊎ (¬ (P x))) where
  abbrev keep_if : (x : X) → P x ⊎ (¬ (P x)) → List X → List X
  keep_if x (inl h) xs = x ∷ xs
  keep_if x (inr n) xs = xs

  abbrev kept : List X → List X
  kept [] = []
  kept (x ∷ xs) = keep_if x (decide x) (kept xs)

  in_kept : (x : X) (xs : List X) → x ∈ xs → P x → x ∈ kept xs
  in_kept x [] m h = elim m [ ]
  in_kept x (y ∷ ys) m h = go (decide y) m (in_kept x ys)
    where
      go : (o : P y ⊎ (¬ (P y))) → x ∈ (y ∷ ys) → (x ∈ ys → P x → x ∈ kept ys) → x ∈ keep_if y o (kept ys)
      go (inl k) (here e) f = here e
      go (inl k) (there n) f = there (f n h)
      go (inr k) (here e) f = absurd (k (subst P (sym e) h))
      go (inr k) (there n) f = f n h

  from_kept : (x : X) (xs : List X) → x ∈ kept xs → (x ∈ xs) × P x
  from_kept x [] m = elim m [ ]
  from_kept x (y ∷ ys) m = go (decide y) m (from_kept x ys)
    where
      go : (o : P y ⊎ (¬ (P y))) → x ∈ keep_if y o (kept ys) → (x ∈ kept ys → (x ∈ ys) × P x) → (x ∈ (y ∷ ys)) × P x
      go (inl k) (here e) f = (here e, subst P e k)
      go (inl k) (there n) f = let r = f n in (there r.0, r.1)
      go (inr k) n f = let r = f n in (there r.0, r.1)

fact_fits : (schema : List Table) (f : Fact) → FactFits schema f ⊎ (¬ (FactFits schema f))
fact_fits schema f = elim (cases_order f.table (length schema)) [
  | inl e ↦ inr (λ h. let k = h.table in omega (arith, k, e))
  | inr o ↦ elim o [
    | inr l ↦ inr (λ h. let k = h.table in omega (arith, k, l))
    | inl l ↦ elim (cases_eq (length f.row) (table_of schema f.table).width) [
      | inl e ↦ inl (record { table = l; width = e })
      | inr n ↦ inr (λ h. n h.width)
    ]
  ]
]

abbrev AreConstants : List Value → Type 0
AreConstants row = Each row (λ v. (t : Text) × (v ≡ Const t))

are_constants : (row : List Value) → AreConstants row ⊎ (¬ (AreConstants row))
are_constants [] = inl (λ v m. elim m [ ])
are_constants (Null n ∷ row) = inr (λ h. let w = h (Null n) (here refl) in no_text n w.0 w.1)
  where
    no_text : (n : _) (t : Text) → Null n ≡ Const t → ⊥
    no_text n t e = cc
are_constants (Const t ∷ row) = elim (are_constants row) [
  | inl h ↦ inl (both h)
  | inr n ↦ inr (λ h. n (λ v m. h v (there m)))
]
  where
    both : AreConstants row → AreConstants (Const t ∷ row)
    both h v (here e) = (t, sym e)
    both h v (there m) = h v m

abbrev IsSource : List Table → Fact → Type 0
IsSource schema f = FactFits schema f × AreConstants f.row

source_fits : (schema : List Table) (f : Fact) → IsSource schema f ⊎ (¬ (IsSource schema f))
source_fits schema f = elim (fact_fits schema f) [
  | inr n ↦ inr (λ h. n h.0)
  | inl a ↦ elim (are_constants f.row) [ inl b ↦ inl (a, b) | inr n ↦ inr (λ h. n h.1) ]
]

pub said_fits : (schema : List Table) (texts : ℕ → Text) (values : ℕ → Value) (a : Atom) → AtomFits schema a → FactFits schema (fact_of_atom texts values a)
said_fits schema texts values a h = record { table = h.table; width = length-map a.cells (cell_value texts values) ∙ h.width }

pub premise_constants : (texts : ℕ → Text) (cs : List Cell) → AreConstants (map (cell_value texts (λ _. Const [])) cs)
premise_constants texts [] v m = elim m [ ]
premise_constants texts (Var x ∷ cs) v (here e) = (texts x, sym e)
premise_constants texts (Ex x ∷ cs) v (here e) = ([], sym e)
premise_constants texts (Lit t ∷ cs) v (here e) = (t, sym e)
premise_constants texts (c ∷ cs) v (there m) = premise_constants texts cs v m

pub follows_in_schemas : FollowsInSchemas
follows_in_schemas convert source target R d fit h I K s texts m =
    let J : List Fact = kept (IsSource source) (source_fits source) I in
    let L : List Fact = kept (FactFits target) (fact_fits target) K in
    let into : J ⊆ I = λ f k. (from_kept (IsSource source) (source_fits source) f I k).0 in
    let fits_J : (f : Fact) → f ∈ J → FactFits source f = λ f k. (from_kept (IsSource source) (source_fits source) f I k).1.0 in
    let constants : HoldsConstants J = λ v k.
    let w = from_flat_map (λ (f : Fact). f.row) J k in
    (from_kept (IsSource source) (source_fits source) w.0 I w.1).1.1 v w.2 in
    let fits_L : (f : Fact) → f ∈ L → FactFits target f = λ f k. (from_kept (FactFits target) (fact_fits target) f K k).1 in
    let satisfied : SatisfyAll convert R J L = λ r k t n.
    let v = s r k t (match_of convert r J I t into n) in
    (v.0, λ a l. in_kept (FactFits target) (fact_fits target) (fact_of_atom t v.0 a) K (v.1 a l) (said_fits target t v.0 a ((fit r (there k)).conclusion a l))) in
    let n = h J L fits_J constants fits_L satisfied texts (record {
      premise = λ a k. in_kept (IsSource source) (source_fits source) (premise_fact texts a) I (m.premise a k)
          (said_fits source texts (λ _. Const []) a ((fit d (here refl)).premise a k), premise_constants texts a.cells);
      derived = m.derived;
    }) in
    (n.0, λ a k. (from_kept (FactFits target) (fact_fits target) (fact_of_atom texts n.0 a) K (n.1 a k)).0)

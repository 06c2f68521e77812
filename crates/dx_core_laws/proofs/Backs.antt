-- What a function on nulls does, another takes back: so it makes an isomorphism.
use Rattle.std.proofs.Common.{◌≡◌, ◌∙◌, ℕ, List, [], ◌∷◌, ◌⊎◌, inl, inr, refl, sym, ap, subst}
use Rattle.std.specs.Prelude.{map}
use Rattle.dx_base.specs.Members.{◌∈◌, ◌⊆◌, ◌≈◌, here, there}
use Rattle.dx_base.proofs.Members.{from_flat_map, from_map, in_flat_map, in_map, same_map, same_trans}
use Rattle.dx_model.specs.declared.values.NullId.{NullId}
use Rattle.dx_model.specs.declared.values.Value.{Value}
use Rattle.dx_model.specs.declared.values.Value.TheVariants.{Const, Null}
use Rattle.dx_model.specs.declared.facts.Fact.{Fact}
use Rattle.dx_model.specs.declared.facts.NullPair.{NullPair}
use Rattle.dx_model.specs.Instances.{IsNullMap, Moves, fact_moved, given, image, moved, values}
use Rattle.dx_model.proofs.ByMembers.{values_part}
use Rattle.dx_model.proofs.Decided.{same_value}
use Rattle.dx_model.proofs.Maps.{is_null_map, listing, listing_gives, moved_same}
use Rattle.dx_model.proofs.Reduction.{and_then, fact_stays, fact_twice, from_nulls, in_nulls, nulls}
use Rattle.dx_core_laws.specs.Isomorphic.{AreIsomorphic, IsIsomorphism}
use Rattle.dx_core_laws.specs.Laws.{IsomorphismsJoin, IsomorphismsTurn, SameAreIsomorphic}

-- w takes each null of A back from where g takes it
abbrev pub Undoes : (NullId → Value) → (NullId → Value) → List Fact → Type 0
Undoes w g A = (n : NullId) → Null n ∈ values A → moved w (g n) ≡ Null n

-- g takes the nulls of A to nulls
abbrev pub ToNulls : (NullId → Value) → List Fact → Type 0
ToNulls g A = (n : NullId) → Null n ∈ values A → (k : NullId) × (g n ≡ Null k)

-- and no two to one
abbrev pub OneToOne : (NullId → Value) → List Fact → Type 0
OneToOne g A = (m n : NullId) → Null m ∈ values A → Null n ∈ values A → g m ≡ g n → m ≡ n

const_null : (t : List ℕ) (n : NullId) → ◌≡◌ {A = Value} (Const t) (Null n) → ⊥
const_null t n e = cc

pub null_same : (a b : NullId) → ◌≡◌ {A = Value} (Null a) (Null b) → a ≡ b
null_same a b e = cc

pub moved_twice : (g w : NullId → Value) (v : Value) → moved (and_then g w) v ≡ moved w (moved g v)
moved_twice g w (Const t) = refl
moved_twice g w (Null n) = refl

-- a null of what is moved is one that a null of A becomes
pub null_from : (g : NullId → Value) (A : List Fact) (k : NullId) → Null k ∈ values (map (fact_moved g) A)
    → (n : NullId) × (Null n ∈ values A) × (g n ≡ Null k)
null_from g A k i =
    let e = from_flat_map (λ (f : Fact). f.row) (map (fact_moved g) A) i in
    let a = from_map (fact_moved g) A e.1 in
    let v = from_map (moved g) a.0.row (subst (λ (x : Fact). Null k ∈ x.row) (sym a.2) e.2) in
    of a.0 a.1 v.0 v.1 v.2
  where
    of : (f : Fact) → f ∈ A → (v : Value) → v ∈ f.row → moved g v ≡ Null k → (n : NullId) × (Null n ∈ values A) × (g n ≡ Null k)
    of f j (Const t) l q = absurd (const_null t k q)
    of f j (Null m) l q = (m, in_flat_map (λ (d : Fact). d.row) j l, q)

-- what becomes of a value of A stands where A is moved to
pub value_moves : (g : NullId → Value) (A B : List Fact) → Moves g A B → (v : Value) → v ∈ values A → moved g v ∈ values B
value_moves g A B s v i =
    let e = from_flat_map (λ (f : Fact). f.row) A i in
    in_flat_map (λ (f : Fact). f.row) (s e.0 e.1) (in_map (moved g) e.2)

-- ---- what is taken back

module _ (w g : NullId → Value) (A : List Fact) (u : Undoes w g A) where
  pub fact_back : (f : Fact) → f ∈ A → fact_moved w (fact_moved g f) ≡ f
  fact_back f m = sym (fact_twice g w f) ∙ fact_stays (and_then g w) f (λ n k. u n (in_flat_map (λ (d : Fact). d.row) m k))

  pub to_nulls : ToNulls g A
  to_nulls n i = of (g n) refl
    where
      of : (v : Value) → g n ≡ v → (k : NullId) × (g n ≡ Null k)
      of (Const t) e = absurd (const_null t n (sym (ap (moved w) e) ∙ u n i))
      of (Null k) e = (k, e)

  pub one_to_one : OneToOne g A
  one_to_one m n i j e = null_same m n (sym (u m i) ∙ (ap (moved w) e ∙ u n j))

  -- two facts never become one
  pub facts_apart : (e f : Fact) → e ∈ A → f ∈ A → fact_moved g e ≡ fact_moved g f → e ≡ f
  facts_apart e f m k q = sym (fact_back e m) ∙ (ap (fact_moved w) q ∙ fact_back f k)

  -- and w moves onto A what g makes of it
  pub goes_back : (B : List Fact) → map (fact_moved g) A ≈ B → map (fact_moved w) B ≈ A
  goes_back B s = (into, onto)
    where
      into : map (fact_moved w) B ⊆ A
      into f m =
          let b = from_map (fact_moved w) B m in
          let a = from_map (fact_moved g) A (s.1 b.0 b.1) in
          subst (λ (x : Fact). x ∈ A) (sym (fact_back a.0 a.1) ∙ (ap (fact_moved w) a.2 ∙ b.2)) a.1

      onto : A ⊆ map (fact_moved w) B
      onto f m =
          subst (λ (x : Fact). x ∈ map (fact_moved w) B) (fact_back f m)
          (in_map (fact_moved w) (s.0 (fact_moved g f) (in_map (fact_moved g) m)))

  -- g takes back what w does on what A becomes
  pub redoes : (B : List Fact) → map (fact_moved g) A ≈ B → Undoes g w B
  redoes B s k i =
      let r = null_from g A k (values_part B (map (fact_moved g) A) s.1 (Null k) i) in
      let e : w k ≡ Null r.0 = sym (ap (moved w) r.2) ∙ u r.0 r.1 in
      ap (moved g) e ∙ r.2

-- ---- the way back

-- v is a null of N that g takes to k, or k itself if there is none
abbrev ComesFrom : (NullId → Value) → List NullId → NullId → Value → Type 0
ComesFrom g N k v =
    ((n : NullId) × (n ∈ N) × (g n ≡ Null k) × (v ≡ Null n)) ⊎ (((n : NullId) → n ∈ N → ¬ (g n ≡ Null k)) × (v ≡ Null k))

from_where : (g : NullId → Value) (N : List NullId) (k : NullId) → (v : Value) × ComesFrom g N k v
from_where g [] k = (Null k, inr ((λ n i. elim i [ ]), refl))
from_where g (m ∷ N) k = elim (same_value (g m) (Null k)) [
  | inl e ↦ (Null m, inl (m, here refl, e, refl))
  | inr d ↦ let r = from_where g N k in (
    r.0,
    elim r.1 [
      | inl w ↦ inl (w.0, there w.1, w.2, w.3)
      | inr w ↦ inr ((λ n i. none d w.0 n i), w.1)
    ],
  )
]
  where
    none : ¬ (g m ≡ Null k) → ((n : NullId) → n ∈ N → ¬ (g n ≡ Null k)) → (n : NullId) → n ∈ (m ∷ N) → ¬ (g n ≡ Null k)
    none d w n (here e) = subst (λ (x : NullId). ¬ (g x ≡ Null k)) e d
    none d w n (there i) = w n i

-- what takes nulls to nulls, and no two to one, can be taken back
pub way_back : (g : NullId → Value) (A : List Fact) → ToNulls g A → OneToOne g A → (w : NullId → Value) × Undoes w g A
way_back g A to one =
    let back : NullId → Value = λ k. (from_where g (nulls A) k).0 in (
      back,
      (λ n i. let k = to n i in ap (moved back) k.1 ∙ found n i k.0 k.1 (from_where g (nulls A) k.0).0 (from_where g (nulls A) k.0).1),
    )
  where
    found : (n : NullId) → Null n ∈ values A → (k : NullId) → g n ≡ Null k → (v : Value) → ComesFrom g (nulls A) k v → v ≡ Null n
    found n i k e v c = elim c [
      | inl w ↦ w.3 ∙ ap Null (one w.0 n (from_nulls w.0 (values A) w.1) i (w.2 ∙ sym e))
      | inr w ↦ absurd (w.0 n (in_nulls n (values A) i) e)
    ]

-- ---- isomorphisms

pub is_isomorphism : (h : List NullPair) (w : NullId → Value) (A B : List Fact) → IsNullMap h → Undoes w (given h) A → image h A ≈ B → IsIsomorphism h A B
is_isomorphism h w A B d u s = record {
  null_map = d;
  to_nulls = to_nulls w (given h) A u;
  one_to_one = one_to_one w (given h) A u;
  onto = s;
}

pub isomorphism_by : (g w : NullId → Value) (A B : List Fact) → Undoes w g A → map (fact_moved g) A ≈ B → AreIsomorphic A B
isomorphism_by g w A B u s =
    let h = listing g (values A) in
    let same : map (fact_moved (given h)) A ≡ map (fact_moved g) A = moved_same (given h) g A (λ n i. listing_gives g n (values A) i) in (
      h,
      is_isomorphism h w A B (is_null_map g (values A)) (λ n i. ap (moved w) (listing_gives g n (values A) i) ∙ u n i)
          (subst (λ (X : List Fact). X ≈ B) (sym same) s),
    )

-- an isomorphism has a way back
pub back_of : (h : List NullPair) (A B : List Fact) → IsIsomorphism h A B → (w : NullId → Value) × Undoes w (given h) A
back_of h A B iso = way_back (given h) A iso.to_nulls iso.one_to_one

pub same_are : SameAreIsomorphic
same_are A B s =
    isomorphism_by Null Null A B (λ n i. refl)
    (subst (λ (X : List Fact). X ≈ B) (sym (stay A)) s)
  where
    stay : (A : List Fact) → map (fact_moved Null) A ≡ A
    stay [] = refl
    stay (f ∷ A) = let a = fact_stays Null f (λ n k. refl) in let b = stay A in cc

pub turn : IsomorphismsTurn
turn A B p =
    let b = back_of p.0 A B p.1 in
    isomorphism_by b.0 (given p.0) B A (redoes b.0 (given p.0) A b.1 B p.1.onto) (goes_back b.0 (given p.0) A b.1 B p.1.onto)

pub join : IsomorphismsJoin
join A B C p q =
    let a = back_of p.0 A B p.1 in
    let b = back_of q.0 B C q.1 in
    let g = given p.0 in
    let h = given q.0 in
    isomorphism_by (and_then g h) (and_then b.0 a.0) A C (λ n i. undone g h a.0 b.0 n i a.1 b.1 p.1.to_nulls p.1.onto.0) (onto g h p.1.onto q.1.onto)
  where
    undone : (g h v w : NullId → Value) (n : NullId) → Null n ∈ values A → Undoes v g A → Undoes w h B → ToNulls g A → map (fact_moved g) A ⊆ B
        → moved (and_then w v) (moved h (g n)) ≡ Null n
    undone g h v w n i a b to s =
        let k = to n i in
        let stands : Null k.0 ∈ values B = subst (λ (x : Value). x ∈ values B) k.1 (value_moves g A B (λ f m. s (fact_moved g f) (in_map (fact_moved g) m)) (Null n) i) in
        let e : moved w (moved h (g n)) ≡ g n = ap (λ (x : Value). moved w (moved h x)) k.1 ∙ (b k.0 stands ∙ sym k.1) in
        moved_twice w v (moved h (g n)) ∙ (ap (moved v) e ∙ a n i)

    twice : (g h : NullId → Value) (X : List Fact) → map (fact_moved (and_then g h)) X ≡ map (fact_moved h) (map (fact_moved g) X)
    twice g h [] = refl
    twice g h (f ∷ X) = let a = fact_twice g h f in let b = twice g h X in cc

    onto : (g h : NullId → Value) → map (fact_moved g) A ≈ B → map (fact_moved h) B ≈ C → map (fact_moved (and_then g h)) A ≈ C
    onto g h s t = subst (λ (X : List Fact). X ≈ C) (sym (twice g h A)) (same_trans (same_map (fact_moved h) s) t)

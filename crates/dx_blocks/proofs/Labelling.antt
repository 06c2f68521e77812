-- The nulls of facts joined in trees, and the labels that the trees give.
use Rattle.std.proofs.Common.{◌≡◌, ℕ, ◌+◌, ◌<◌, ◌≤◌, List, [], ◌∷◌, ◌++◌, ◌⊎◌, inl, inr, refl, sym, ◌∙◌, ap, subst, arith}
use Rattle.std.proofs.Common.{length, get_or, take}
use Rattle.std.specs.List.{range_with_len}
use Rattle.std.proofs.lemmas.List.{take_more, take_all, take_at}
use Rattle.std.proofs.lemmas.List.FromFn.{length-range_with_len}
use Rattle.dx_base.specs.Members.{◌∈◌, here, there}
use Rattle.dx_base.proofs.Loops.{each_item, each_more}
use Rattle.dx_base.proofs.Members.{in_at, in_flat_map, from_append}
use Rattle.dx_model.specs.declared.values.NullId.{NullId}
use Rattle.dx_model.specs.declared.values.Value.{Value}
use Rattle.dx_model.specs.declared.values.Value.TheVariants.{Null}
use Rattle.dx_model.specs.declared.facts.Fact.{Fact}
use Rattle.dx_model.specs.Values.{NullsAscend, null_at}
use Rattle.dx_model.specs.Instances.{values}
use Rattle.dx_model.specs.Blocks.{Connected, itself, onward}
use Rattle.dx_blocks.specs.Nulls.{AreNulls, StandsIn}
use Rattle.dx_blocks.specs.Forest.{Falls, Respects, ParentsAreConnected, SameTrees, IsTreeUnion, IsFlat}
use Rattle.dx_blocks.specs.Labels.{AreLabels, ConnectsRow, JoinsRow, JoinsAll}
use Rattle.dx_blocks.proofs.Connections.{connected_by, connected_trans, connected_sym, connected_same}
use Rattle.dx_blocks.proofs.NullLists.{place_is_one, place_there}
use Rattle.dx_blocks.proofs.Trees.{at_singles}

abbrev at : List ℕ → ℕ → ℕ
at xs k = get_or xs k 0

-- each null of A is listed
abbrev pub Knows : List Fact → List NullId → Type 0
Knows A ns = (n : NullId) → Null n ∈ values A → n ∈ ns

-- ---- a row

-- the trees of the nulls of some of the row are one with that of the place `first`, and no others
pub record RowSoFar (ns : List NullId) (row some : List Value) (first : ℕ) (old new : List ℕ) : Type 0 where
  pub many : length new ≡ length old
  pub falls : Falls new
  pub respects : (c : ℕ → ℕ) → Respects new c → Respects old c
  pub one : (c : ℕ → ℕ) → Respects new c → (p : ℕ) → StandsIn ns some p → c first ≡ c p
  pub tied : (A : List Fact) (f : Fact) → f ∈ A → f.row ≡ row → ParentsAreConnected A ns old → ParentsAreConnected A ns new

pub row_start : (ns : List NullId) (row : List Value) (first : ℕ) (P : List ℕ) → Falls P → RowSoFar ns row [] first P P
row_start ns row first P f = record {
  many = refl;
  falls = f;
  respects = λ c r. r;
  one = λ c r p s. elim s.there [ ];
  tied = λ A g i e t. t;
}

-- one value more
module _ (ns : List NullId) (row : List Value) (first : ℕ) (P Q : List ℕ) (i : ℕ) (v : Value) (h : i < length row) (e : v ≡ get_or row i v)
    (s : RowSoFar ns row (take i row) first P Q) where
  last_is : (p : ℕ) → Null (null_at ns p) ∈ take (i + 1) row → (Null (null_at ns p) ∈ take i row) ⊎ (v ≡ Null (null_at ns p))
  last_is p m = elim (from_append (take i row) (rw (take_more row i v h) at m)) [ inl l ↦ inl l | inr r ↦ inr (last r) ]
    where
      last : Null (null_at ns p) ∈ (get_or row i v ∷ []) → v ≡ Null (null_at ns p)
      last (here d) = e ∙ d
      last (there k) = elim k [ ]

  pub no_null_more : ((n : NullId) → v ≡ Null n → ⊥) → RowSoFar ns row (take (i + 1) row) first P Q
  no_null_more k = record {
    many = s.many;
    falls = s.falls;
    respects = s.respects;
    one = λ c r p w. elim (last_is p w.there) [
      | inl l ↦ s.one c r p (record { within = w.within; there = l })
      | inr d ↦ absurd (k (null_at ns p) d)
    ];
    tied = s.tied;
  }

  pub null_more : (R : List ℕ) (k : ℕ) (n : NullId) → NullsAscend ns → StandsIn ns row first → k < length ns → null_at ns k ≡ n → v ≡ Null n
      → IsTreeUnion Q R first k → RowSoFar ns row (take (i + 1) row) first P R
  null_more R k n a fs l q d j = record {
    many = j.many ∙ s.many;
    falls = j.falls;
    respects = λ c r. s.respects c (j.respects c r);
    one = λ c r p w. elim (last_is p w.there) [
      | inl m ↦ s.one c (j.respects c r) p (record { within = w.within; there = m })
      | inr u ↦ j.one c r ∙ ap c (place_is_one ns a k p l w.within (q ∙ same (sym d ∙ u)))
    ];
    tied = λ A f m z t. j.tied A ns (connected_by f m (rw z fs.there) (rw z there_too)) (s.tied A f m z t);
  }
    where
      same : {m : NullId} → Null n ≡ Null m → n ≡ m
      same u = cc

      there_too : Null (null_at ns k) ∈ row
      there_too = subst (λ x. x ∈ row) (sym e ∙ (d ∙ ap Null (sym q))) (in_at row i v h)

pub row_joined : (ns : List NullId) (row : List Value) (first i : ℕ) (P Q : List ℕ) → length row ≤ i
    → RowSoFar ns row (take i row) first P Q → JoinsRow ns row P Q
row_joined ns row first i P Q h s = record {
  many = s.many;
  falls = s.falls;
  respects = s.respects;
  one = λ c r p q u w. sym (s.one c r p (all p u)) ∙ s.one c r q (all q w);
  tied = s.tied;
}
  where
    all : (p : ℕ) → StandsIn ns row p → StandsIn ns (take i row) p
    all p u = record { within = u.within; there = rw (take_all i row h) u.there }

-- ---- facts

-- the trees of the nulls of each of some facts are one, and no others
pub record AllSoFar (A some : List Fact) (ns : List NullId) (old new : List ℕ) : Type 0 where
  pub many : length new ≡ length old
  pub falls : Falls new
  pub one : (f : Fact) → f ∈ some → ConnectsRow ns new f.row
  pub tied : ParentsAreConnected A ns old → ParentsAreConnected A ns new

pub all_start : (A : List Fact) (ns : List NullId) (P : List ℕ) → Falls P → AllSoFar A [] ns P P
all_start A ns P f = record { many = refl; falls = f; one = λ g m. elim m [ ]; tied = λ t. t }

module _ (A : List Fact) (ns : List NullId) (P Q : List ℕ) (i : ℕ) (f : Fact) (h : i < length A) (e : f ≡ get_or A i f)
    (s : AllSoFar A (take i A) ns P Q) where
  pub fact_joined : (R : List ℕ) → JoinsRow ns f.row Q R → AllSoFar A (take (i + 1) A) ns P R
  fact_joined R j = record {
    many = j.many ∙ s.many;
    falls = j.falls;
    one = each_more (λ (g : Fact). ConnectsRow ns R g.row) A i f h e (λ g m c r p q u w. s.one g m c (j.respects c r) p q u w) j.one;
    tied = λ t. j.tied A f (each_item (λ (g : Fact). g ∈ A) A i f h e (λ g k. k)) refl (s.tied t);
  }

  pub fact_passed : ((n : NullId) → ¬ (Null n ∈ f.row)) → AllSoFar A (take (i + 1) A) ns P Q
  fact_passed none = record {
    many = s.many;
    falls = s.falls;
    one = each_more (λ (g : Fact). ConnectsRow ns Q g.row) A i f h e s.one (λ c r p q u w. absurd (none (null_at ns p) u.there));
    tied = s.tied;
  }

pub all_joined : (A : List Fact) (ns : List NullId) (i : ℕ) (P Q : List ℕ) → length A ≤ i → AllSoFar A (take i A) ns P Q → JoinsAll A ns P Q
all_joined A ns i P Q h s = record {
  many = s.many;
  falls = s.falls;
  one = λ f m. s.one f (rw (take_all i A h) m);
  tied = s.tied;
}

-- the nulls of a fact are listed
pub known : (A : List Fact) (ns : List NullId) (i : ℕ) (f : Fact) → AreNulls A ns → i < length A → f ≡ get_or A i f
    → (n : NullId) → Null n ∈ f.row → n ∈ ns
known A ns i f a h e n m = (a.exactly n).1 (in_flat_map (λ (g : Fact). g.row) (each_item (λ (g : Fact). g ∈ A) A i f h e (λ g k. k)) m)

-- ---- labels

singles_fall : (n : ℕ) → Falls (range_with_len 0 n)
singles_fall n k h = let e = at_singles n k (rw (length-range_with_len 0 n) at h) in omega arith

pub single_trees_fall : (P : List ℕ) (n : ℕ) → P ≡ range_with_len 0 n → Falls P
single_trees_fall P n e = rw e (singles_fall n)

pub single_trees_many : (P : List ℕ) (n : ℕ) → P ≡ range_with_len 0 n → length P ≡ n
single_trees_many P n e = rw e (length-range_with_len 0 n)

single_trees_tied : (A : List Fact) (ns : List NullId) (P : List ℕ) (n : ℕ) → P ≡ range_with_len 0 n → ParentsAreConnected A ns P
single_trees_tied A ns P n e k h =
    connected_same (ap (null_at ns) (sym (rw e (at_singles n k (rw (e, length-range_with_len 0 n) at h)))))

-- flat trees in which the nulls of each fact are one
module _ (A : List Fact) (ns : List NullId) (up : NullsAscend ns) (knows : Knows A ns) (R : List ℕ) (many : length R ≡ length ns)
    (flat : IsFlat R) (tied : ParentsAreConnected A ns R) (one : (f : Fact) → f ∈ A → ConnectsRow ns R f.row) where
  -- the trees give their own labels
  own_labels : Respects R (at R)
  own_labels k h = sym (flat k h)

  to_connected : (p q : ℕ) → p < length ns → q < length ns → at R p ≡ at R q → Connected A (null_at ns p) (null_at ns q)
  to_connected p q h k e =
      connected_trans (tied p (rw many h))
      (connected_trans (connected_same (ap (null_at ns) e)) (connected_sym (tied q (rw many k))))

  from_connected : {n m : NullId} → Connected A n m → (p q : ℕ) → p < length ns → q < length ns
      → null_at ns p ≡ n → null_at ns q ≡ m → at R p ≡ at R q
  from_connected itself p q h k d e = ap (at R) (place_is_one ns up p q h k (d ∙ sym e))
  from_connected (onward {m = m} f c i x y) p q h k d e =
      let w = place_there ns m (knows m (in_flat_map (λ (g : Fact). g.row) i x)) in
      from_connected c p w.0 h w.1 d w.2
      ∙ one f i (at R) own_labels w.0 q (record { within = w.1; there = rw w.2 x }) (record { within = k; there = rw e y })

pub labels_are : (A : List Fact) (ns : List NullId) (P Q R : List ℕ) → NullsAscend ns → Knows A ns → P ≡ range_with_len 0 (length ns) → JoinsAll A ns P Q
    → SameTrees Q R → IsFlat R → AreLabels A ns R
labels_are A ns P Q R up knows e j s flat = record {
  many = many;
  least = λ k h. s.falls k (rw many h);
  itself = λ k h. flat k (rw many h);
  exactly = λ p q h k. (
    to_connected A ns up knows R many flat tied one p q h k,
    (λ c. from_connected A ns up knows R many flat tied one c p q h k refl refl),
  );
}
  where
    many : length R ≡ length ns
    many = s.many ∙ (j.many ∙ single_trees_many P (length ns) e)

    tied : ParentsAreConnected A ns R
    tied = (s.tied A ns).0 (j.tied (single_trees_tied A ns P (length ns) e))

    one : (f : Fact) → f ∈ A → ConnectsRow ns R f.row
    one f m c r p q u w = j.one f m c ((s.respects c).1 r) p q u w

-- the same, as the lists are written back
pub labels_written : (A : List Fact) (ns : List NullId) (P J Q R rest more : List ℕ) (n : ℕ) → NullsAscend ns → Knows A ns → length ns ≡ n
    → P ≡ range_with_len 0 (length ns) → JoinsAll A ns P J → Q ≡ take n (J ++ rest) → SameTrees Q R → IsFlat R
    → AreLabels A ns (take n (R ++ more))
labels_written A ns P J Q R rest more n up knows l e j q s flat =
    let joined : length J ≡ n = j.many ∙ (single_trees_many P (length ns) e ∙ l) in
    let is : Q ≡ J = q ∙ take_at J rest n joined in
    let made : length R ≡ n = s.many ∙ (ap length is ∙ joined) in
    rw (take_at R more n made) (labels_are A ns P Q R up knows e (rw is j) s flat)

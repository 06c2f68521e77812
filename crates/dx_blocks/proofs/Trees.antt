-- Steps on trees of numbers.
use Rattle.std.proofs.Common.{◌≡◌, ℕ, zero, suc, ◌+◌, ◌<◌, ◌≤◌, List, [], ◌∷◌, ◌++◌, inl, inr, refl, sym, ◌∙◌, ap, arith}
use Rattle.std.proofs.Common.{length, get_or, set, length-set, get_or-set_same, get_or-set_other}
use Rattle.std.specs.List.{range_with_len}
use Rattle.std.proofs.lemmas.Bool.{cases_eq}
use Rattle.dx_base.proofs.Ranges.{range_more}
use Rattle.dx_model.specs.declared.values.NullId.{NullId}
use Rattle.dx_model.specs.declared.facts.Fact.{Fact}
use Rattle.dx_model.specs.Blocks.{Connected, itself}
use Rattle.dx_model.specs.Values.{null_at}
use Rattle.dx_blocks.specs.Forest.{Falls, SameTrees, IsInTree, IsRootOf, IsTreeUnion}
use Rattle.dx_blocks.proofs.Connections.{connected_trans, connected_sym}

abbrev at : List ℕ → ℕ → ℕ
at xs k = get_or xs k 0

pub singles_more : (n : ℕ) → range_with_len 0 (n + 1) ≡ range_with_len 0 n ++ n ∷ []
singles_more n = range_more 0 n ∙ ap (λ z. range_with_len 0 n ++ z ∷ []) (omega arith)

pub at_range : (a n k : ℕ) → k < n → at (range_with_len a n) k ≡ a + k
at_range a zero k h = absurd (omega arith)
at_range a (suc n) zero h = omega arith
at_range a (suc n) (suc k) h = at_range (a + 1) n k (omega arith) ∙ omega arith

pub at_singles : (n k : ℕ) → k < n → at (range_with_len 0 n) k ≡ k
at_singles n k h = at_range 0 n k h ∙ omega arith

-- ---- one parent changed

-- the parent of i is v now
module _ (P : List ℕ) (i v : ℕ) (h : i < length P) where
  changed : (k : ℕ) → k ≡ i → at (set P i v) k ≡ v
  changed k e = rw (e, get_or-set_same P i v 0 h) refl

  kept : (k : ℕ) → ¬ (k ≡ i) → at (set P i v) k ≡ at P k
  kept k n = get_or-set_other P i k v 0 n

  falls_changed : Falls P → v ≤ i → Falls (set P i v)
  falls_changed f l k m = elim (cases_eq k i) [
    | inl e ↦ let d = changed k e in omega arith
    | inr n ↦ let d = kept k n in let w = f k (rw (length-set P i v) at m) in omega arith
  ]

  within : (k : ℕ) → k < length P → k < length (set P i v)
  within k m = rw (length-set P i v) m

-- each number is related with its parent
abbrev Links : (ℕ → ℕ → Type 0) → List ℕ → Type 0
Links E P = (k : ℕ) → k < length P → E k (at P k)

-- ---- what links do not see: E is an equivalence

module _ (E : ℕ → ℕ → Type 0) (same : (k : ℕ) → E k k) (back : (j k : ℕ) → E j k → E k j) (next : (i j k : ℕ) → E i j → E j k → E i k)
    (P : List ℕ) (i : ℕ) (h : i < length P) where
  -- a new parent of i
  links_changed : (v : ℕ) → E i v → Links E P → Links E (set P i v)
  links_changed v e l k m = elim (cases_eq k i) [
    | inl d ↦ rw (changed P i v h k d) (rw d e)
    | inr n ↦ rw (kept P i v h k n) (l k (rw (length-set P i v) at m))
  ]

  link_of : (v : ℕ) → Links E (set P i v) → E i v
  link_of v l = rw (changed P i v h i refl) at (l i (within P i v h i h))

  links_before : (v : ℕ) → E i (at P i) → Links E (set P i v) → Links E P
  links_before v e l k m = elim (cases_eq k i) [
    | inl d ↦ rw d e
    | inr n ↦ rw (kept P i v h k n) at (l k (within P i v h k m))
  ]

  halved_links : at P i < length P → Links E P → Links E (set P i (at P (at P i)))
  halved_links q l = links_changed (at P (at P i)) (next i (at P i) (at P (at P i)) (l i h) (l (at P i) q)) l

  halved_back : at P i < length P → Links E (set P i (at P (at P i))) → Links E P
  halved_back q l = links_before (at P (at P i)) own l
    where
      own : E i (at P i)
      own = elim (cases_eq (at P i) i) [
        | inl e ↦ rw e (same i)
        | inr n ↦
            let w = within P i (at P (at P i)) h (at P i) q in
            let up : E (at P i) (at P (at P i)) = rw (kept P i (at P (at P i)) h (at P i) n) at (l (at P i) w) in
            next i (at P (at P i)) (at P i) (link_of (at P (at P i)) l) (back (at P i) (at P (at P i)) up)
      ]

-- equal labels, and connected nulls
abbrev Label : (ℕ → ℕ) → ℕ → ℕ → Type 0
Label c j k = c j ≡ c k

abbrev Tie : List Fact → List NullId → ℕ → ℕ → Type 0
Tie A ns j k = Connected A (null_at ns j) (null_at ns k)

-- ---- the parent's parent

module _ (P : List ℕ) (i : ℕ) (h : i < length P) (f : Falls P) where
  pub parent_within : at P i < length P
  parent_within = let a = f i h in omega arith

  pub grandparent_falls : at P (at P i) ≤ at P i
  grandparent_falls = f (at P i) parent_within

  roots_stay : (k : ℕ) → k < length P → at P k ≡ k → at (set P i (at P (at P i))) k ≡ k
  roots_stay k m e = elim (cases_eq k i) [
    | inl d ↦ changed P i (at P (at P i)) h k d ∙ (ap (λ z. at P (at P z)) (sym d) ∙ (ap (at P) e ∙ e))
    | inr n ↦ kept P i (at P (at P i)) h k n ∙ e
  ]

  pub halved : SameTrees P (set P i (at P (at P i)))
  halved = record {
    many = length-set P i (at P (at P i));
    falls = falls_changed P i (at P (at P i)) h f (let a = f i h in let b = grandparent_falls in omega arith);
    roots = roots_stay;
    respects = λ c. (
      halved_links (Label c) (λ k. refl) (λ j k e. sym e) (λ i j k d e. d ∙ e) P i h parent_within,
      halved_back (Label c) (λ k. refl) (λ j k e. sym e) (λ i j k d e. d ∙ e) P i h parent_within,
    );
    tied = λ A ns. (
      halved_links (Tie A ns) (λ k. itself) (λ j k e. connected_sym e) (λ i j k d e. connected_trans d e) P i h parent_within,
      halved_back (Tie A ns) (λ k. itself) (λ j k e. connected_sym e) (λ i j k d e. connected_trans d e) P i h parent_within,
    );
  }

pub same_trees : (P : List ℕ) → Falls P → SameTrees P P
same_trees P f = record {
  many = refl;
  falls = f;
  roots = λ k m e. e;
  respects = λ c. ((λ r. r), (λ r. r));
  tied = λ A ns. ((λ t. t), (λ t. t));
}

pub same_trees_then : (P Q R : List ℕ) → SameTrees P Q → SameTrees Q R → SameTrees P R
same_trees_then P Q R s t = record {
  many = t.many ∙ s.many;
  falls = t.falls;
  roots = λ k m e. t.roots k (rw (s.many) m) (s.roots k m e);
  respects = λ c. ((λ r. (t.respects c).0 ((s.respects c).0 r)), (λ r. (s.respects c).1 ((t.respects c).1 r)));
  tied = λ A ns. ((λ r. (t.tied A ns).0 ((s.tied A ns).0 r)), (λ r. (s.tied A ns).1 ((t.tied A ns).1 r)));
}

-- ---- climbing

pub in_own_tree : (P : List ℕ) (k : ℕ) → k < length P → IsInTree P k k
in_own_tree P k h = record { within = h; respects = λ c r. refl; tied = λ A ns t. itself }

pub still_in_tree : (P Q : List ℕ) (k r : ℕ) → SameTrees P Q → IsInTree P k r → IsInTree Q k r
still_in_tree P Q k r s a = record {
  within = rw (s.many) a.within;
  respects = λ c m. a.respects c ((s.respects c).1 m);
  tied = λ A ns t. a.tied A ns ((s.tied A ns).1 t);
}

parent_in_tree : (P : List ℕ) (k r : ℕ) → Falls P → IsInTree P k r → IsInTree P k (at P r)
parent_in_tree P k r f a = record {
  within = parent_within P r a.within f;
  respects = λ c m. a.respects c m ∙ m r a.within;
  tied = λ A ns t. connected_trans (a.tied A ns t) (t r a.within);
}

-- what a walk has gone up to
abbrev pub Climbs : List ℕ → List ℕ → ℕ → ℕ → Type 0
Climbs P Q k r = SameTrees P Q × IsInTree Q k r

pub climbs_on : (P Q : List ℕ) (k r : ℕ) → Climbs P Q k r
    → Climbs P (set Q r (at Q (at Q r))) k (at (set Q r (at Q (at Q r))) r)
climbs_on P Q k r c =
    let new : List ℕ = set Q r (at Q (at Q r)) in
    let t = halved Q r (c.1).within (c.0).falls in
    (same_trees_then P Q new c.0 t, parent_in_tree new k r t.falls (still_in_tree Q new k r t c.1))

-- a walk that is not at a root goes down in numbers
pub climbs_down : (P Q : List ℕ) (k r : ℕ) → Climbs P Q k r → ¬ (at Q r ≡ r) → at (set Q r (at Q (at Q r))) r < r
climbs_down P Q k r c n =
    let a = (c.0).falls r (c.1).within in
    let b = grandparent_falls Q r (c.1).within (c.0).falls in
    let e = changed Q r (at Q (at Q r)) (c.1).within r refl in
    omega (arith, n)

-- ---- two trees joined

module _ (P : List ℕ) (hi lo a b : ℕ) (f : Falls P) (h : hi < length P) (root : at P hi ≡ hi) (l : lo ≤ hi) where
  linked : ((c : ℕ → ℕ) → ((k : ℕ) → k < length P → c k ≡ c (at P k)) → c hi ≡ c lo → c a ≡ c b)
      → ((A : List Fact) (ns : List NullId) → Links (Tie A ns) P → Tie A ns a b → Tie A ns hi lo) → IsTreeUnion P (set P hi lo) a b
  linked ends ties = record {
    many = length-set P hi lo;
    falls = falls_changed P hi lo h f l;
    respects = λ c r. before c r;
    one = λ c r. ends c (before c r) (link_of (Label c) (λ k. refl) (λ j k e. sym e) (λ i j k d e. d ∙ e) P hi h lo r);
    tied = λ A ns e t.
        links_changed (Tie A ns) (λ k. itself) (λ j k d. connected_sym d) (λ i j k d g. connected_trans d g) P hi h lo (ties A ns t e) t;
  }
    where
      before : (c : ℕ → ℕ) → Links (Label c) (set P hi lo) → Links (Label c) P
      before c r = links_before (Label c) (λ k. refl) (λ j k e. sym e) (λ i j k d e. d ∙ e) P hi h lo (ap c (sym root)) r

join_then : (P Q R : List ℕ) (a b : ℕ) → SameTrees P Q → IsTreeUnion Q R a b → IsTreeUnion P R a b
join_then P Q R a b s j = record {
  many = j.many ∙ s.many;
  falls = j.falls;
  respects = λ c r. (s.respects c).1 (j.respects c r);
  one = j.one;
  tied = λ A ns e t. j.tied A ns e ((s.tied A ns).0 t);
}

-- x and y are the roots of a and b
module _ (P Q S : List ℕ) (a b x y : ℕ) (s : SameTrees P Q) (u : IsRootOf Q a x) (t : SameTrees Q S) (v : IsRootOf S b y) where
  up : IsInTree S a x
  up = still_in_tree Q S a x t u.0

  pub joined_below : x ≤ y → IsTreeUnion P (set S y x) a b
  joined_below l = join_then P S (set S y x) a b (same_trees_then P Q S s t)
      (linked S y x a b t.falls (v.0).within v.1 l
      (λ c r e. up.respects c r ∙ (sym e ∙ sym ((v.0).respects c r)))
      (λ A ns r e. connected_trans (connected_sym ((v.0).tied A ns r)) (connected_trans (connected_sym e) (up.tied A ns r))))

  pub joined_above : y ≤ x → IsTreeUnion P (set S x y) a b
  joined_above l = join_then P S (set S x y) a b (same_trees_then P Q S s t)
      (linked S x y a b t.falls up.within (t.roots x (u.0).within u.1) l
      (λ c r e. up.respects c r ∙ (e ∙ sym ((v.0).respects c r)))
      (λ A ns r e. connected_trans (connected_sym (up.tied A ns r)) (connected_trans e ((v.0).tied A ns r))))

-- ---- parents made roots

-- the parents of the numbers below i are roots
abbrev pub FlatTo : ℕ → List ℕ → Type 0
FlatTo i P = (k : ℕ) → k < i → at P (at P k) ≡ at P k

pub flat_more : (P Q : List ℕ) (i : ℕ) → SameTrees P Q → i < length Q → FlatTo i Q
    → SameTrees P (set Q i (at Q (at Q i))) × FlatTo (i + 1) (set Q i (at Q (at Q i)))
flat_more P Q i s h flat = (same_trees_then P Q (set Q i (at Q (at Q i))) s (halved Q i h s.falls), flat_to)
  where
    v : ℕ
    v = at Q (at Q i)

    -- a root below i stays one
    root_stays : (r : ℕ) → r ≤ i → at Q r ≡ r → at (set Q i (at Q (at Q i))) r ≡ r
    root_stays r l e = roots_stay Q i h s.falls r (omega arith) e

    -- the new parent of i is a root
    is_root : at Q (at Q (at Q i)) ≡ at Q (at Q i)
    is_root = elim (cases_eq (at Q i) i) [
      | inl e ↦ ap (λ z. at Q (at Q z)) e
      | inr n ↦ let l = s.falls i h in flat (at Q i) (omega (arith, n))
    ]

    flat_to : FlatTo (i + 1) (set Q i (at Q (at Q i)))
    flat_to k m = elim (cases_eq k i) [
      | inl e ↦
          let c = changed Q i (at Q (at Q i)) h k e in
          let l = s.falls i h in
          let g = grandparent_falls Q i h s.falls in
          ap (at (set Q i (at Q (at Q i)))) c ∙ (root_stays (at Q (at Q i)) (omega arith) is_root ∙ sym c)
      | inr n ↦
          let c = kept Q i (at Q (at Q i)) h k n in
          let l = s.falls k (omega (arith, n)) in
          ap (at (set Q i (at Q (at Q i)))) c ∙ (root_stays (at Q k) (omega arith) (flat k (omega (arith, n))) ∙ sym c)
    ]

-- Children, subtrees and parts of an unfolding.
use Rattle.std.proofs.Common.{◌≡◌, ℕ, zero, suc, ◌+◌, ◌-◌, ◌<◌, ◌≤◌, ◌⊎◌, Some, None, List, [], ◌∷◌, length, take, drop, eqb, refl, sym, ◌∙◌, ap, subst, inl, inr, arith}
use Rattle.std.specs.Prelude.{true, false, not, ◌&&◌, nat_le, nat_lt, Option, IfSome}
use Rattle.std.specs.List.{filter, list_any}
use Rattle.std.proofs.lemmas.Bool.{cases_lt, cases_Bool, and_parts, and_from, leb-true, le-leb, ltb-true, lt-ltb, not-true, false≢true, true≢false}
use Rattle.std.proofs.lemmas.List.{length-take-le, get_or-take, get_or-drop, length-drop}
use Rattle.dx_base.specs.Members.{◌∈◌, ◌⊆◌, here}
use Rattle.dx_base.proofs.Lists.{none_or_some}
use Rattle.dx_base.proofs.Members.{in_at, in_left, in_right, in_map, from_map, from_append}
use Rattle.dx_base.proofs.Tests.{none_of, from_filter, to_filter}
use Rattle.dx_model.specs.Tables.{Table}
use Rattle.dx_logical.specs.declared.relation.Occurrence.{Occurrence}
use Rattle.dx_logical.specs.declared.relation.Relation.{Relation}
use Rattle.dx_logical.specs.Unfolding.{sub}
use Rattle.dx_logical.specs.Laws.{occurrence_at, IsUnfolding, ComesFrom, itself, after, IsSubtree}
use Rattle.dx_logical.proofs.Served.{at_place}
use Rattle.dx_logical.proofs.Subtrees.{comes_further}
use Rattle.dx_lines.specs.Candidates.{upto}
use Rattle.dx_lines.specs.Parts.{nth_occurrence, is_open, is_in_sub, open_in, UnfoldingPart, is_in_part, part_occurrences}
use Rattle.dx_lines.proofs.Sources.{below_upto}
use Rattle.dx_candidates.specs.Parts.{is_tip, without}
use Rattle.dx_candidates.proofs.UpTo.{in_upto}

abbrev nowhere : Occurrence
nowhere = record { table = 0; variables = []; parent = None; link = 0 }

-- an occurrence that follows from the first, from which q comes
record FromChild (r : Relation) (q : ℕ) : Type 0 where
  pub child : ℕ
  pub later : 0 < child
  pub within : child < length r.occurrences
  pub parent : (occurrence_at r child).parent ≡ Some 0
  pub from : ComesFrom r child q

-- the subtrees at the occurrences of a relation are blocks of it
abbrev pub HasSubtrees : Relation → Type 0
HasSubtrees r = (p : ℕ) → p < length r.occurrences → IsSubtree r p (sub r.occurrences p)

-- a member, by its number
in_place : (os : List Occurrence) (n : ℕ) (x : Occurrence) → n < length os → nth_occurrence os n ≡ x → x ∈ os
in_place os n x h e = subst (λ (y : Occurrence). y ∈ os) e (in_at os n nowhere h)

module _ (schema : List Table) (t : ℕ) (r : Relation) (u : IsUnfolding schema t r) (subs : HasSubtrees r) where
  abbrev os : List Occurrence
  os = r.occurrences

  parent_of : (n : ℕ) → 0 < n → n < length os → (p : ℕ) × ((nth_occurrence os n).parent ≡ Some p)
  parent_of n pos h = elim (none_or_some (nth_occurrence os n).parent) [
    | inl e ↦ let z = u.one_root n h e in absurd (omega (arith, pos, z))
    | inr e ↦ e
  ]

  pub before : (n p : ℕ) → n < length os → (nth_occurrence os n).parent ≡ Some p → p < n
  before n p l e =
      let P : Option ℕ → Type 0 = λ o. IfSome o (λ m. m < n) in
      subst P e (u.occurrences n l).parent

  child_by : (fuel q : ℕ) → q < fuel → 0 < q → q < length os → FromChild r q
  child_by zero q lt pos w = absurd (omega (arith, lt))
  child_by (suc fuel) q lt pos w =
      let x = parent_of q pos w in
      let l = before q x.0 w x.1 in
      elim (cases_lt 0 x.0) [
        | inl i ↦
            let y = child_by fuel x.0 (omega (arith, lt, l)) i (omega (arith, l, w)) in
            record { child = y.child; later = y.later; within = y.within; parent = y.parent; from = after x.1 y.from }
        | inr g ↦
            let e : x.0 ≡ 0 = omega (arith, g) in
            record { child = q; later = pos; within = w; parent = x.1 ∙ ap (λ i. Some i) e; from = itself }
      ]

  -- all come from the first
  first_by : (q : ℕ) → q < length os → ComesFrom r 0 q
  first_by q w = elim (cases_lt 0 q) [
    | inl i ↦ let y = child_by (suc q) q (omega arith) i w in comes_further r 0 y.child q (after y.parent itself) y.from
    | inr g ↦ let e : 0 ≡ q = omega (arith, g) in subst (λ (i : ℕ). ComesFrom r 0 i) e itself
  ]

  -- ---- numbers in subtrees

  -- what comes from p is in the subtree at p
  in_sub : (p n : ℕ) → p < length os → n < length os → ComesFrom r p n → is_in_sub os p n ≡ true
  in_sub p n h w c =
      let b = ((subs p h).exact n w).0 c in
      and_from (nat_le p n) (nat_lt n (p + length (sub os p))) (le-leb p n b.0) (lt-ltb n (p + length (sub os p)) b.1)

  comes : (p n : ℕ) → p < length os → n < length os → is_in_sub os p n ≡ true → ComesFrom r p n
  comes p n h w e =
      let b = and_parts (nat_le p n) (nat_lt n (p + length (sub os p))) e in
      ((subs p h).exact n w).1 (leb-true p n b.0, ltb-true n (p + length (sub os p)) b.1)

  -- a number in a subtree has an occurrence of it
  sub_has : (p n : ℕ) → p < length os → n < length os → is_in_sub os p n ≡ true → nth_occurrence os n ∈ sub os p
  sub_has p n h w e =
      let b = and_parts (nat_le p n) (nat_lt n (p + length (sub os p))) e in
      let low = leb-true p n b.0 in
      let high = ltb-true n (p + length (sub os p)) b.1 in
      let j : n - p < length (sub os p) = omega (arith, low, high) in
      let same : p + (n - p) ≡ n = omega (arith, low) in
      in_place (sub os p) (n - p) (nth_occurrence os n) j ((subs p h).items (n - p) j ∙ ap (nth_occurrence os) same)

  -- an occurrence of a subtree has a number in it
  from_sub : (p : ℕ) (x : Occurrence) → p < length os → x ∈ sub os p → (n : ℕ) × (n < length os) × (is_in_sub os p n ≡ true) × (nth_occurrence os n ≡ x)
  from_sub p x h m =
      let i = at_place nowhere m in
      let w = (subs p h).within in
      let l = i.1 in
      let n_in : p + i.0 < length os = omega (arith, l, w) in (
        p + i.0,
        n_in,
        and_from (nat_le p (p + i.0)) (nat_lt (p + i.0) (p + length (sub os p))) (le-leb p (p + i.0) (omega arith)) (lt-ltb (p + i.0) (p + length (sub os p)) (omega (arith, l))),
        sym ((subs p h).items i.0 i.1) ∙ i.2,
      )

  -- ---- parts

  -- the occurrence of a number in a part
  part_has : (a : UnfoldingPart) (n : ℕ) → n < length os → is_in_part os a n ≡ true → nth_occurrence os n ∈ part_occurrences os a
  part_has a n w e = in_map (nth_occurrence os) (to_filter (is_in_part os a) (upto (length os)) (in_upto (length os) n w) e)

  from_part : (a : UnfoldingPart) (x : Occurrence) → x ∈ part_occurrences os a → (n : ℕ) × (n < length os) × (is_in_part os a n ≡ true) × (nth_occurrence os n ≡ x)
  from_part a x m =
      let n = from_map (nth_occurrence os) (filter (is_in_part os a) (upto (length os))) {y = x} m in
      let f = from_filter (is_in_part os a) (upto (length os)) n.1 in
      (n.0, below_upto (length os) n.0 f.0, f.1, n.2)

  -- a part at p is in the subtree at p
  pub part_in_sub : (a : UnfoldingPart) → a.root < length os → part_occurrences os a ⊆ sub os a.root
  part_in_sub a h x m =
      let n = from_part a x m in
      let e = and_parts (is_in_sub os a.root n.0) (not (list_any (λ q. is_in_sub os q n.0) a.without)) n.2 in
      subst (λ (y : Occurrence). y ∈ sub os a.root) n.3 (sub_has a.root n.0 h n.1 e.0)

  -- a part from which nothing is left out has all of its subtree
  pub sub_in_part : (p : ℕ) → p < length os → sub os p ⊆ part_occurrences os (record { root = p; without = [] })
  sub_in_part p h x m =
      let n = from_sub p x h m in
      subst (λ (y : Occurrence). y ∈ part_occurrences os (record { root = p; without = [] })) n.3
      (part_has (record { root = p; without = [] }) n.0 n.1 (and_from (is_in_sub os p n.0) (not (list_any (λ q. is_in_sub os q n.0) [])) n.2 refl))

  -- a part has occurrences of the whole
  pub part_within : (a : UnfoldingPart) → part_occurrences os a ⊆ os
  part_within a x m = let n = from_part a x m in in_place os n.0 x n.1 n.3

  -- all are in the part that is the whole
  pub whole_has_all : (0 < length os) → os ⊆ part_occurrences os (record { root = 0; without = [] })
  whole_has_all some x m =
      let i = at_place nowhere m in
      subst (λ (y : Occurrence). y ∈ part_occurrences os (record { root = 0; without = [] })) i.2
      (part_has (record { root = 0; without = [] }) i.0 i.1 (and_from (is_in_sub os 0 i.0) (not (list_any (λ q. is_in_sub os q i.0) [])) (in_sub 0 i.0 some i.1 (first_by i.0 i.1)) refl))

  -- ---- the greatest

  -- an occurrence after the first stands in the subtree of a child, which has all of its subtree
  pub record IsBelow (q : ℕ) : Type 0 where
    pub child : ℕ
    pub within : child < length os
    pub parent : (nth_occurrence os child).parent ≡ Some 0
    pub inside : sub os q ⊆ sub os child

  pub is_below : (q : ℕ) → 0 < q → q < length os → IsBelow q
  is_below q pos w =
      let y = child_by (suc q) q (omega arith) pos w in
      record {
        child = y.child;
        within = y.within;
        parent = y.parent;
        inside = λ x m. let n = from_sub q x w m in
            subst (λ (z : Occurrence). z ∈ sub os y.child) n.3 (sub_has y.child n.0 y.within n.1 (in_sub y.child n.0 y.within n.1 (comes_further r y.child q n.0 y.from (comes q n.0 w n.1 n.2))));
      }

  -- an occurrence that is not in the subtree at q is in the whole without it
  outside_has : (q n : ℕ) → q < length os → n < length os → is_in_sub os q n ≡ false → nth_occurrence os n ∈ without os q
  outside_has q n h w e = elim (cases_lt n q) [
    | inl l ↦
        let long = length-take-le q os (omega (arith, h)) in
        in_left (drop (q + length (sub os q)) os) (in_place (take q os) n (nth_occurrence os n) (omega (arith, l, long)) (get_or-take q os n nowhere l))
    | inr g ↦ elim (cases_lt n (q + length (sub os q))) [
      | inl l ↦ absurd (true≢false (sym (and_from (nat_le q n) (nat_lt n (q + length (sub os q))) (le-leb q n g) (lt-ltb n (q + length (sub os q)) l)) ∙ e))
      | inr f ↦
          let k : ℕ = q + length (sub os q) in
          let long = length-drop k os in
          let same : k + (n - k) ≡ n = omega (arith, f) in
          in_right (take q os) (in_place (drop k os) (n - k) (nth_occurrence os n) (omega (arith, long, f, w)) (get_or-drop k os (n - k) nowhere ∙ ap (nth_occurrence os) same))
    ]
  ]

  -- an occurrence of the whole without the subtree at q has a number that is not in it
  from_outside : (q : ℕ) (x : Occurrence) → q < length os → x ∈ without os q → (n : ℕ) × (n < length os) × (is_in_sub os q n ≡ false) × (nth_occurrence os n ≡ x)
  from_outside q x h m = elim (from_append (take q os) m) [
    | inl a ↦
        let i = at_place nowhere a in
        let long = length-take-le q os (omega (arith, h)) in
        let l = i.1 in
        let low : i.0 < q = omega (arith, l, long) in
        (i.0, omega (arith, low, h), not_in q i.0 (inl low), sym (get_or-take q os i.0 nowhere low) ∙ i.2)
    | inr b ↦
        let k : ℕ = q + length (sub os q) in
        let i = at_place nowhere b in
        let long = length-drop k os in
        let l = i.1 in
        (k + i.0, omega (arith, l, long), not_in q (k + i.0) (inr (omega arith)), sym (get_or-drop k os i.0 nowhere) ∙ i.2)
  ]
    where
      not_in : (q n : ℕ) → (n < q) ⊎ (q + length (sub os q) ≤ n) → is_in_sub os q n ≡ false
      not_in q n h = elim (cases_Bool (is_in_sub os q n)) [
        | inl e ↦
            let b = and_parts (nat_le q n) (nat_lt n (q + length (sub os q))) e in
            let low = leb-true q n b.0 in
            let high = ltb-true n (q + length (sub os q)) b.1 in
            absurd (neither h low high)
        | inr e ↦ e
      ]
        where
          neither : (n < q) ⊎ (q + length (sub os q) ≤ n) → q ≤ n → n < q + length (sub os q) → ⊥
          neither (inl a) low high = omega (arith, a, low)
          neither (inr b) low high = omega (arith, b, high)

  -- a number that is not left out is not in a subtree that is
  kept_outside : (a : UnfoldingPart) (q n : ℕ) → q ∈ a.without → is_in_part os a n ≡ true → is_in_sub os q n ≡ false
  kept_outside a q n m e =
      let b = and_parts (is_in_sub os a.root n) (not (list_any (λ q. is_in_sub os q n) a.without)) e in
      none_of (λ q. is_in_sub os q n) a.without q (not-true (list_any (λ q. is_in_sub os q n) a.without) b.1) m

  -- a tip in the subtree at an occurrence that an optional link leads to
  pub record HasTip (q : ℕ) : Type 0 where
    pub tip : ℕ
    pub within : tip < length os
    pub is : is_tip schema os tip ≡ true
    pub from : ComesFrom r q tip

  tip_by : (fuel q : ℕ) → length os ≤ fuel + q → q < length os → is_open schema os q ≡ true → HasTip q
  tip_by zero q l h e = absurd (omega (arith, l, h))
  tip_by (suc fuel) q l h e = by_list (λ p m w o. tip_by fuel p m w o) (open_in schema os q) refl
    where
      by_list : ((p : ℕ) → length os ≤ fuel + p → p < length os → is_open schema os p ≡ true → HasTip p) → (qs : List ℕ) → open_in schema os q ≡ qs → HasTip q
      by_list go [] none_so = record { tip = q; within = h; is = and_from (is_open schema os q) (eqb (length (open_in schema os q)) 0) e (ap (λ (xs : List ℕ). eqb (length xs) 0) none_so); from = itself }
      by_list go (p ∷ qs) some =
          let m : p ∈ open_in schema os q = subst (λ (xs : List ℕ). p ∈ xs) (sym some) (here refl) in
          let f = from_filter (λ n. nat_lt q n && (is_in_sub os q n && is_open schema os n)) (upto (length os)) m in
          let w = below_upto (length os) p f.0 in
          let a = and_parts (nat_lt q p) (is_in_sub os q p && is_open schema os p) f.1 in
          let b = and_parts (is_in_sub os q p) (is_open schema os p) a.1 in
          let later = ltb-true q p a.0 in
          let y = go p (omega (arith, l, later)) w b.1 in
          record { tip = y.tip; within = y.within; is = y.is; from = comes_further r q p y.tip (comes q p h w b.0) y.from }

  pub has_tip : (q : ℕ) → q < length os → is_open schema os q ≡ true → HasTip q
  has_tip q h e = tip_by (length os) q (omega arith) h e

  -- a part without the subtree at q, from which q' comes, is in the whole without the subtree at q'
  pub part_in_without : (a : UnfoldingPart) (q p : ℕ) → q ∈ a.without → q < length os → p < length os → ComesFrom r q p → part_occurrences os a ⊆ without os p
  part_in_without a q p m h w c x i =
      let n = from_part a x i in
      let out = kept_outside a q n.0 m n.2 in
      let out_p : is_in_sub os p n.0 ≡ false = elim (cases_Bool (is_in_sub os p n.0)) [
        | inl e ↦ absurd (true≢false (sym (in_sub q n.0 h n.1 (comes_further r q p n.0 c (comes p n.0 w n.1 e))) ∙ out))
        | inr e ↦ e
      ] in
      subst (λ (y : Occurrence). y ∈ without os p) n.3 (outside_has p n.0 w n.1 out_p)

  -- and the whole without the subtree at q is in the part that leaves out this subtree
  pub without_in_part : (q : ℕ) → q < length os → 0 < length os → without os q ⊆ part_occurrences os (record { root = 0; without = q ∷ [] })
  without_in_part q h some x m =
      let n = from_outside q x h m in
      let none_so : list_any (λ p. is_in_sub os p n.0) (q ∷ []) ≡ false = rw n.2 refl in
      subst (λ (y : Occurrence). y ∈ part_occurrences os (record { root = 0; without = q ∷ [] })) n.3
      (part_has (record { root = 0; without = q ∷ [] }) n.0 n.1
      (and_from (is_in_sub os 0 n.0) (not (list_any (λ p. is_in_sub os p n.0) (q ∷ []))) (in_sub 0 n.0 some n.1 (first_by n.0 n.1)) (ap not none_so)))

  -- the whole without a subtree has occurrences of the whole
  pub without_within : (q : ℕ) → q < length os → without os q ⊆ os
  without_within q h x m = let n = from_outside q x h m in in_place os n.0 x n.1 n.3

  -- an occurrence that an optional link leads to is not the first, and is left out of a part of the whole
  pub open_later : (n : ℕ) → n < length os → is_open schema os n ≡ true → 0 < n
  open_later n w e = elim (cases_lt 0 n) [
    | inl l ↦ l
    | inr g ↦ let z : 0 ≡ n = omega (arith, g) in absurd (root_closed (subst (λ (i : ℕ). is_open schema os i ≡ true) (sym z) e))
  ]
    where
      root_closed : ¬ (is_open schema os 0 ≡ true)
      root_closed e = elim (none_or_some (nth_occurrence os 0).parent) [
        | inl f ↦ false≢true (rw f at e)
        | inr f ↦ let b = before 0 f.0 u.some f.1 in omega (arith, b)
      ]

  pub open_in_whole : (n : ℕ) → n < length os → is_open schema os n ≡ true → n ∈ open_in schema os 0
  open_in_whole n w e =
      to_filter (λ n. nat_lt 0 n && (is_in_sub os 0 n && is_open schema os n)) (upto (length os)) (in_upto (length os) n w)
      (and_from (nat_lt 0 n) (is_in_sub os 0 n && is_open schema os n) (lt-ltb 0 n (open_later n w e))
      (and_from (is_in_sub os 0 n) (is_open schema os n) (in_sub 0 n (omega (arith, w)) w (first_by n w)) e))

-- The greatest proper parts decide.
use Rattle.std.proofs.Common.{◌≡◌, ℕ, zero, suc, ◌<◌, eqb, ◌&&◌, Some, None, List, [], ◌∷◌, ◌⊎◌, length, refl, sym, ◌∙◌, ap, subst, inl, inr, arith}
use Rattle.std.specs.Prelude.{Bool, true, false, not, map, Option}
use Rattle.std.specs.List.{list_any}
use Rattle.std.specs.Ordering.{is_eq}
use Rattle.std.proofs.lemmas.Bool.{cases_Bool, eqb-true, ne_eqb, and_parts, and_from, true≢false}
use Rattle.dx_base.specs.Members.{◌∈◌, ◌⊆◌, here, there}
use Rattle.dx_base.proofs.Members.{in_map, from_map, in_left, in_right, from_append, from_flat_map, in_flat_map}
use Rattle.dx_model.specs.Tables.{Table}
use Rattle.dx_logical.specs.declared.relation.Occurrence.{Occurrence}
use Rattle.dx_logical.specs.declared.relation.Relation.{Relation}
use Rattle.dx_logical.specs.Unfolding.{sub}
use Rattle.dx_logical.specs.Laws.{IsUnfolding}
use Rattle.dx_logical.proofs.Subtrees.{subtrees_are}
use Rattle.dx_logical.proofs.Unfolded.{variants_are}
use Rattle.dx_lines.specs.declared.line.Line.{Line}
use Rattle.dx_lines.specs.declared.candidate.Pick.{Pick}
use Rattle.dx_lines.specs.Ways.{pick_cmp, ways}
use Rattle.dx_lines.specs.Candidates.{upto}
use Rattle.dx_lines.specs.Parts.{nth_occurrence, open_in, sublists, UnfoldingPart, parts, is_whole, part_occurrences}
use Rattle.dx_lines.specs.Kept.{is_pick_among, suffices_at, is_dropped}
use Rattle.dx_lines.proofs.Sources.{below_upto}
use Rattle.dx_ways.proofs.WaysAre.{ways_grow}
use Rattle.dx_candidates.specs.Laws.{GreatestPartsDecide}
use Rattle.dx_candidates.specs.Parts.{is_first, is_child, children, is_tip, tips, without, greatest_proper_parts, source_parts, target_parts, greatest_parts, are_among, is_in_proper_part}
use Rattle.dx_candidates.proofs.UpTo.{in_upto}
use Rattle.dx_candidates.proofs.Tree.{HasSubtrees, part_in_sub, sub_in_part, part_within, whole_has_all, is_below, has_tip, part_in_without, without_in_part, open_in_whole, before}
use Rattle.dx_base.proofs.Tests.{from_any, to_any, from_all, to_all, from_filter, to_filter, same_test}

-- more ways have more picks
among_grow : (found more : List Pick) (k : Pick) → found ⊆ more → is_pick_among found k ≡ true → is_pick_among more k ≡ true
among_grow found more k h e =
    let j = from_any (λ i. is_eq (pick_cmp k i)) found e in
    to_any (λ i. is_eq (pick_cmp k i)) more (h j.0 j.1) j.2

pub are_grow : (picks found more : List Pick) → found ⊆ more → are_among picks found ≡ true → are_among picks more ≡ true
are_grow picks found more h e = to_all (is_pick_among more) picks (λ k m. among_grow found more k h (from_all (is_pick_among found) picks e m))

parent_by_child : (o : Option ℕ) → is_first o ≡ true → o ≡ Some 0
parent_by_child None e = absurd (true≢false (sym e))
parent_by_child (Some p) e = ap (λ i. Some i) (eqb-true p 0 e)

child_by_parent : (o : Option ℕ) → o ≡ Some 0 → is_first o ≡ true
child_by_parent o e = rw e refl

-- a sublist has members of the list
from_sublist : (xs qs : List ℕ) (q : ℕ) → qs ∈ sublists xs → q ∈ qs → q ∈ xs
from_sublist [] qs q (here e) m = none_in (subst (λ (ys : List ℕ). q ∈ ys) (sym e) m)
  where
    none_in : q ∈ [] → q ∈ []
    none_in n = n
from_sublist [] qs q (there i) m = elim i [ ]
from_sublist (x ∷ xs) qs q i m = elim (from_append (sublists xs) i) [
  | inl a ↦ there (from_sublist xs qs q a m)
  | inr b ↦
      let ys = from_map (λ (ys : List ℕ). x ∷ ys) (sublists xs) {y = qs} b in
      first_or ys.0 (λ n. from_sublist xs ys.0 q ys.1 n) (subst (λ (zs : List ℕ). q ∈ zs) (sym ys.2) m)
]
  where
    first_or : (ys : List ℕ) → (q ∈ ys → q ∈ xs) → q ∈ (x ∷ ys) → q ∈ (x ∷ xs)
    first_or ys go (here e) = here e
    first_or ys go (there n) = there (go n)

pub empty_sublist : (xs : List ℕ) → [] ∈ sublists xs
empty_sublist [] = here refl
empty_sublist (x ∷ xs) = in_left (map (λ (ys : List ℕ). x ∷ ys) (sublists xs)) (empty_sublist xs)

single_sublist : (xs : List ℕ) (q : ℕ) → q ∈ xs → (q ∷ []) ∈ sublists xs
single_sublist [] q m = elim m [ ]
single_sublist (x ∷ xs) q (here e) =
    in_right (sublists xs) (subst (λ (y : ℕ). (y ∷ []) ∈ map (λ (ys : List ℕ). x ∷ ys) (sublists xs)) e (in_map (λ (ys : List ℕ). x ∷ ys) (empty_sublist xs)))
single_sublist (x ∷ xs) q (there m) = in_left (map (λ (ys : List ℕ). x ∷ ys) (sublists xs)) (single_sublist xs q m)

-- the parts that have this root
abbrev parts_at : List Table → List Occurrence → ℕ → List UnfoldingPart
parts_at schema os p = map (λ (qs : List ℕ). record { root = p; without = qs }) (sublists (open_in schema os p))

pub from_parts : (schema : List Table) (os : List Occurrence) (a : UnfoldingPart) → a ∈ parts schema os → (a.root < length os) × (a.without ∈ sublists (open_in schema os a.root))
from_parts schema os a m =
    let p = from_flat_map (parts_at schema os) (upto (length os)) m in
    let qs = from_map (λ (qs : List ℕ). record { root = p.0; without = qs }) (sublists (open_in schema os p.0)) {y = a} p.2 in
    subst (λ (b : UnfoldingPart). (b.root < length os) × (b.without ∈ sublists (open_in schema os b.root))) qs.2 (below_upto (length os) p.0 p.1, qs.1)

pub to_parts : (schema : List Table) (os : List Occurrence) (p : ℕ) (qs : List ℕ) → p < length os → qs ∈ sublists (open_in schema os p) → record { root = p; without = qs } ∈ parts schema os
to_parts schema os p qs h m =
    in_flat_map (parts_at schema os) {x = p} {xs = upto (length os)} (in_upto (length os) p h) (in_map (λ (qs : List ℕ). record { root = p; without = qs }) m)

-- one side of a pair: an unfolding of a table
module _ (schema : List Table) (t : ℕ) (r : Relation) (u : IsUnfolding schema t r) (subs : HasSubtrees r) where
  abbrev os : List Occurrence
  os = r.occurrences

  -- a proper part is in a greatest one
  in_greatest : (a : UnfoldingPart) → a ∈ parts schema os → is_whole a ≡ false → (g : List Occurrence) × (g ∈ greatest_proper_parts schema os) × (part_occurrences os a ⊆ g)
  in_greatest a m e =
      let f = from_parts schema os a m in
      by_root (cases_Bool (eqb a.root 0)) f.0 f.1
    where
      by_left_out : (qs : List ℕ) → a.without ≡ qs → eqb a.root 0 ≡ true → qs ∈ sublists (open_in schema os a.root) → (g : List Occurrence) × (g ∈ greatest_proper_parts schema os) × (part_occurrences os a ⊆ g)
      by_left_out [] none_so z i = absurd (true≢false (sym (and_from (eqb a.root 0) (eqb (length a.without) 0) z (ap (λ (xs : List ℕ). eqb (length xs) 0) none_so)) ∙ e))
      by_left_out (q ∷ qs) some z i =
          let q_in = from_sublist (open_in schema os a.root) (q ∷ qs) q i (here refl) in
          let f = from_filter _ (upto (length os)) q_in in
          let w = below_upto (length os) q f.0 in
          let b = (and_parts _ _ (and_parts _ _ f.1).1).1 in
          let y = has_tip schema t r u subs q w b in
          let m_q : q ∈ a.without = subst (λ (xs : List ℕ). q ∈ xs) (sym some) (here refl) in (
            without os y.tip,
            in_right (map (sub os) (children os)) (in_map (without os) (to_filter (is_tip schema os) (upto (length os)) (in_upto (length os) y.tip y.within) y.is)),
            part_in_without schema t r u subs a q y.tip m_q w y.within y.from,
          )

      by_root : (eqb a.root 0 ≡ true) ⊎ (eqb a.root 0 ≡ false) → a.root < length os → a.without ∈ sublists (open_in schema os a.root) → (g : List Occurrence) × (g ∈ greatest_proper_parts schema os) × (part_occurrences os a ⊆ g)
      by_root (inl z) h i = by_left_out a.without refl z i
      by_root (inr n) h i =
          let pos : 0 < a.root = positive a.root n in
          let d = is_below schema t r u subs a.root pos h in (
            sub os d.child,
            in_left (map (without os) (tips schema os)) (in_map (sub os) (to_filter (is_child os) (upto (length os)) (in_upto (length os) d.child d.within) (child_by_parent (nth_occurrence os d.child).parent d.parent))),
            λ x j. d.inside x (part_in_sub schema t r u subs a h x j),
          )
        where
          positive : (n : ℕ) → eqb n 0 ≡ false → 0 < n
          positive zero f = absurd (true≢false f)
          positive (suc n) f = omega arith

  -- a greatest part is in a proper part
  from_greatest : (g : List Occurrence) → g ∈ greatest_proper_parts schema os → (a : UnfoldingPart) × (a ∈ parts schema os) × (is_whole a ≡ false) × (g ⊆ part_occurrences os a)
  from_greatest g m = elim (from_append (map (sub os) (children os)) m) [
    | inl i ↦
        let c = from_map (sub os) (children os) {y = g} i in
        let f = from_filter (is_child os) (upto (length os)) c.1 in
        let w = below_upto (length os) c.0 f.0 in
        let later = before schema t r u subs c.0 0 w (parent_by_child (nth_occurrence os c.0).parent f.1) in
        let a : UnfoldingPart = record { root = c.0; without = [] } in
        let other : eqb c.0 0 ≡ false = ne_eqb c.0 0 (λ z. omega (arith, later, z)) in (
          a,
          to_parts schema os c.0 [] w (empty_sublist (open_in schema os c.0)),
          rw other refl,
          subst (λ (h : List Occurrence). h ⊆ part_occurrences os a) c.2 (sub_in_part schema t r u subs c.0 w),
        )
    | inr i ↦
        let c = from_map (without os) (tips schema os) {y = g} i in
        let f = from_filter (is_tip schema os) (upto (length os)) c.1 in
        let w = below_upto (length os) c.0 f.0 in
        let b = (and_parts _ _ f.1).0 in
        let a : UnfoldingPart = record { root = 0; without = c.0 ∷ [] } in (
          a,
          to_parts schema os 0 (c.0 ∷ []) u.some (single_sublist (open_in schema os 0) c.0 (open_in_whole schema t r u subs c.0 w b)),
          refl,
          subst (λ (h : List Occurrence). h ⊆ part_occurrences os a) c.2 (without_in_part schema t r u subs c.0 w u.some),
        )
  ]

  -- the part that is the whole
  whole_part : record { root = 0; without = [] } ∈ parts schema os
  whole_part = to_parts schema os 0 [] u.some (empty_sublist (open_in schema os 0))

one_is_proper : (a b : Bool) → not (a && b) ≡ true → (a ≡ false) ⊎ (b ≡ false)
one_is_proper true true e = absurd (true≢false (sym e))
one_is_proper true false e = inr refl
one_is_proper false b e = inl refl

left_proper : (a b : Bool) → a ≡ false → not (a && b) ≡ true
left_proper a b e = rw e refl

right_proper : (a b : Bool) → b ≡ false → not (a && b) ≡ true
right_proper true b e = rw e refl
right_proper false b e = refl

module _ (lines : List Line) (source target : List Table) (s t : ℕ) (P Q : Relation) (us : IsUnfolding source s P) (ps : HasSubtrees P) (ut : IsUnfolding target t Q) (qs : HasSubtrees Q) (picks : List Pick) where
  -- parts that suffice are in greatest proper parts
  dropped_in_part : is_dropped lines source target P.occurrences Q.occurrences picks ≡ true → is_in_proper_part lines source target P.occurrences Q.occurrences picks ≡ true
  dropped_in_part e =
      let a = from_any (λ a. list_any (suffices_at lines P.occurrences Q.occurrences picks a) (parts target Q.occurrences)) (parts source P.occurrences) e in
      let b = from_any (suffices_at lines P.occurrences Q.occurrences picks a.0) (parts target Q.occurrences) a.2 in
      let c = and_parts (not (is_whole a.0 && is_whole b.0)) (are_among picks (ways lines (part_occurrences P.occurrences a.0) (part_occurrences Q.occurrences b.0))) b.2 in
      elim (one_is_proper (is_whole a.0) (is_whole b.0) c.0) [
        | inl proper ↦
            let g = in_greatest source s P us ps a.0 a.1 proper in
            let grown = are_grow picks (ways lines (part_occurrences P.occurrences a.0) (part_occurrences Q.occurrences b.0)) (ways lines g.0 Q.occurrences)
            (ways_grow lines (part_occurrences P.occurrences a.0) g.0 (part_occurrences Q.occurrences b.0) Q.occurrences g.2 (part_within target t Q ut qs b.0)) c.1 in
            to_any (are_among picks) (greatest_parts lines source target P.occurrences Q.occurrences)
            (in_left (target_parts lines target P.occurrences Q.occurrences) (in_map (λ part. ways lines part Q.occurrences) g.1)) grown
        | inr proper ↦
            let g = in_greatest target t Q ut qs b.0 b.1 proper in
            let grown = are_grow picks (ways lines (part_occurrences P.occurrences a.0) (part_occurrences Q.occurrences b.0)) (ways lines P.occurrences g.0)
            (ways_grow lines (part_occurrences P.occurrences a.0) P.occurrences (part_occurrences Q.occurrences b.0) g.0 (part_within source s P us ps a.0) g.2) c.1 in
            to_any (are_among picks) (greatest_parts lines source target P.occurrences Q.occurrences)
            (in_right (source_parts lines source P.occurrences Q.occurrences) (in_map (ways lines P.occurrences) g.1)) grown
      ]

  -- greatest proper parts that suffice are in parts that do
  part_drops : is_in_proper_part lines source target P.occurrences Q.occurrences picks ≡ true → is_dropped lines source target P.occurrences Q.occurrences picks ≡ true
  part_drops e =
      let whole : UnfoldingPart = record { root = 0; without = [] } in
      let test : UnfoldingPart → Bool = λ a. list_any (suffices_at lines P.occurrences Q.occurrences picks a) (parts target Q.occurrences) in
      let a = from_any (are_among picks) (greatest_parts lines source target P.occurrences Q.occurrences) e in
      elim (from_append (source_parts lines source P.occurrences Q.occurrences) a.1) [
        | inl m ↦
            let g = from_map (λ part. ways lines part Q.occurrences) (greatest_proper_parts source P.occurrences) {y = a.0} m in
            let x = from_greatest source s P us ps g.0 g.1 in
            let grown = are_grow picks a.0 (ways lines (part_occurrences P.occurrences x.0) (part_occurrences Q.occurrences whole))
            (subst (λ (ks : List Pick). ks ⊆ ways lines (part_occurrences P.occurrences x.0) (part_occurrences Q.occurrences whole)) g.2
            (ways_grow lines g.0 (part_occurrences P.occurrences x.0) Q.occurrences (part_occurrences Q.occurrences whole) x.3 (whole_has_all target t Q ut qs ut.some))) a.2 in
            to_any test (parts source P.occurrences) x.1
            (to_any (suffices_at lines P.occurrences Q.occurrences picks x.0) (parts target Q.occurrences) (whole_part target t Q ut qs)
            (and_from _ _ (left_proper (is_whole x.0) (is_whole whole) x.2) grown))
        | inr m ↦
            let g = from_map (ways lines P.occurrences) (greatest_proper_parts target Q.occurrences) {y = a.0} m in
            let x = from_greatest target t Q ut qs g.0 g.1 in
            let grown = are_grow picks a.0 (ways lines (part_occurrences P.occurrences whole) (part_occurrences Q.occurrences x.0))
            (subst (λ (ks : List Pick). ks ⊆ ways lines (part_occurrences P.occurrences whole) (part_occurrences Q.occurrences x.0)) g.2
            (ways_grow lines P.occurrences (part_occurrences P.occurrences whole) g.0 (part_occurrences Q.occurrences x.0) (whole_has_all source s P us ps us.some) x.3)) a.2 in
            to_any test (parts source P.occurrences) (whole_part source s P us ps)
            (to_any (suffices_at lines P.occurrences Q.occurrences picks whole) (parts target Q.occurrences) x.1
            (and_from _ _ (right_proper (is_whole whole) (is_whole x.0) x.2) grown))
      ]

pub greatest_parts_decide : GreatestPartsDecide
greatest_parts_decide lines source target s t P Q picks fs cs hs p_in ft ct ht q_in =
    let us = variants_are source s P fs cs hs p_in in
    let ut = variants_are target t Q ft ct ht q_in in
    let ps : HasSubtrees P = λ p h. subtrees_are source s p P p_in h in
    let qs : HasSubtrees Q = λ q h. subtrees_are target t q Q q_in h in
    same_test
    (is_dropped lines source target P.occurrences Q.occurrences picks)
    (is_in_proper_part lines source target P.occurrences Q.occurrences picks)
    (dropped_in_part lines source target s t P Q us ps ut qs picks)
    (part_drops lines source target s t P Q us ps ut qs picks)

-- Without optional links the parts of an unfolding are its subtrees.
use Rattle.std.proofs.Common.{◌≡◌, ℕ, ◌<◌, eqb, ◌&&◌, List, [], ◌∷◌, length, refl, ap, subst, inl, inr, arith, length-append}
use Rattle.std.specs.Prelude.{Bool, true, false, not}
use Rattle.std.specs.List.{list_any}
use Rattle.std.proofs.lemmas.Bool.{and_parts, and_from, leb-true, false≢true}
use Rattle.dx_base.specs.Members.{◌∈◌, here, there}
use Rattle.dx_base.proofs.Lists.{none_or_some}
use Rattle.dx_base.proofs.Tests.{from_any, to_any, from_filter, same_test}
use Rattle.dx_model.specs.Tables.{Table, table_of}
use Rattle.dx_logical.specs.declared.relation.Relation.{Relation}
use Rattle.dx_logical.specs.Unfolding.{sub}
use Rattle.dx_logical.specs.Laws.{IsUnfolding, HasNoOptional}
use Rattle.dx_logical.proofs.Subtrees.{subtrees_are}
use Rattle.dx_logical.proofs.Unfolded.{variants_are}
use Rattle.dx_lines.specs.declared.line.Line.{Line}
use Rattle.dx_lines.specs.declared.candidate.Pick.{Pick}
use Rattle.dx_lines.specs.Ways.{ways}
use Rattle.dx_lines.specs.Candidates.{upto}
use Rattle.dx_lines.specs.Parts.{nth_occurrence, is_open, open_in, sublists, UnfoldingPart, parts, is_whole, part_occurrences}
use Rattle.dx_lines.specs.Kept.{suffices, suffices_at, is_dropped}
use Rattle.dx_lines.proofs.Sources.{below_upto}
use Rattle.dx_ways.proofs.WaysAre.{ways_grow}
use Rattle.dx_candidates.specs.Laws.{subtrees_suffice, some_subtrees_suffice, SubtreesDecideWithoutOptional}
use Rattle.dx_candidates.proofs.Decide.{are_grow, empty_sublist, from_parts, to_parts}
use Rattle.dx_candidates.proofs.UpTo.{in_upto}
use Rattle.dx_candidates.proofs.Tree.{HasSubtrees, part_in_sub, sub_in_part}

module _ (schema : List Table) (t : ℕ) (r : Relation) (u : IsUnfolding schema t r) (plain : HasNoOptional schema) where
  -- no optional link leads to an occurrence
  none_open : (n : ℕ) → n < length r.occurrences → ¬ (is_open schema r.occurrences n ≡ true)
  none_open n h e = elim (none_or_some (nth_occurrence r.occurrences n).parent) [
    | inl f ↦ false≢true (rw f at e)
    | inr f ↦
        let along = (u.along_links f.0 n h f.1).0 in
        let table = table_of schema (nth_occurrence r.occurrences f.0).table in
        let long = length-append table.links table.optional in
        let none_so = ap length (plain (nth_occurrence r.occurrences f.0).table) in
        let firm = leb-true (length table.links) (nth_occurrence r.occurrences n).link (rw f.1 at e) in
        omega (arith, along, long, none_so, firm)
  ]

  -- so nothing can be left out
  nothing_left_out : (p : ℕ) → open_in schema r.occurrences p ≡ []
  nothing_left_out p = none_in (open_in schema r.occurrences p) (λ n m.
      let f = from_filter _ (upto (length r.occurrences)) m in
      none_open n (below_upto (length r.occurrences) n f.0) (and_parts _ _ (and_parts _ _ f.1).1).1)
    where
      none_in : (ns : List ℕ) → ((n : ℕ) → n ∈ ns → ⊥) → ns ≡ []
      none_in [] h = refl
      none_in (n ∷ ns) h = absurd (h n (here refl))

  whole_by_root : (a : UnfoldingPart) → a ∈ parts schema r.occurrences → is_whole a ≡ eqb a.root 0
  whole_by_root a m =
      let f = from_parts schema r.occurrences a m in
      by_list a.without (subst (λ (qs : List ℕ). a.without ∈ sublists qs) (nothing_left_out a.root) f.1)
    where
      and_true : (b : Bool) → (b && true) ≡ b
      and_true true = refl
      and_true false = refl

      by_list : (qs : List ℕ) → qs ∈ sublists [] → (eqb a.root 0 && eqb (length qs) 0) ≡ eqb a.root 0
      by_list qs (here e) = rw (← e) (and_true (eqb a.root 0))
      by_list qs (there n) = elim n [ ]

module _ (lines : List Line) (source target : List Table) (s t : ℕ) (P Q : Relation) (us : IsUnfolding source s P) (ps : HasSubtrees P) (ut : IsUnfolding target t Q) (qs : HasSubtrees Q) (pure_s : HasNoOptional source) (pure_t : HasNoOptional target) (picks : List Pick) where
  to_subtrees : is_dropped lines source target P.occurrences Q.occurrences picks ≡ true → some_subtrees_suffice lines P.occurrences Q.occurrences picks ≡ true
  to_subtrees e =
      let a = from_any (λ a. list_any (suffices_at lines P.occurrences Q.occurrences picks a) (parts target Q.occurrences)) (parts source P.occurrences) e in
      let b = from_any (suffices_at lines P.occurrences Q.occurrences picks a.0) (parts target Q.occurrences) a.2 in
      let c = and_parts (not (is_whole a.0 && is_whole b.0)) (suffices lines picks (part_occurrences P.occurrences a.0) (part_occurrences Q.occurrences b.0)) b.2 in
      let p_in = (from_parts source P.occurrences a.0 a.1).0 in
      let q_in = (from_parts target Q.occurrences b.0 b.1).0 in
      let w = whole_by_root source s P us pure_s a.0 a.1 in
      let v = whole_by_root target t Q ut pure_t b.0 b.1 in
      let proper : not (eqb a.0.root 0 && eqb b.0.root 0) ≡ true = rw (w, v) at c.0 in
      let grown = are_grow picks (ways lines (part_occurrences P.occurrences a.0) (part_occurrences Q.occurrences b.0)) (ways lines (sub P.occurrences a.0.root) (sub Q.occurrences b.0.root))
      (ways_grow lines (part_occurrences P.occurrences a.0) (sub P.occurrences a.0.root) (part_occurrences Q.occurrences b.0) (sub Q.occurrences b.0.root) (part_in_sub source s P us ps a.0 p_in) (part_in_sub target t Q ut qs b.0 q_in)) c.1 in
      to_any (λ p. list_any (subtrees_suffice lines P.occurrences Q.occurrences picks p) (upto (length Q.occurrences))) (upto (length P.occurrences)) (in_upto (length P.occurrences) a.0.root p_in)
      (to_any (subtrees_suffice lines P.occurrences Q.occurrences picks a.0.root) (upto (length Q.occurrences)) (in_upto (length Q.occurrences) b.0.root q_in) (and_from _ _ proper grown))

  from_subtrees : some_subtrees_suffice lines P.occurrences Q.occurrences picks ≡ true → is_dropped lines source target P.occurrences Q.occurrences picks ≡ true
  from_subtrees e =
      let a = from_any (λ p. list_any (subtrees_suffice lines P.occurrences Q.occurrences picks p) (upto (length Q.occurrences))) (upto (length P.occurrences)) e in
      let b = from_any (subtrees_suffice lines P.occurrences Q.occurrences picks a.0) (upto (length Q.occurrences)) a.2 in
      let c = and_parts (not (eqb a.0 0 && eqb b.0 0)) (suffices lines picks (sub P.occurrences a.0) (sub Q.occurrences b.0)) b.2 in
      let p_in = below_upto (length P.occurrences) a.0 a.1 in
      let q_in = below_upto (length Q.occurrences) b.0 b.1 in
      let x : UnfoldingPart = record { root = a.0; without = [] } in
      let y : UnfoldingPart = record { root = b.0; without = [] } in
      let x_in = to_parts source P.occurrences a.0 [] p_in (empty_sublist (open_in source P.occurrences a.0)) in
      let y_in = to_parts target Q.occurrences b.0 [] q_in (empty_sublist (open_in target Q.occurrences b.0)) in
      let proper : not (is_whole x && is_whole y) ≡ true = rw (whole_by_root source s P us pure_s x x_in, whole_by_root target t Q ut pure_t y y_in) c.0 in
      let grown = are_grow picks (ways lines (sub P.occurrences a.0) (sub Q.occurrences b.0)) (ways lines (part_occurrences P.occurrences x) (part_occurrences Q.occurrences y))
      (ways_grow lines (sub P.occurrences a.0) (part_occurrences P.occurrences x) (sub Q.occurrences b.0) (part_occurrences Q.occurrences y) (sub_in_part source s P us ps a.0 p_in) (sub_in_part target t Q ut qs b.0 q_in)) c.1 in
      to_any (λ z. list_any (suffices_at lines P.occurrences Q.occurrences picks z) (parts target Q.occurrences)) (parts source P.occurrences) x_in
      (to_any (suffices_at lines P.occurrences Q.occurrences picks x) (parts target Q.occurrences) y_in (and_from _ _ proper grown))

pub subtrees_decide_without_optional : SubtreesDecideWithoutOptional
subtrees_decide_without_optional lines source target s t P Q picks pure_s pure_t fs cs hs p_in ft ct ht q_in =
    let us = variants_are source s P fs cs hs p_in in
    let ut = variants_are target t Q ft ct ht q_in in
    let ps : HasSubtrees P = λ p h. subtrees_are source s p P p_in h in
    let qs : HasSubtrees Q = λ q h. subtrees_are target t q Q q_in h in
    same_test
    (is_dropped lines source target P.occurrences Q.occurrences picks)
    (some_subtrees_suffice lines P.occurrences Q.occurrences picks)
    (to_subtrees lines source target s t P Q us ps ut qs pure_s pure_t picks)
    (from_subtrees lines source target s t P Q us ps ut qs pure_s pure_t picks)

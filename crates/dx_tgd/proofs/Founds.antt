-- Rows that are found for rules: as symbols grow, in order, and how many they are.
use Rattle.std.proofs.Common.{◌≡◌, ◌∙◌, ℕ, zero, suc, ◌+◌, ◌*◌, ◌/◌, ◌-◌, ◌<◌, ◌≤◌, List, [], ◌∷◌, ◌++◌, true, refl, sym, ap, subst, arith, length, get_or, take}
use Rattle.std.specs.Prelude.{Err, IfOk, MatchOption, None, Ok, Option, Result, Some, map, slice_get, slice_index}
use Rattle.std.specs.List.{AllZip}
use Rattle.std.proofs.lemmas.List.{append-nil, length-append, length-map, take_more}
use Rattle.std.proofs.Math.Nat.{div-lt_iff_lt-mul, mul-le-mul, mul-le-mul_right}
use Rattle.dx_base.specs.Members.{◌∈◌, ◌⊆◌, here, there, Distinct, Each}
use Rattle.dx_base.proofs.Members.{from_map, in_map, no_longer}
use Rattle.std.specs.declared.alloc.AllocError.{AllocError}
use Rattle.dx_base.proofs.Lists.{zip_push}
use Rattle.dx_model.specs.declared.facts.Fact.{Fact}
use Rattle.dx_model.specs.declared.matches.Places.{Places}
use Rattle.dx_model.specs.declared.rules.Atom.{Atom}
use Rattle.dx_model.specs.declared.rules.Rule.{Rule}
use Rattle.dx_model.specs.declared.values.Value.{Value}
use Rattle.dx_model.specs.Values.{Conversions, Rows, Tuple}
use Rattle.dx_model.specs.Fitting.{AtomsFitWidths, IsRule}
use Rattle.dx_model.specs.Rules.{AreRows, IsRows, cells_of, exported}
use Rattle.dx_model.proofs.RowsExist.{rows_exist}
use Rattle.dx_instance.specs.Cells.{IsOrderOf, NumberTable, NumbersAscend}
use Rattle.dx_instance.specs.Numbers.{ValuesDiffer, Extends, IsOrdering, ValuesAscend, value_of}
use Rattle.dx_instance.specs.Shown.{NumbersBelow, renumbered}
use Rattle.dx_instance.proofs.ShownFacts.{extends_both}
use Rattle.dx_joins.specs.Shown.{AllTexts, StandFor, is_text, texts_of}
use Rattle.dx_instance.specs.Ranks.{text_of_value}
use Rattle.dx_instance.proofs.SortFacts.{distinct_numbers}
use Rattle.dx_joins.proofs.Translating.{distinct_texts}
use Rattle.dx_joins.proofs.Whole.{stand_grow}
use Rattle.dx_tgd.specs.Counting.{canonical_cells}
use Rattle.dx_tgd.specs.Found.{AllRulesFound, IsFoundRule, IsRenumbering, IsTuple, MoreCells}
use Rattle.dx_tgd.specs.Placed.{HasCell}
use Rattle.dx_tgd.specs.Texts.{FitRules, tuples_in}
use Rattle.dx_tgd.proofs.Ascending.{tuples_ascend}
use Rattle.dx_tgd.proofs.Steps.{tuples_grown}

-- ---- as symbols grow

pub found_grown : (convert : Conversions) (I : List Fact) (S T : List Value) (R : List Rule) (ts : List NumberTable) → Extends S T → AllRulesFound convert I S R ts → AllRulesFound convert I T R ts
found_grown convert I S T [] [] e f = tt
found_grown convert I S T [] (t ∷ ts) e f = absurd f
found_grown convert I S T (d ∷ R) [] e f = absurd f
found_grown convert I S T (d ∷ R) (t ∷ ts) e f = (stand_grow (length (exported d)) (IsTuple convert I d) S T t e f.0, found_grown convert I S T R ts e f.1)

pub found_more : (convert : Conversions) (I : List Fact) (S : List Value) (R : List Rule) (ts : List NumberTable) (d : Rule) (t : NumberTable) → AllRulesFound convert I S R ts → IsFoundRule convert I S d t → AllRulesFound convert I S (R ++ d ∷ []) (ts ++ t ∷ [])
found_more convert I S [] [] d t f g = (g, tt)
found_more convert I S [] (u ∷ ts) d t f g = absurd f
found_more convert I S (e ∷ R) [] d t f g = absurd f
found_more convert I S (e ∷ R) (u ∷ ts) d t f g = (f.0, found_more convert I S R ts d t f.1 g)

grown_tuples : (convert : Conversions) (I : List Fact) (S T : List Value) (R : List Rule) (ts : List NumberTable) → Extends S T → AllRulesFound convert I S R ts → tuples_in T ts ≡ tuples_in S ts
grown_tuples convert I S T [] [] e f = refl
grown_tuples convert I S T [] (t ∷ ts) e f = absurd f
grown_tuples convert I S T (d ∷ R) [] e f = absurd f
grown_tuples convert I S T (d ∷ R) (t ∷ ts) e f =
    let first = tuples_grown S T t.rows e f.0.texts in
    let rest = grown_tuples convert I S T R ts e f.1 in
    cc (first, rest)

-- ---- what is found fits

pub found_texts : (convert : Conversions) (I : List Fact) (S : List Value) (R : List Rule) (ts : List NumberTable) → AllRulesFound convert I S R ts → Each ts (λ (t : NumberTable). Each t.rows (AllTexts S))
found_texts convert I S [] [] f u m = elim m [ ]
found_texts convert I S [] (t ∷ ts) f u m = absurd f
found_texts convert I S (d ∷ R) [] f u m = absurd f
found_texts convert I S (d ∷ R) (t ∷ ts) f u (here e) = rw (← e) f.0.texts
found_texts convert I S (d ∷ R) (t ∷ ts) f u (there m) = found_texts convert I S R ts f.1 u m

pub found_ascend : (convert : Conversions) (I : List Fact) (S : List Value) (R : List Rule) (ts : List NumberTable) → AllRulesFound convert I S R ts → Each ts (λ (t : NumberTable). NumbersAscend t.rows)
found_ascend convert I S [] [] f u m = elim m [ ]
found_ascend convert I S [] (t ∷ ts) f u m = absurd f
found_ascend convert I S (d ∷ R) [] f u m = absurd f
found_ascend convert I S (d ∷ R) (t ∷ ts) f u (here e) = rw (← e) f.0.ascend
found_ascend convert I S (d ∷ R) (t ∷ ts) f u (there m) = found_ascend convert I S R ts f.1 u m

pub found_fit : (convert : Conversions) (I : List Fact) (S : List Value) (R : List Rule) (ts : List NumberTable) → AllRulesFound convert I S R ts → FitRules S R ts
found_fit convert I S [] [] f = tt
found_fit convert I S [] (t ∷ ts) f = absurd f
found_fit convert I S (d ∷ R) [] f = absurd f
found_fit convert I S (d ∷ R) (t ∷ ts) f = (record { width = f.0.width; texts = f.0.texts }, found_fit convert I S R ts f.1)

-- ---- in another order

ranked_row : (S T : List Value) (ranks row : List ℕ) → IsOrdering S T ranks → AllTexts S row → AllTexts T (map (slice_index ranks) row) × (texts_of T (map (slice_index ranks) row) ≡ texts_of S row)
ranked_row S T ranks [] o h = ((λ n m. elim m [ ]), refl)
ranked_row S T ranks (n ∷ row) o h =
    let k = h n (here refl) in
    let same : value_of T (slice_index ranks n) ≡ value_of S n = o.at n k.0 in
    let rest = ranked_row S T ranks row o (λ x m. h x (there m)) in
    let first : text_of_value (value_of T (slice_index ranks n)) ≡ text_of_value (value_of S n) = ap text_of_value same in
    let tail = rest.1 in
    (texts k same rest.0, cc (first, tail))
  where
    texts : (n < length S) × (is_text (value_of S n) ≡ true) → value_of T (slice_index ranks n) ≡ value_of S n → AllTexts T (map (slice_index ranks) row) → AllTexts T (slice_index ranks n ∷ map (slice_index ranks) row)
    texts k same rest m (here e) = rw (← e) (o.within n k.0, ap is_text same ∙ k.1)
    texts k same rest m (there q) = rest m q

ranked_rows : (S T : List Value) (ranks : List ℕ) (rows : List (List ℕ)) → IsOrdering S T ranks → Each rows (AllTexts S)
    → Each (map (λ (r : List ℕ). map (slice_index ranks) r) rows) (AllTexts T) × (map (texts_of T) (map (λ (r : List ℕ). map (slice_index ranks) r) rows) ≡ map (texts_of S) rows)
ranked_rows S T ranks [] o h = ((λ n m. elim m [ ]), refl)
ranked_rows S T ranks (r ∷ rows) o h =
    let one = ranked_row S T ranks r o (h r (here refl)) in
    let rest = ranked_rows S T ranks rows o (λ x m. h x (there m)) in
    let first = one.1 in
    let tail = rest.1 in
    (texts one.0 rest.0, cc (first, tail))
  where
    texts : AllTexts T (map (slice_index ranks) r) → Each (map (λ (q : List ℕ). map (slice_index ranks) q) rows) (AllTexts T) → Each (map (slice_index ranks) r ∷ map (λ (q : List ℕ). map (slice_index ranks) q) rows) (AllTexts T)
    texts a b m (here e) = rw (← e) a
    texts a b m (there q) = b m q

same_mapped : {X Y : Type 0} (f : X → Y) (xs ys : List X) (y : Y) → xs ⊆ ys → y ∈ map f xs → y ∈ map f ys
same_mapped f xs ys y s m = let p = from_map f xs m in subst (λ z. z ∈ map f ys) p.2 (in_map f (s p.0 p.1))

pub is_reordered : (S T : List Value) (ranks : List ℕ) (t u : NumberTable) → IsOrdering S T ranks → Each t.rows (AllTexts S) → IsOrderOf (renumbered ranks t) u → IsRenumbering S T t u
is_reordered S T ranks t u o h p =
    let q = ranked_rows S T ranks t.rows o h in record {
      width = p.width;
      ascend = p.ascend;
      texts = λ r m. q.0 r (p.only r m);
      same = λ s. (
        (λ m. subst (λ (l : List Tuple). s ∈ l) q.1 (same_mapped (texts_of T) u.rows _ s p.only m)),
        (λ m. same_mapped (texts_of T) _ u.rows s p.kept (subst (λ (l : List Tuple). s ∈ l) (sym q.1) m)),
      );
    }

pub same_order : (S : List Value) (t : NumberTable) → NumbersAscend t.rows → Each t.rows (AllTexts S) → IsRenumbering S S t t
same_order S t a h = record { width = refl; ascend = a; texts = h; same = λ s. ((λ m. m), (λ m. m)) }

pub all_same_order : (S : List Value) (ts : List NumberTable) → Each ts (λ (t : NumberTable). NumbersAscend t.rows) → Each ts (λ (t : NumberTable). Each t.rows (AllTexts S)) → AllZip (IsRenumbering S S) ts ts
all_same_order S [] a h = tt
all_same_order S (t ∷ ts) a h = (same_order S t (a t (here refl)) (h t (here refl)), all_same_order S ts (λ u m. a u (there m)) (λ u m. h u (there m)))

pub all_reordered : (S T : List Value) (ranks : List ℕ) (ts us : List NumberTable) → IsOrdering S T ranks → Each ts (λ (t : NumberTable). Each t.rows (AllTexts S)) → AllZip (λ t u. IsOrderOf (renumbered ranks t) u) ts us
    → AllZip (IsRenumbering S T) ts us
all_reordered S T ranks [] [] o h z = tt
all_reordered S T ranks [] (u ∷ us) o h z = absurd z
all_reordered S T ranks (t ∷ ts) [] o h z = absurd z
all_reordered S T ranks (t ∷ ts) (u ∷ us) o h z = (is_reordered S T ranks t u o (h t (here refl)) z.0, all_reordered S T ranks ts us o (λ x m. h x (there m)) z.1)

below_ranks : (S T : List Value) (ranks : List ℕ) (row : List ℕ) → IsOrdering S T ranks → AllTexts S row → NumbersBelow (length ranks) row
below_ranks S T ranks row o h n m = omega (arith, (h n m).0, o.ranked)

pub rows_below : (S T : List Value) (ranks : List ℕ) (t : NumberTable) → IsOrdering S T ranks → Each t.rows (AllTexts S) → Each t.rows (NumbersBelow (length ranks))
rows_below S T ranks t o h r m = below_ranks S T ranks r o (h r m)

pub all_below : (S T : List Value) (ranks : List ℕ) (ts : List NumberTable) → IsOrdering S T ranks → Each ts (λ (t : NumberTable). Each t.rows (AllTexts S)) → Each ts (λ (t : NumberTable). Each t.rows (NumbersBelow (length ranks)))
all_below S T ranks ts o h t m = rows_below S T ranks t o (h t m)

pub stand_reordered : (n : ℕ) (P : Tuple → Type 0) (S T : List Value) (t u : NumberTable) → IsRenumbering S T t u → StandFor n P S t → StandFor n P T u
stand_reordered n P S T t u r s = record {
  width = r.width ∙ s.width;
  ascend = r.ascend;
  texts = r.texts;
  exact = λ x. ((λ m. (s.exact x).0 ((r.same x).0 m)), (λ p. (r.same x).1 ((s.exact x).1 p)));
}

pub found_reordered : (convert : Conversions) (I : List Fact) (S T : List Value) (R : List Rule) (ts us : List NumberTable) → AllZip (IsRenumbering S T) ts us → AllRulesFound convert I S R ts → AllRulesFound convert I T R us
found_reordered convert I S T [] [] [] z f = tt
found_reordered convert I S T [] [] (u ∷ us) z f = absurd z
found_reordered convert I S T [] (t ∷ ts) us z f = absurd f
found_reordered convert I S T (d ∷ R) [] us z f = absurd f
found_reordered convert I S T (d ∷ R) (t ∷ ts) [] z f = absurd z
found_reordered convert I S T (d ∷ R) (t ∷ ts) (u ∷ us) z f = (stand_reordered (length (exported d)) (IsTuple convert I d) S T t u z.0 f.0, found_reordered convert I S T R ts us z.1 f.1)

-- ---- the rows of rules

-- the tuples for which ascending rows stand under ascending symbols are the rows of the rule
pub rule_rows : (convert : Conversions) (I : List Fact) (S : List Value) (d : Rule) (t : NumberTable) → ValuesAscend S → IsFoundRule convert I S d t → IsRows convert d I (map (texts_of S) t.rows)
rule_rows convert I S d t up s = record {
  ascend = tuples_ascend S t.rows up s.texts s.ascend;
  exact = λ u. (
    (λ m. let q = (s.exact u).0 m in (q.0, record { premise = q.1.atoms; derived = q.1.derives }, q.2)),
    (λ q. (s.exact u).1 (q.0, record { atoms = q.1.premise; derives = q.1.derived }, q.2)),
  );
}

pub all_rule_rows : (convert : Conversions) (I : List Fact) (S : List Value) (R : List Rule) (ts : List NumberTable) → ValuesAscend S → AllRulesFound convert I S R ts → AreRows convert R I (tuples_in S ts)
all_rule_rows convert I S [] [] up f = tt
all_rule_rows convert I S [] (t ∷ ts) up f = absurd f
all_rule_rows convert I S (d ∷ R) [] up f = absurd f
all_rule_rows convert I S (d ∷ R) (t ∷ ts) up f = (rule_rows convert I S d t up f.0, all_rule_rows convert I S R ts up f.1)

-- the same, of rows that were put in order
pub ordered_rows : (convert : Conversions) (I J : List Fact) (S T : List Value) (d : Rule) (t u : NumberTable) (tuples : List Tuple) → I ≡ J → IsFoundRule convert I S d t → ValuesAscend T → IsRenumbering S T t u → tuples ≡ map (texts_of T) u.rows
    → IsRows convert d J tuples
ordered_rows convert I J S T d t u tuples same f up r is =
    rw (is, ← same) (rule_rows convert I T d u up (stand_reordered (length (exported d)) (IsTuple convert I d) S T t u r f))

pub ordered_places : (convert : Conversions) (I J : List Fact) (S T : List Value) (d : Rule) (t u : NumberTable) (r : Result Places AllocError) → I ≡ J → IsFoundRule convert I S d t → ValuesAscend T → IsRenumbering S T t u
    → IfOk r (λ p. p.tuples ≡ map (texts_of T) u.rows) → IfOk r (λ p. IsRows convert d J p.tuples)
ordered_places convert I J S T d t u (Ok p) same f up r is = ordered_rows convert I J S T d t u p.tuples same f up r is
ordered_places convert I J S T d t u (Err e) same f up r is = tt

-- ---- how many they are

to_shown : (convert : Conversions) (I : List Fact) (d : Rule) (ts : List Tuple) (t : Tuple) → IsRows convert d I ts → IsTuple convert I d t → t ∈ ts
to_shown convert I d ts t a q = (a.exact t).1 (q.0, record { premise = q.1.atoms; derived = q.1.derives }, q.2)

-- rows of numbers are no more than the rows of their rule
found_few : (convert : Conversions) (I : List Fact) (S : List Value) (d : Rule) (t : NumberTable) (ts : List Tuple) → ValuesDiffer S → IsFoundRule convert I S d t → IsRows convert d I ts → length t.rows ≤ length ts
found_few convert I S d t ts p s a =
    let few = no_longer (map (texts_of S) t.rows) ts (distinct_texts S t.rows p s.texts (distinct_numbers t.rows s.ascend)) (λ u m. to_shown convert I d ts u a ((s.exact u).0 m)) in
    omega (arith, few, length-map t.rows (texts_of S))

-- the rows of all rules have no fewer canonical cells than what is found of the first of them
found_cells : (convert : Conversions) (I : List Fact) (S : List Value) (R : List Rule) (ts : List NumberTable) (rows : Rows) → ValuesDiffer S → AllRulesFound convert I S R ts → AreRows convert R I rows → canonical_cells R (tuples_in S ts) ≤ canonical_cells R rows
found_cells convert I S [] [] [] p f a = omega arith
found_cells convert I S [] [] (us ∷ rows) p f a = absurd a
found_cells convert I S [] (t ∷ ts) rows p f a = absurd f
found_cells convert I S (d ∷ R) [] rows p f a = absurd f
found_cells convert I S (d ∷ R) (t ∷ ts) [] p f a = absurd a
found_cells convert I S (d ∷ R) (t ∷ ts) (us ∷ rows) p f a =
    let one : length (map (texts_of S) t.rows) ≤ length us = omega (arith, found_few convert I S d t us p f.0 a.0, length-map t.rows (texts_of S)) in
    let n = length (cells_of d.conclusion) in
    let rest = found_cells convert I S R ts rows p f.1 a.1 in
    omega (arith, mul-le-mul_right n one, rest)

pub rows_all_exist : (convert : Conversions) (R : List Rule) (I : List Fact) → Each R IsRule → (rows : Rows) × AreRows convert R I rows
rows_all_exist convert [] I h = ([], tt)
rows_all_exist convert (d ∷ R) I h =
    let one = rows_exist convert d I (h d (here refl)) in
    let rest = rows_all_exist convert R I (λ e m. h e (there m)) in
    (one.0 ∷ rest.0, (one.1, rest.1))

-- ---- the limit

-- what is known of the rules before one of them: what is found of them, and what they leave of the limit
pub record FoundSoFar (convert : Conversions) (I : List Fact) (source S : List Value) (R : List Rule) (ts : List NumberTable) (limit left : ℕ) : Type 0 where
  pub found : AllRulesFound convert I S R ts
  pub grows : Extends source S
  pub apart : ValuesDiffer S
  pub cells : canonical_cells R (tuples_in S ts) + left ≡ limit

cells_more : (S : List Value) (R : List Rule) (ts : List NumberTable) (d : Rule) (t : NumberTable) → length R ≡ length ts
    → canonical_cells (R ++ d ∷ []) (tuples_in S (ts ++ t ∷ [])) ≡ canonical_cells R (tuples_in S ts) + length t.rows * length (cells_of d.conclusion)
cells_more S [] [] d t e = let l = length-map t.rows (texts_of S) in rw l (omega arith)
cells_more S [] (u ∷ ts) d t e = absurd (omega (arith, e))
cells_more S (c ∷ R) [] d t e = absurd (omega (arith, e))
cells_more S (c ∷ R) (u ∷ ts) d t e = let r = cells_more S R ts d t (omega (arith, e)) in omega (arith, r)

found_long : (convert : Conversions) (I : List Fact) (S : List Value) (R : List Rule) (ts : List NumberTable) → AllRulesFound convert I S R ts → length R ≡ length ts
found_long convert I S [] [] f = refl
found_long convert I S [] (t ∷ ts) f = absurd f
found_long convert I S (d ∷ R) [] f = absurd f
found_long convert I S (d ∷ R) (t ∷ ts) f = ap suc (found_long convert I S R ts f.1)

-- one rule more
pub so_far_more : (convert : Conversions) (I : List Fact) (source S T U : List Value) (R : List Rule) (ts us : List NumberTable) (limit left i : ℕ) (d : Rule) (t : NumberTable)
    → FoundSoFar convert I source S (take i R) ts limit left → i < length R → d ≡ get_or R i d → Extends S T → Extends T U → ValuesDiffer U → IsFoundRule convert I U d t → us ≡ ts ++ t ∷ []
    → length t.rows * length (cells_of d.conclusion) ≤ left → FoundSoFar convert I source U (take (i + 1) R) us limit (left - length t.rows * length (cells_of d.conclusion))
so_far_more convert I source S T U R ts us limit left i d t k h is e g p f more few =
    let grown = extends_both S T U e g in
    let old = found_grown convert I S U (take i R) ts grown k.found in
    let same = grown_tuples convert I S U (take i R) ts grown k.found in
    let cells = cells_more U (take i R) ts d t (found_long convert I U (take i R) ts old) in
    let before : canonical_cells (take i R) (tuples_in U ts) + left ≡ limit = rw same k.cells in
    let all : take (i + 1) R ≡ take i R ++ d ∷ [] = take_more R i d h ∙ ap (λ (x : Rule). take i R ++ x ∷ []) (sym is) in record {
      found = rw (all, more) (found_more convert I U (take i R) ts d t old f);
      grows = extends_both source S U k.grows grown;
      apart = p;
      cells = rw (all, more) (omega (arith, cells, before, few));
    }

-- more tuples of one rule than the rest of the limit leaves room for: the rows of all rules pass it
pub passes : (convert : Conversions) (I : List Fact) (source S : List Value) (R : List Rule) (ts : List NumberTable) (limit left i : ℕ) (d : Rule) (us : List Tuple)
    → FoundSoFar convert I source S (take i R) ts limit left → Each R IsRule → i < length R → d ≡ get_or R i d → Distinct us → Each us (IsTuple convert I d) → left < length us * length (cells_of d.conclusion)
    → MoreCells convert R I limit
passes convert I source S R ts limit left i d us k rules h is distinct each many =
    let all = rows_all_exist convert R I rules in record {
      rows = all.0;
      are = all.1;
      more = let n = split R all.0 ts i k.found all.1 h is in let c = k.cells in omega (arith, n, c, many);
    }
  where
    n : ℕ
    n = length (cells_of d.conclusion)

    one : (ws : List Tuple) → IsRows convert d I ws → length us ≤ length ws
    one ws a = no_longer us ws distinct (λ t m. to_shown convert I d ws t a (each t m))

    split : (Q : List Rule) (rows : Rows) (vs : List NumberTable) (j : ℕ) → AllRulesFound convert I S (take j Q) vs → AreRows convert Q I rows → j < length Q → d ≡ get_or Q j d
        → canonical_cells (take j Q) (tuples_in S vs) + length us * n ≤ canonical_cells Q rows
    split [] rows vs j f a b e = absurd (omega (arith, b))
    split (q ∷ Q) [] vs j f a b e = absurd a
    split (q ∷ Q) (ws ∷ rows) [] zero f a b e =
        let l = mul-le-mul_right n (one ws (rw e a.0)) in rw (← e) (omega (arith, l))
    split (q ∷ Q) (ws ∷ rows) (v ∷ vs) zero f a b e = absurd f
    split (q ∷ Q) (ws ∷ rows) [] (suc j) f a b e = absurd f
    split (q ∷ Q) (ws ∷ rows) (v ∷ vs) (suc j) f a b e =
        let l : length (map (texts_of S) v.rows) ≤ length ws = let m = length-map v.rows (texts_of S) in let c = found_few convert I S q v ws k.apart f.0 a.0 in omega (arith, m, c) in
        let r = split Q rows vs j f.1 a.1 (omega (arith, b)) e in
        let w = mul-le-mul_right (length (cells_of q.conclusion)) l in
        omega (arith, r, w)

-- there are more tuples than were asked for
pub none_passes : (most cells left n : ℕ) → 1 ≤ cells → most ≡ left / cells → most < n → left < n * cells
none_passes most cells left n some is more = (div-lt_iff_lt-mul {k = cells} {x = left} {y = n} some).0 (rw (← is) more)

pub tuples_distinct : (convert : Conversions) (I : List Fact) (S : List Value) (d : Rule) (t : NumberTable) → ValuesDiffer S → IsFoundRule convert I S d t → Distinct (map (texts_of S) t.rows)
tuples_distinct convert I S d t p s = distinct_texts S t.rows p s.texts (distinct_numbers t.rows s.ascend)

pub tuples_shown : (convert : Conversions) (I : List Fact) (S : List Value) (d : Rule) (t : NumberTable) → IsFoundRule convert I S d t → Each (map (texts_of S) t.rows) (IsTuple convert I d)
tuples_shown convert I S d t s u m = (s.exact u).0 m

-- ---- lists side by side

-- one pair more
pub zip_more : {X Y : Type 0} (R : X → Y → Type 0) (xs : List X) (ys now : List Y) (i : ℕ) (x : X) (y : Y) → i < length xs → x ≡ get_or xs i x → now ≡ ys ++ y ∷ [] → AllZip R (take i xs) ys → R x y → AllZip R (take (i + 1) xs) now
zip_more R xs ys now i x y h is e z r = rw (e, take_more xs i x h, ← is) (zip_push R (take i xs) ys x y z r)

-- ---- in order, within the limit

pub reordered_few : (S T : List Value) (t u : NumberTable) → ValuesDiffer T → IsRenumbering S T t u → length u.rows ≤ length t.rows
reordered_few S T t u p r =
    let few = no_longer (map (texts_of T) u.rows) (map (texts_of S) t.rows) (distinct_texts T u.rows p r.texts (distinct_numbers u.rows r.ascend)) (λ s m. (r.same s).0 m) in
    omega (arith, few, length-map u.rows (texts_of T), length-map t.rows (texts_of S))

pub reordered_cells : (S T : List Value) (R : List Rule) (ts us : List NumberTable) → ValuesDiffer T → AllZip (IsRenumbering S T) ts us → canonical_cells R (tuples_in T us) ≤ canonical_cells R (tuples_in S ts)
reordered_cells S T [] ts us p z = omega arith
reordered_cells S T (d ∷ R) [] [] p z = omega arith
reordered_cells S T (d ∷ R) [] (u ∷ us) p z = absurd z
reordered_cells S T (d ∷ R) (t ∷ ts) [] p z = absurd z
reordered_cells S T (d ∷ R) (t ∷ ts) (u ∷ us) p z =
    let one : length (map (texts_of T) u.rows) ≤ length (map (texts_of S) t.rows) = omega (arith, reordered_few S T t u p z.0, length-map u.rows (texts_of T), length-map t.rows (texts_of S)) in
    let w = mul-le-mul_right (length (cells_of d.conclusion)) one in
    let rest = reordered_cells S T R ts us p z.1 in
    omega (arith, w, rest)

-- ---- conclusions have cells

at_some : (ws : List ℕ) (t w : ℕ) → Each ws (λ v. 1 ≤ v) → slice_get ws t ≡ Some w → 1 ≤ w
at_some [] t w h e = absurd (cc e)
at_some (v ∷ ws) zero w h e = let same : v ≡ w = cc e in let k = h v (here refl) in omega (arith, k, same)
at_some (v ∷ ws) (suc t) w h e = at_some ws t w (λ u n. h u (there n)) e

some_cells : (ws : List ℕ) (atoms : List Atom) → Each ws (λ v. 1 ≤ v) → 0 < length atoms → AtomsFitWidths ws atoms → 1 ≤ length (cells_of atoms)
some_cells ws [] h k f = absurd (omega (arith, k))
some_cells ws (a ∷ atoms) h k f =
    let w = at_some ws a.table (length a.cells) h (f a (here refl)) in
    omega (arith, w, length-append a.cells (cells_of atoms))

pub have_cells : (ws : List ℕ) (R : List Rule) → Each ws (λ v. 1 ≤ v) → Each R IsRule → Each R (λ d. AtomsFitWidths ws d.conclusion) → Each R HasCell
have_cells ws R h rules fit d m = some_cells ws d.conclusion h (rules d m).some_conclusion (fit d m)

-- ---- the loop over rules

pub found_start : (convert : Conversions) (I : List Fact) (source S : List Value) (ts : List NumberTable) (limit : ℕ) → S ≡ source → ts ≡ [] → ValuesDiffer source → FoundSoFar convert I source S [] ts limit limit
found_start convert I source S ts limit e f p =
    rw (e, f) (record { found = tt; grows = record { more = []; is = sym (append-nil source) }; apart = p; cells = omega arith })

pub none_found : (o : Option NumberTable) (P : Type 0) (Q : NumberTable → Type 0) → o ≡ None → MatchOption o P Q → P
none_found None P Q e m = m
none_found (Some t) P Q e m = absurd (cc e)

-- a product of two numbers below 2^32
pub product_fits : (a b : ℕ) → a < 4294967296 → b < 4294967295 → a * b < 18446744073709551616
product_fits a b h k =
    let p = mul-le-mul {n₁ = a} {m₁ = b} {n₂ = 4294967295} {m₂ = 4294967294} (omega (arith, h)) (omega (arith, k)) in omega (arith, p)

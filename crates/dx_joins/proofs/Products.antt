-- Parts that share no variable, and the products of their rows.
use Rattle.std.proofs.Common.{◌≡◌, ◌↔◌, ◌∙◌, ◌<◌, ◌≤◌, ◌+◌, ◌-◌, ◌++◌, ◌∷◌, ℕ, zero, suc, eqb, List, [], Bool, refl, sym, ap, subst, arith, length, take, drop, inl, inr, Result, Ok, Err, Option, None, Some}
use Rattle.std.specs.Prelude.{map, IfOk, IfSome, MatchOption}
use Rattle.std.specs.List.{list_any}
use Rattle.std.specs.declared.alloc.AllocError.{AllocError}
use Rattle.std.proofs.lemmas.Bool.{cond-false}
use Rattle.std.proofs.lemmas.List.{length-append, length-map, length-drop, take-append-drop, take_all, append_assoc}
use Rattle.dx_base.specs.Members.{◌∈◌, ◌⊆◌, here, there, Each, Distinct}
use Rattle.dx_base.proofs.Members.{in_left, in_right, from_append, from_map, in_flat_map, from_flat_map, map_agrees, no_longer}
use Rattle.dx_base.proofs.Tests.{map_same}
use Rattle.dx_instance.specs.Cells.{NumberTable}
use Rattle.dx_joins.specs.declared.pattern.Pattern.{Pattern}
use Rattle.dx_joins.specs.declared.parts.Part.{Part}
use Rattle.dx_joins.specs.Collecting.{RowsExactly, MoreThan}
use Rattle.dx_joins.specs.Joining.{MatchesPatterns, variables_of_patterns}
use Rattle.dx_joins.specs.Looking.{numbers_at_places}
use Rattle.dx_joins.specs.Planning.{IsVariableNeeded, IsMatchRow, HasMatchRows, first_place}
use Rattle.dx_joins.specs.Products.{Crosses, GivesRows, IsPartOf, IsProduct, IsWide, PartGrows, ShareNone}
use Rattle.dx_joins.proofs.Carrying.{told_from}
use Rattle.dx_joins.proofs.Distincts.{distinct_append, distinct_map}
use Rattle.dx_joins.proofs.Patterns.{decide_in, in_pattern, mixed, mixed_on, stands_same}
use Rattle.dx_joins.proofs.Places.{joined_is}

-- ---- the matches of patterns that share no variable

module _ (tables : List NumberTable) (marks : List Bool) (first second : List Pattern) (left right kept places : List ℕ) (apart : ShareNone first second)
    (in_first : left ⊆ variables_of_patterns first) (in_second : right ⊆ variables_of_patterns second) (known : kept ⊆ (left ++ right)) (is : places ≡ map (first_place (left ++ right)) kept) where
  -- one assignment on the variables of the first patterns, and another elsewhere
  abbrev glue : (ℕ → ℕ) → (ℕ → ℕ) → ℕ → ℕ
  glue f g x = mixed (variables_of_patterns first) f g x

  on_first : (f g : ℕ → ℕ) (x : ℕ) → x ∈ variables_of_patterns first → glue f g x ≡ f x
  on_first f g x m = mixed_on (variables_of_patterns first) f g x m

  on_second : (f g : ℕ → ℕ) (x : ℕ) → x ∈ variables_of_patterns second → glue f g x ≡ g x
  on_second f g x m = elim (decide_in x (variables_of_patterns first)) [ inl l ↦ absurd (apart x l m) | inr e ↦ cond-false (list_any (eqb x) (variables_of_patterns first)) (f x) (g x) e ]

  glue_says : (f g : ℕ → ℕ) → MatchesPatterns tables marks first f → MatchesPatterns tables marks second g → MatchesPatterns tables marks (first ++ second) (glue f g)
  glue_says f g s t a m = elim (from_append first m) [
    | inl l ↦ stands_same tables marks f (glue f g) a (λ x h. on_first f g x (in_pattern x a first l h)) (s a l)
    | inr r ↦ stands_same tables marks g (glue f g) a (λ x h. on_second f g x (in_pattern x a second r h)) (t a r)
  ]

  glued : (f g : ℕ → ℕ) (r s : List ℕ) → r ≡ map f left → s ≡ map g right → map (glue f g) kept ≡ numbers_at_places (r ++ s) places
  glued f g r s a b = joined_is left right kept places r s (map (glue f g) kept) known is (record {
    numbers = glue f g;
    first = a ∙ sym (map_same (glue f g) f left (λ x m. on_first f g x (in_first x m)));
    second = b ∙ sym (map_same (glue f g) g right (λ x m. on_second f g x (in_second x m)));
    whole = refl;
  })

  both_told : (r s : List ℕ) → IsMatchRow tables marks first left r → IsMatchRow tables marks second right s → IsMatchRow tables marks (first ++ second) kept (numbers_at_places (r ++ s) places)
  both_told r s w v = (glue w.0 v.0, glue_says w.0 v.0 w.1 v.1, sym (glued w.0 v.0 r s w.2 v.2))

  pub cross_told : (lefts rights : NumberTable) → HasMatchRows tables marks first left lefts → HasMatchRows tables marks second right rights → (t : List ℕ) → Crosses lefts.rows rights.rows places t ↔ IsMatchRow tables marks (first ++ second) kept t
  cross_told lefts rights by_left by_right t = (
    (λ p. subst (IsMatchRow tables marks (first ++ second) kept) (sym p.2.2) (both_told p.0 p.2.0 ((by_left.exact p.0).0 p.1) ((by_right.exact p.2.0).0 p.2.1))),
    (λ q. (
      map q.0 left,
      (by_left.exact (map q.0 left)).1 (q.0, (λ a m. q.1 a (in_left second m)), refl),
      (
        map q.0 right,
        (by_right.exact (map q.0 right)).1 (q.0, (λ a m. q.1 a (in_right first m)), refl),
        q.2 ∙ joined_is left right kept places (map q.0 left) (map q.0 right) (map q.0 kept) known is (record { numbers = q.0; first = refl; second = refl; whole = refl }),
      ),
    )),
  )

  -- too many rows on one side, and a row on the other
  pub more_first : (most : ℕ) (s : List ℕ) → left ⊆ kept → MoreThan most (IsMatchRow tables marks first left) → IsMatchRow tables marks second right s → MoreThan most (IsMatchRow tables marks (first ++ second) kept)
  more_first most s within m v = record {
    some = map put m.some;
    distinct = distinct_map put m.some same m.distinct;
    each = λ t k. let r = from_map put m.some k in subst (IsMatchRow tables marks (first ++ second) kept) r.2 (both_told r.0 s (m.each r.0 r.1) v);
    more = let a = m.more in omega (arith, a, length-map m.some put);
    few = let a = m.few in omega (arith, a, length-map m.some put);
  }
    where
      put : List ℕ → List ℕ
      put r = numbers_at_places (r ++ s) places

      same : (a b : List ℕ) → a ∈ m.some → b ∈ m.some → put a ≡ put b → a ≡ b
      same a b ma mb e =
          let w = m.each a ma in
          let u = m.each b mb in
          let n : map (glue w.0 v.0) kept ≡ map (glue u.0 v.0) kept = glued w.0 v.0 a s w.2 v.2 ∙ e ∙ sym (glued u.0 v.0 b s u.2 v.2) in
          w.2 ∙ map_same w.0 u.0 left (λ x h. sym (on_first w.0 v.0 x (in_first x h)) ∙ map_agrees (glue w.0 v.0) (glue u.0 v.0) n (within x h) ∙ on_first u.0 v.0 x (in_first x h)) ∙ sym u.2

  pub more_second : (most : ℕ) (r : List ℕ) → right ⊆ kept → IsMatchRow tables marks first left r → MoreThan most (IsMatchRow tables marks second right) → MoreThan most (IsMatchRow tables marks (first ++ second) kept)
  more_second most r within v m = record {
    some = map put m.some;
    distinct = distinct_map put m.some same m.distinct;
    each = λ t k. let s = from_map put m.some k in subst (IsMatchRow tables marks (first ++ second) kept) s.2 (both_told r s.0 v (m.each s.0 s.1));
    more = let a = m.more in omega (arith, a, length-map m.some put);
    few = let a = m.few in omega (arith, a, length-map m.some put);
  }
    where
      put : List ℕ → List ℕ
      put s = numbers_at_places (r ++ s) places

      same : (a b : List ℕ) → a ∈ m.some → b ∈ m.some → put a ≡ put b → a ≡ b
      same a b ma mb e =
          let w = m.each a ma in
          let u = m.each b mb in
          let n : map (glue v.0 w.0) kept ≡ map (glue v.0 u.0) kept = glued v.0 w.0 r a v.2 w.2 ∙ e ∙ sym (glued v.0 u.0 r b v.2 u.2) in
          w.2 ∙ map_same w.0 u.0 right (λ x h. sym (on_second v.0 w.0 x (in_second x h)) ∙ map_agrees (glue v.0 w.0) (glue v.0 u.0) n (within x h) ∙ on_second v.0 u.0 x (in_second x h)) ∙ sym u.2

-- a row, if there are some
some_row : (rows : List (List ℕ)) → ¬ (rows ≡ []) → (r : List ℕ) × (r ∈ rows)
some_row [] n = absurd (n refl)
some_row (r ∷ rows) n = (r, here refl)

-- no rows
none_told : (tables : List NumberTable) (marks : List Bool) (patterns : List Pattern) (kept : List ℕ) (r : NumberTable) → r ≡ record { width = length kept; rows = [] } → ((t : List ℕ) → ¬ (IsMatchRow tables marks patterns kept t)) → HasMatchRows tables marks patterns kept r
none_told tables marks patterns kept r e n = rw e (record {
  width = refl;
  ascend = λ i j d h k. absurd (omega (arith, h, k));
  exact = λ t. ((λ m. elim m [ ]), (λ q. absurd (n t q)));
})

nothing_in : {Z : Type 0} {t : List ℕ} (rows : List (List ℕ)) → rows ≡ [] → t ∈ rows → Z
nothing_in [] e m = elim m [ ]
nothing_in (r ∷ rows) e m = absurd (cc e)

-- ---- the product of two parts, whichever of them has too many rows

module _ (most : ℕ) (left right : Part) (kept places : List ℕ) (known : kept ⊆ (left.variables.items ++ right.variables.items)) (is : places ≡ map (first_place (left.variables.items ++ right.variables.items)) kept) where
  pub both_known : (lefts rights : NumberTable) (result : Result (Option NumberTable) AllocError) → left.rows ≡ Some lefts → right.rows ≡ Some rights
      → IfOk result (λ o. MatchOption o (MoreThan most (Crosses lefts.rows rights.rows places)) (RowsExactly (length places) (Crosses lefts.rows rights.rows places)))
      → IfOk result (IsProduct most left right kept)
  both_known lefts rights (Err x) l r k = tt
  both_known lefts rights (Ok o) l r k = λ tables marks first second shown a b apart in_left_kept in_right_kept.
      let by_left : HasMatchRows tables marks first left.variables.items lefts = rw l at a.gives in
      let by_right : HasMatchRows tables marks second right.variables.items rights = rw r at b.gives in
      let same = cross_told tables marks first second left.variables.items right.variables.items kept places apart a.known b.known known is lefts rights by_left by_right in
      let long : length places ≡ length kept = ap length is ∙ length-map kept (first_place (left.variables.items ++ right.variables.items)) in
      told_from tables marks (first ++ second) kept most (Crosses lefts.rows rights.rows places) (Ok o) same (subst (λ (n : ℕ). MatchOption o (MoreThan most (Crosses lefts.rows rights.rows places)) (RowsExactly n (Crosses lefts.rows rights.rows places))) long k)

  pub left_known : (lefts : NumberTable) (o : Option NumberTable) → left.rows ≡ Some lefts → right.rows ≡ None
      → MatchOption o (¬ (lefts.rows ≡ [])) (λ r. (lefts.rows ≡ []) × (r ≡ record { width = length kept; rows = [] })) → IsProduct most left right kept o
  left_known lefts None l r k tables marks first second shown a b apart in_left_kept in_right_kept =
      let by_left : HasMatchRows tables marks first left.variables.items lefts = rw l at a.gives in
      let more : MoreThan most (IsMatchRow tables marks second right.variables.items) = rw r at b.gives in
      let one = some_row lefts.rows k in
      more_second tables marks first second left.variables.items right.variables.items kept places apart a.known b.known known is most one.0 in_right_kept ((by_left.exact one.0).0 one.1) more
  left_known lefts (Some t) l r k tables marks first second shown a b apart in_left_kept in_right_kept =
      let by_left : HasMatchRows tables marks first left.variables.items lefts = rw l at a.gives in
      none_told tables marks (first ++ second) kept t k.1 (λ row q. nothing_in lefts.rows k.0 ((by_left.exact (map q.0 left.variables.items)).1 (q.0, (λ p m. q.1 p (in_left second m)), refl)))

  pub right_known : (rights : NumberTable) (o : Option NumberTable) → left.rows ≡ None → right.rows ≡ Some rights
      → MatchOption o (¬ (rights.rows ≡ [])) (λ r. (rights.rows ≡ []) × (r ≡ record { width = length kept; rows = [] })) → IsProduct most left right kept o
  right_known rights None l r k tables marks first second shown a b apart in_left_kept in_right_kept =
      let by_right : HasMatchRows tables marks second right.variables.items rights = rw r at b.gives in
      let more : MoreThan most (IsMatchRow tables marks first left.variables.items) = rw l at a.gives in
      let one = some_row rights.rows k in
      more_first tables marks first second left.variables.items right.variables.items kept places apart a.known b.known known is most one.0 in_left_kept more ((by_right.exact one.0).0 one.1)
  right_known rights (Some t) l r k tables marks first second shown a b apart in_left_kept in_right_kept =
      let by_right : HasMatchRows tables marks second right.variables.items rights = rw r at b.gives in
      none_told tables marks (first ++ second) kept t k.1 (λ row q. nothing_in rights.rows k.0 ((by_right.exact (map q.0 right.variables.items)).1 (q.0, (λ p m. q.1 p (in_right first m)), refl)))

  pub none_known : left.rows ≡ None → right.rows ≡ None → IsProduct most left right kept None
  none_known l r tables marks first second shown a b apart in_left_kept in_right_kept =
      let ml : MoreThan most (IsMatchRow tables marks first left.variables.items) = rw l at a.gives in
      let mr : MoreThan most (IsMatchRow tables marks second right.variables.items) = rw r at b.gives in
      let one = some_row mr.some (λ e. let h = mr.more in absurd (omega (arith, h, ap length e))) in
      more_first tables marks first second left.variables.items right.variables.items kept places apart a.known b.known known is most one.0 in_left_kept ml (mr.each one.0 one.1)

pub few_beside : (o : Option NumberTable) (most width : ℕ) (P : Type 0) (Q : NumberTable → Type 0) → MatchOption o P (λ r. Q r × (r ≡ record { width = width; rows = [] })) → IfSome o (λ r. length r.rows ≤ most)
few_beside None most width P Q k = tt
few_beside (Some r) most width P Q k = let e = ap (λ (t : NumberTable). length t.rows) k.1 in omega (arith, e)

-- ---- parts

-- a variable that is needed by patterns alone
pub needed_there : (patterns : List Pattern) (x : ℕ) → IsVariableNeeded patterns [] x → x ∈ variables_of_patterns patterns
needed_there patterns x n = elim n [ inl l ↦ l | inr w ↦ nothing w ]
  where
    nothing : {Z : Type 0} → x ∈ [] → Z
    nothing m = elim m [ ]

-- a part's rows are as wide as its variables are many
pub part_wide : (tables : List NumberTable) (marks : List Bool) (most : ℕ) (patterns : List Pattern) (shown : List ℕ) (p : Part) → IsPartOf tables marks most patterns shown p → IsWide p
part_wide tables marks most patterns shown p k = wide p.variables.items p.rows k.gives
  where
    wide : (variables : List ℕ) (o : Option NumberTable) → GivesRows tables marks most patterns variables o → IfSome o (λ r. r.width ≡ length variables)
    wide variables None g = tt
    wide variables (Some r) g = g.width

pub part_none : (tables : List NumberTable) (marks : List Bool) (most : ℕ) (shown : List ℕ) (p : Part) → p.variables.items ≡ [] → p.rows ≡ Some (record { width = 0; rows = [] ∷ [] }) → IsPartOf tables marks most [] shown p
part_none tables marks most shown p v r = record {
  gives = rw (v, r) (record { width = refl; ascend = λ i j d h k. absurd (omega (arith, h, k)); exact = λ t. ((λ m. ((λ x. x), (λ a k. nothing2 k), only t m)), (λ k. here (sym k.2))) });
  known = λ x m. nothing3 (rw v at m);
  wanted = λ x m. nothing3 (rw v at m);
  all = λ x m s. nothing3 m;
  once = rw v tt;
}
  where
    nothing2 : {Z : Type 0} {a : Pattern} → a ∈ [] → Z
    nothing2 m = elim m [ ]

    nothing3 : {Z : Type 0} {x : ℕ} → x ∈ [] → Z
    nothing3 m = elim m [ ]

    only : (t : List ℕ) → t ∈ ([] ∷ []) → t ≡ []
    only t (here e) = sym e
    only t (there m) = elim m [ ]

variables_append : (first second : List Pattern) → variables_of_patterns (first ++ second) ≡ variables_of_patterns first ++ variables_of_patterns second
variables_append [] second = refl
variables_append (p ∷ first) second = ap (λ (l : List ℕ). p.variables.items ++ l) (variables_append first second) ∙ sym (append_assoc p.variables.items (variables_of_patterns first) (variables_of_patterns second))

-- the variables of two parts are distinct and shown, so they are few
pub few_both : (left right shown : List ℕ) → Distinct left → Distinct right → ((x : ℕ) → x ∈ left → ¬ (x ∈ right)) → left ⊆ shown → right ⊆ shown → length (left ++ right) ≤ length shown
few_both left right shown d e n l r = no_longer (left ++ right) shown (distinct_append left right d e n) (λ x m. elim (from_append left m) [ inl a ↦ l x a | inr b ↦ r x b ])

pub part_grows : (tables : List NumberTable) (marks : List Bool) (most : ℕ) (patterns : List Pattern) (shown : List ℕ) (old more new : Part) → new.variables.items ≡ old.variables.items ++ more.variables.items
    → IsPartOf tables marks most patterns shown more → IsProduct most old more new.variables.items new.rows → PartGrows tables marks most patterns shown old new
part_grows tables marks most patterns shown old more new v b product first a apart =
    let into : (old.variables.items ++ more.variables.items) ⊆ new.variables.items = λ x m. subst (λ (l : List ℕ). x ∈ l) (sym v) m in
    record {
      gives = product tables marks first patterns shown a b apart (λ x m. into x (in_left more.variables.items m)) (λ x m. into x (in_right old.variables.items m));
      known = λ x m. subst (λ (l : List ℕ). x ∈ l) (sym (variables_append first patterns)) (elim (from_append old.variables.items (rw v at m)) [
        | inl l ↦ in_left (variables_of_patterns patterns) (a.known x l)
        | inr r ↦ in_right (variables_of_patterns first) (b.known x r)
      ]);
      wanted = λ x m. elim (from_append old.variables.items (rw v at m)) [ inl l ↦ a.wanted x l | inr r ↦ b.wanted x r ];
      all = λ x m s. into x (elim (from_append (variables_of_patterns first) (rw (variables_append first patterns) at m)) [
        | inl l ↦ in_left more.variables.items (a.all x l s)
        | inr r ↦ in_right old.variables.items (b.all x r s)
      ]);
      once = rw v (distinct_append old.variables.items more.variables.items a.once b.once (λ x m k. apart x (a.known x m) (b.known x k)));
    }

-- ---- slices of patterns

-- some patterns after the first ones
abbrev pub slice : List Pattern → ℕ → ℕ → List Pattern
slice ps done n = take n (drop done ps)

take_slice : (ps : List Pattern) (done n : ℕ) → take (done + n) ps ≡ take done ps ++ slice ps done n
take_slice ps zero n = let e : 0 + n ≡ n = omega arith in ap (λ (k : ℕ). take k ps) e
take_slice [] (suc done) n = none (suc done + n) ∙ sym (none n)
  where
    none : (n : ℕ) → take {A = Pattern} n [] ≡ []
    none zero = refl
    none (suc n) = refl
take_slice (p ∷ ps) (suc done) n = let e : suc done + n ≡ suc (done + n) = omega arith in ap (λ (k : ℕ). take k (p ∷ ps)) e ∙ ap (λ (l : List Pattern). p ∷ l) (take_slice ps done n)

drop_in : {X : Type 0} (xs : List X) (n : ℕ) → drop n xs ⊆ xs
drop_in {X = X} xs n x m = subst (λ (l : List X). x ∈ l) (take-append-drop n xs) (in_right (take n xs) m)

take_in : {X : Type 0} (xs : List X) (n : ℕ) → take n xs ⊆ xs
take_in {X = X} xs n x m = subst (λ (l : List X). x ∈ l) (take-append-drop n xs) (in_left (drop n xs) m)

pub slice_in : (ps : List Pattern) (done n : ℕ) → slice ps done n ⊆ ps
slice_in ps done n p m = drop_in ps done p (take_in (drop done ps) n p m)

pub variables_in : (ps qs : List Pattern) → ps ⊆ qs → variables_of_patterns ps ⊆ variables_of_patterns qs
variables_in ps qs s x m = let k = from_flat_map (λ (p : Pattern). p.variables.items) ps m in in_flat_map (λ (p : Pattern). p.variables.items) (s k.0 k.1) k.2

pub slice_some : (ps : List Pattern) (done n : ℕ) → 0 < n → done < length ps → ¬ (slice ps done n ≡ [])
slice_some ps done n h k e = let a = ap length e in absurd (omega (arith, a, h, k, many ps done n))
  where
    many : (ps : List Pattern) (done n : ℕ) → 0 < n → done < length ps → 0 < length (slice ps done n)
    many [] done n h k = absurd (omega (arith, k))
    many (p ∷ ps) zero zero h k = absurd (omega (arith, h))
    many (p ∷ ps) zero (suc n) h k = omega arith
    many (p ∷ ps) (suc done) n h k = many ps done n h (omega (arith, k))

pub slice_few : (ps : List Pattern) (done n : ℕ) → length (variables_of_patterns (slice ps done n)) ≤ length (variables_of_patterns ps)
slice_few ps done n =
    let d = ap (λ (l : List Pattern). length (variables_of_patterns l)) (take-append-drop done ps) in
    let t = ap (λ (l : List Pattern). length (variables_of_patterns l)) (take-append-drop n (drop done ps)) in
    let a = ap length (variables_append (take done ps) (drop done ps)) in
    let b = ap length (variables_append (take n (drop done ps)) (drop n (drop done ps))) in
    omega (arith, d, t, a, b, length-append (variables_of_patterns (take done ps)) (variables_of_patterns (drop done ps)), length-append (variables_of_patterns (take n (drop done ps))) (variables_of_patterns (drop n (drop done ps))))

pub rest_all : (ps : List Pattern) (i : ℕ) → take (length ps - i) (drop i ps) ≡ drop i ps
rest_all ps i = take_all (length ps - i) (drop i ps) (omega (arith, length-drop i ps))

-- the loop over the ends of parts
module _ (tables : List NumberTable) (marks : List Bool) (most : ℕ) (ps : List Pattern) (shown : List ℕ) where
  pub start_apart : ShareNone (take 0 ps) (drop 0 ps)
  start_apart x m k = elim m [ ]

  pub part_apart : (done n : ℕ) (p : Part) → IsPartOf tables marks most (take done ps) shown p → ShareNone (take done ps) (drop done ps) → Each p.variables.items (λ x. ¬ (x ∈ variables_of_patterns (slice ps done n)))
  part_apart done n p k apart x m h = apart x (k.known x m) (variables_in (slice ps done n) (drop done ps) (take_in (drop done ps) n) x h)

  pub slice_apart : (done n : ℕ) → ShareNone (take done ps) (drop done ps) → ShareNone (take done ps) (slice ps done n)
  slice_apart done n apart x m h = apart x m (variables_in (slice ps done n) (drop done ps) (take_in (drop done ps) n) x h)

  -- one part more
  pub next_part : (done end : ℕ) (old new : Part) → done ≤ end → ShareNone (take done ps) (drop done ps) → PartGrows tables marks most (slice ps done (end - done)) shown old new
      → IsPartOf tables marks most (take done ps) shown old → IsPartOf tables marks most (take end ps) shown new
  next_part done end old new h apart grows k =
      let e : done + (end - done) ≡ end = omega (arith, h) in
      let s : take done ps ++ slice ps done (end - done) ≡ take end ps = sym (take_slice ps done (end - done)) ∙ ap (λ (n : ℕ). take n ps) e in
      subst (λ (l : List Pattern). IsPartOf tables marks most l shown new) s (grows (take done ps) k (slice_apart done (end - done) apart))

  pub next_apart : (done end : ℕ) → done ≤ end → ShareNone (take done ps) (drop done ps) → ShareNone (slice ps done (end - done)) (drop end ps) → ShareNone (take end ps) (drop end ps)
  next_apart done end h apart last x m k =
      let e : done + (end - done) ≡ end = omega (arith, h) in
      let s : take end ps ≡ take done ps ++ slice ps done (end - done) = ap (λ (n : ℕ). take n ps) (sym e) ∙ take_slice ps done (end - done) in
      let v : variables_of_patterns (take end ps) ≡ variables_of_patterns (take done ps) ++ variables_of_patterns (slice ps done (end - done)) = ap variables_of_patterns s ∙ variables_append (take done ps) (slice ps done (end - done)) in
      elim (from_append (variables_of_patterns (take done ps)) (rw v at m)) [
        | inl l ↦ apart x l (variables_in (drop end ps) (drop done ps) (later done end h) x k)
        | inr r ↦ last x r k
      ]
    where
      later : (done end : ℕ) → done ≤ end → drop end ps ⊆ drop done ps
      later done end h = go ps done end h
        where
          go : (qs : List Pattern) (done end : ℕ) → done ≤ end → drop end qs ⊆ drop done qs
          go qs zero end h p m = drop_in qs end p m
          go qs (suc done) zero h p m = absurd (omega (arith, h))
          go [] (suc done) (suc end) h p m = m
          go (q ∷ qs) (suc done) (suc end) h p m = go qs done end (omega (arith, h)) p m

  -- the last part
  rest_is : (done : ℕ) → done ≤ length ps → take done ps ++ slice ps done (length ps - done) ≡ ps
  rest_is done h = ap (λ (l : List Pattern). take done ps ++ l) (rest_all ps done) ∙ take-append-drop done ps

  pub last_within : (done : ℕ) (old last : Part) → done ≤ length ps → IsPartOf tables marks most (take done ps) shown old → IsPartOf tables marks most (slice ps done (length ps - done)) shown last
      → shown ⊆ variables_of_patterns ps → shown ⊆ (old.variables.items ++ last.variables.items)
  last_within done old last h a b s x m =
      let v : variables_of_patterns (take done ps) ++ variables_of_patterns (slice ps done (length ps - done)) ≡ variables_of_patterns ps = sym (variables_append (take done ps) (slice ps done (length ps - done))) ∙ ap variables_of_patterns (rest_is done h) in
      elim (from_append (variables_of_patterns (take done ps)) (subst (λ (l : List ℕ). x ∈ l) (sym v) (s x m))) [
        | inl l ↦ in_left last.variables.items (a.all x l m)
        | inr r ↦ in_right old.variables.items (b.all x r m)
      ]

  pub last_gives : (done : ℕ) (old last : Part) (result : Result (Option NumberTable) AllocError) → done ≤ length ps → IsPartOf tables marks most (take done ps) shown old → IsPartOf tables marks most (slice ps done (length ps - done)) shown last
      → ShareNone (take done ps) (drop done ps) → IfOk result (IsProduct most old last shown)
      → IfOk result (λ o. MatchOption o (MoreThan most (IsMatchRow tables marks ps shown)) (λ r. HasMatchRows tables marks ps shown r))
  last_gives done old last (Err x) h a b apart k = tt
  last_gives done old last (Ok o) h a b apart k =
      subst (λ (l : List Pattern). GivesRows tables marks most l shown o) (rest_is done h)
      (k tables marks (take done ps) (slice ps done (length ps - done)) shown a b (slice_apart done (length ps - done) apart) a.wanted b.wanted)

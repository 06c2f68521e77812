-- Partial matches, pattern by pattern.
use Rattle.std.proofs.Common.{◌≡◌, ◌↔◌, ◌⊎◌, ◌∙◌, ◌<◌, ◌≤◌, ◌+◌, ◌++◌, ◌∷◌, ◌^◌, ℕ, List, [], Bool, refl, sym, ap, subst, arith, length, get_or, take, drop, inl, inr, Result, Ok, Err, Option, None, Some}
use Rattle.std.specs.Prelude.{IfOk, IfSome, MatchOption}
use Rattle.std.specs.declared.alloc.AllocError.{AllocError}
use Rattle.std.proofs.lemmas.List.{length-append, drop_more}
use Rattle.dx_base.specs.Members.{◌∈◌, ◌⊆◌, here, there, Distinct}
use Rattle.dx_base.proofs.Members.{in_left, in_right, from_append}
use Rattle.dx_instance.specs.Cells.{NumberTable}
use Rattle.dx_instance.specs.Shown.{numbers_of_table}
use Rattle.dx_joins.specs.declared.pattern.Pattern.{Pattern}
use Rattle.dx_joins.specs.declared.premise.Partial.{Partial}
use Rattle.dx_joins.specs.declared.plan.Plan.{Plan}
use Rattle.dx_joins.specs.Collecting.{RowsExactly, Collection, CollectsRows, MoreThan}
use Rattle.dx_joins.specs.Joining.{variables_of_patterns}
use Rattle.dx_joins.specs.Planning.{HoldsPartialMatches, IsVariableNeeded, IsMatchRow, PairsWith, StepsTo, HasMatchRows}
use Rattle.dx_joins.proofs.Collections.{more_same}
use Rattle.dx_joins.proofs.Patterns.{all_but_last, split_length, step_to, to_step, variables_more}

nothing : {Z : Type 0} {t : List ℕ} → t ∈ [] → Z
nothing m = elim m [ ]

abbrev pub from_plan : List NumberTable → List Bool → Partial → Pattern → Plan → List ℕ → Type 0
from_plan T marks q p plan t = (r : List ℕ) × (r ∈ q.rows.rows) × PairsWith plan marks (numbers_of_table T p.table).rows r t

pub plan_steps : (T : List NumberTable) (marks : List Bool) (q : Partial) (p : Pattern) (plan : Plan) (kept : List ℕ) → plan.left.items ≡ q.variables.items → plan.right.items ≡ p.variables.items → plan.kept.items ≡ kept
    → (t : List ℕ) → from_plan T marks q p plan t ↔ StepsTo T marks q p kept t
plan_steps T marks q p plan kept l r k t = (
  (λ h. (h.0, h.1, h.2.0, h.2.1, h.2.2.marked, rw (← l, ← r, ← k) h.2.2.joined)),
  (λ (r0, rm, s, sm, mk, j). (r0, rm, (s, sm, record { marked = mk; joined = rw (l, r, k) j }))),
)

pub step_full : (start : Collection) (most : ℕ) (P Q : List ℕ → Type 0) → start.most ≡ most → start.rows ≡ [] → ((t : List ℕ) → P t → Q t) → MoreThan start.most (λ t. (t ∈ start.rows) ⊎ P t) → MoreThan most Q
step_full start most P Q e n s m =
    subst (λ (k : ℕ). MoreThan k Q) e (more_same start.most (λ t. (t ∈ start.rows) ⊎ P t) Q (λ t h. elim h [ inl l ↦ nothing (rw n at l) | inr p ↦ s t p ]) m)

pub step_done : (result : Result (Option NumberTable) AllocError) (start new : Collection) (most width : ℕ) (P Q : List ℕ → Type 0) → start.most ≡ most → start.width ≡ width → start.rows ≡ [] → ((t : List ℕ) → P t ↔ Q t) → CollectsRows start new P
    → IfOk result (λ o. MatchOption o (MoreThan new.most (λ t. t ∈ new.rows)) (λ r. RowsExactly new.width (λ t. t ∈ new.rows) r × (length r.rows ≤ new.most)))
    → IfOk result (λ o. MatchOption o (MoreThan most Q) (RowsExactly width Q))
step_done (Err e) start new most width P Q a b n s g k = tt
step_done (Ok None) start new most width P Q a b n s g k =
    subst (λ (m : ℕ). MoreThan m Q) (g.most ∙ a) (more_same new.most (λ t. t ∈ new.rows) Q (λ t h. elim ((g.exact t).0 h) [ inl l ↦ nothing (rw n at l) | inr p ↦ (s t).0 p ]) k)
step_done (Ok (Some r)) start new most width P Q a b n s g k = record {
  width = k.0.width ∙ g.width ∙ b;
  ascend = k.0.ascend;
  exact = λ t. (
    (λ m. elim ((g.exact t).0 ((k.0.exact t).0 m)) [ inl l ↦ nothing (rw n at l) | inr p ↦ (s t).0 p ]),
    (λ q. (k.0.exact t).1 ((g.exact t).1 (inr ((s t).1 q)))),
  );
}

-- no more rows than are wanted
pub few_rows : (result : Result (Option NumberTable) AllocError) (most bound : ℕ) (P : Type 0) (Q : NumberTable → Type 0) → most ≡ bound
    → IfOk result (λ o. MatchOption o P (λ r. Q r × (length r.rows ≤ most))) → IfOk result (λ o. IfSome o (λ r. length r.rows ≤ bound))
few_rows (Err e) most bound P Q is k = tt
few_rows (Ok None) most bound P Q is k = tt
few_rows (Ok (Some r)) most bound P Q is k = let l = k.1 in omega (arith, l, is)

shared_there : (T : List NumberTable) (marks : List Bool) (done later : List Pattern) (wanted : List ℕ) (p : Pattern) (q : Partial) → HoldsPartialMatches T marks done (p ∷ later) wanted q
    → (x : ℕ) → x ∈ variables_of_patterns done → x ∈ p.variables.items → x ∈ q.variables.items
shared_there T marks done later wanted p q c x m h = c.kept x m (inl (in_left (variables_of_patterns later) h))

pub carry_more : (T : List NumberTable) (marks : List Bool) (done later : List Pattern) (wanted names : List ℕ) (p : Pattern) (q next : Partial)
    → names ≡ q.variables.items ++ p.variables.items → next.variables.items ⊆ names → ((x : ℕ) → x ∈ names → IsVariableNeeded later wanted x → x ∈ next.variables.items) → Distinct next.variables.items
    → length next.variables.items ≤ length names → next.rows.width ≡ length next.variables.items → ((t : List ℕ) → (t ∈ next.rows.rows) ↔ StepsTo T marks q p next.variables.items t)
    → HoldsPartialMatches T marks done (p ∷ later) wanted q → HoldsPartialMatches T marks (done ++ p ∷ []) later wanted next
carry_more T marks done later wanted names p q next e some all once few wide is c =
    let shared = shared_there T marks done later wanted p q c in
    let known : next.variables.items ⊆ (q.variables.items ++ p.variables.items) = rw (← e) some in
    let more = variables_more done p in
    record {
      told = record {
        exact = λ t. (
          (λ m. step_to T marks done p q next.variables.items c.told shared known t ((is t).0 m)),
          (λ k. (is t).1 (to_step T marks done p q next.variables.items c.told shared known t k)),
        );
      };
      kept = λ x m n. all x (rw e (elim (from_append (variables_of_patterns done) (rw more at m)) [
        | inl l ↦ in_left p.variables.items (c.kept x l (elim n [ inl k ↦ inl (in_right p.variables.items k) | inr w ↦ inr w ]))
        | inr r ↦ in_right q.variables.items r
      ])) n;
      once = once;
      wide = wide;
      few = omega (arith, few, c.few, ap length e, length-append q.variables.items p.variables.items, ap length more, length-append (variables_of_patterns done) p.variables.items);
    }

pub carry_start : (T : List NumberTable) (marks : List Bool) (later : List Pattern) (wanted : List ℕ) (q : Partial) → q.variables.items ≡ [] → q.rows.rows ≡ [] ∷ [] → q.rows.width ≡ 0 → HoldsPartialMatches T marks [] later wanted q
carry_start T marks later wanted q v r w = record {
  told = rw (v, r) (record { exact = λ t. ((λ m. ((λ x. x), (λ a k. nothing2 k), only t m)), (λ k. here (sym k.2))) });
  kept = λ x m n. nothing3 m;
  once = rw v tt;
  wide = rw v w;
  few = rw v (omega arith);
}
  where
    nothing2 : {Z : Type 0} {a : Pattern} → a ∈ [] → Z
    nothing2 m = elim m [ ]

    nothing3 : {Z : Type 0} {x : ℕ} → x ∈ [] → Z
    nothing3 m = elim m [ ]

    only : (t : List ℕ) → t ∈ ([] ∷ []) → t ≡ []
    only t (here e) = sym e
    only t (there m) = elim m [ ]

-- after the last pattern
module _ (T : List NumberTable) (marks : List Bool) (patterns : List Pattern) (i : ℕ) (p : Pattern) (shown : List ℕ) (q : Partial) (h : i < length patterns) (l : length patterns ≤ i + 1) (e : p ≡ get_or patterns i p)
    (c : HoldsPartialMatches T marks (take i patterns) (drop i patterns) shown q) where
  later : drop i patterns ≡ p ∷ drop (i + 1) patterns
  later = drop_more patterns i p h ∙ ap (λ (a : Pattern). a ∷ drop (i + 1) patterns) (sym e)

  shared : (x : ℕ) → x ∈ variables_of_patterns (take i patterns) → x ∈ p.variables.items → x ∈ q.variables.items
  shared = shared_there T marks (take i patterns) (drop (i + 1) patterns) shown p q (rw (← later) c)

  pub last_known : shown ⊆ variables_of_patterns patterns → shown ⊆ (q.variables.items ++ p.variables.items)
  last_known s x m =
      let whole = all_but_last patterns i p h l e in
      let at : x ∈ (variables_of_patterns (take i patterns) ++ p.variables.items) = subst (λ (v : List ℕ). x ∈ v) (ap variables_of_patterns (sym whole) ∙ variables_more (take i patterns) p) (s x m) in
      elim (from_append (variables_of_patterns (take i patterns)) at) [ inl k ↦ in_left p.variables.items (c.kept x k (inr m)) | inr r ↦ in_right q.variables.items r ]

  pub last_told : shown ⊆ variables_of_patterns patterns → (t : List ℕ) → StepsTo T marks q p shown t ↔ IsMatchRow T marks patterns shown t
  last_told s t =
      let whole = all_but_last patterns i p h l e in
      rw (← whole) ((step_to T marks (take i patterns) p q shown c.told shared (last_known s) t), (to_step T marks (take i patterns) p q shown c.told shared (last_known s) t))

  pub room : length (variables_of_patterns patterns) < 2 ^ 32 → length q.variables.items + length p.variables.items < 2 ^ 32
  room s = let r = split_length patterns i p h e in omega (arith, r, c.few, s)

pub told_from : (T : List NumberTable) (marks : List Bool) (patterns : List Pattern) (shown : List ℕ) (most : ℕ) (Q : List ℕ → Type 0) (result : Result (Option NumberTable) AllocError) → ((t : List ℕ) → Q t ↔ IsMatchRow T marks patterns shown t)
    → IfOk result (λ o. MatchOption o (MoreThan most Q) (RowsExactly (length shown) Q))
    → IfOk result (λ o. MatchOption o (MoreThan most (IsMatchRow T marks patterns shown)) (λ r. HasMatchRows T marks patterns shown r))
told_from T marks patterns shown most Q (Err e) s k = tt
told_from T marks patterns shown most Q (Ok None) s k = more_same most Q (IsMatchRow T marks patterns shown) (λ t. (s t).0) k
told_from T marks patterns shown most Q (Ok (Some r)) s k = record { width = k.width; ascend = k.ascend; exact = λ t. ((λ m. (s t).0 ((k.exact t).0 m)), (λ q. (k.exact t).1 ((s t).1 q))) }

pub some_length : (ps : List Pattern) → ¬ (ps ≡ []) → 0 < length ps
some_length [] n = absurd (n refl)
some_length (p ∷ ps) n = omega arith

-- no list of rows is so long
pub never : (o : Option NumberTable) (Q : List ℕ → Type 0) (R : NumberTable → Type 0) → o ≡ None → MatchOption o (MoreThan 18446744073709551615 Q) R → ⊥
never None Q R e m = let a = m.more in let b = m.few in absurd (omega (arith, a, b))
never (Some r) Q R e m = absurd (cc e)

pub found : (o : Option NumberTable) (r : NumberTable) (P : Type 0) (R : NumberTable → Type 0) → o ≡ Some r → MatchOption o P R → R r
found None r P R e m = absurd (cc e)
found (Some s) r P R e m = let d : s ≡ r = cc e in subst R d m

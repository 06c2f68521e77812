-- Joins over values of any kind are those in which each number counts.
use Rattle.std.proofs.Common.{◌≡◌, ◌↔◌, ◌∙◌, ℕ, List, [], ◌∷◌, Bool, true, false, refl, sym, ap, subst, arith, length, replicate, Result, Ok, Err, Option, None, Some}
use Rattle.std.specs.Prelude.{IfOk, MatchOption}
use Rattle.std.specs.declared.alloc.AllocError.{AllocError}
use Rattle.std.proofs.lemmas.List.{get_or-replicate}
use Rattle.dx_base.specs.Members.{◌∈◌, ◌⊆◌, here, there}
use Rattle.dx_model.specs.declared.values.Value.{Value}
use Rattle.dx_instance.specs.Cells.{NumberTable, with_numbers}
use Rattle.dx_instance.specs.Shown.{PartsFit, numbers_of_table}
use Rattle.dx_joins.specs.declared.pattern.Pattern.{Pattern}
use Rattle.dx_joins.specs.Collecting.{RowsExactly, MoreThan}
use Rattle.dx_joins.specs.Joining.{variables_of_patterns}
use Rattle.dx_joins.specs.Planning.{IsMatchRow, HasMatchRows}
use Rattle.dx_joins.specs.Valued.{IsJoinRow}
use Rattle.dx_joins.proofs.Translating.{table_in}

told_joined : (S : List Value) (T : List NumberTable) (ps : List Pattern) (shown : List ℕ) → PartsFit S T → (t : List ℕ) → IsMatchRow T (replicate (length S) true) ps shown t ↔ IsJoinRow T ps shown t
told_joined S T ps shown fits t = (
  (λ w. (w.0, (λ p m. (w.1 p m).0), w.2)),
  (λ w. (w.0, (λ p m. (w.1 p m, λ n k. get_or-replicate (length S) n true false ((fits.each (numbers_of_table T p.table) (table_in T p.table _ (w.1 p m))).within _ (w.1 p m) n k))), w.2)),
)

pub result_joined : (S : List Value) (T : List NumberTable) (ps : List Pattern) (shown : List ℕ) (marks : List Bool) (most : ℕ) (result : Result (Option NumberTable) AllocError)
    → PartsFit S T → marks ≡ replicate (length S) true
    → IfOk result (λ o. MatchOption o (MoreThan most (IsMatchRow T marks ps shown)) (λ r. HasMatchRows T marks ps shown r))
    → IfOk result (λ o. MatchOption o (MoreThan most (IsJoinRow T ps shown)) (RowsExactly (length shown) (IsJoinRow T ps shown)))
result_joined S T ps shown marks most (Err e) fits is k = tt
result_joined S T ps shown marks most (Ok None) fits is k =
    let j = rw is at k in
    record { some = j.some; distinct = j.distinct; each = λ t m. (told_joined S T ps shown fits t).0 (j.each t m); more = j.more; few = j.few }
result_joined S T ps shown marks most (Ok (Some r)) fits is k =
    let j = rw is at k in
    record { width = j.width; ascend = j.ascend; exact = λ t. ((λ m. (told_joined S T ps shown fits t).0 ((j.exact t).0 m)), (λ w. (j.exact t).1 ((told_joined S T ps shown fits t).1 w))) }

nothing_shown : (shown : List ℕ) → shown ⊆ [] → shown ≡ []
nothing_shown [] s = refl
nothing_shown (x ∷ xs) s = elim (s x (here refl)) [ ]

none_joined : (T : List NumberTable) (ps : List Pattern) (shown : List ℕ) → ps ≡ [] → shown ≡ [] → (t : List ℕ) → (t ≡ []) ↔ IsJoinRow T ps shown t
none_joined T ps shown e s t = rw (e, s) ((λ q. ((λ x. x), (λ p m. elim m [ ]), q)), (λ w. w.2))

pub result_none : (T : List NumberTable) (ps : List Pattern) (shown : List ℕ) (most : ℕ) (result : Result (Option NumberTable) AllocError)
    → ps ≡ [] → shown ⊆ variables_of_patterns ps
    → IfOk result (λ o. MatchOption o (MoreThan most (λ t. t ≡ [])) (RowsExactly 0 (λ t. t ≡ [])))
    → IfOk result (λ o. MatchOption o (MoreThan most (IsJoinRow T ps shown)) (RowsExactly (length shown) (IsJoinRow T ps shown)))
result_none T ps shown most (Err e) is s k = tt
result_none T ps shown most (Ok None) is s k =
    let z = nothing_shown shown (rw is at s) in
    record { some = k.some; distinct = k.distinct; each = λ t m. (none_joined T ps shown is z t).0 (k.each t m); more = k.more; few = k.few }
result_none T ps shown most (Ok (Some r)) is s k =
    let z = nothing_shown shown (rw is at s) in
    record { width = rw z k.width; ascend = k.ascend; exact = λ t. ((λ m. (none_joined T ps shown is z t).0 ((k.exact t).0 m)), (λ w. (k.exact t).1 ((none_joined T ps shown is z t).1 w))) }

-- ---- no patterns

only_none : (t : List ℕ) → t ∈ ([] ∷ []) → t ≡ []
only_none t (here e) = sym e
only_none t (there m) = elim m [ ]

pub one_more : (most : ℕ) → most ≡ 0 → MoreThan most (λ (t : List ℕ). t ≡ [])
one_more most e = record {
  some = [] ∷ [];
  distinct = ((λ m. elim m [ ]), tt);
  each = only_none;
  more = omega (arith, e);
  few = omega arith;
}

pub one_alone : (old new : NumberTable) → old ≡ record { width = 0; rows = [] } → new ≡ with_numbers old [] → RowsExactly 0 (λ (t : List ℕ). t ≡ []) new
one_alone old new e d = subst (RowsExactly 0 (λ (t : List ℕ). t ≡ [])) (sym (d ∙ ap (λ (o : NumberTable). with_numbers o []) e)) (record {
  width = refl;
  ascend = λ i j d h k. absurd (omega (arith, h, k));
  exact = λ t. ((λ m. only_none t m), (λ q. here (sym q)));
})

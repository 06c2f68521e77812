-- Patterns, their variables, and assignments that agree on them.
use Rattle.std.proofs.Common.{◌≡◌, ◌⊎◌, ◌∙◌, ◌<◌, ◌≤◌, ◌+◌, ◌++◌, ◌∷◌, ℕ, zero, suc, cond, eqb, not, true, IsTrue, ◌↔◌, List, [], Bool, false, refl, sym, ap, subst, arith, length, get_or, take, inl, inr}
use Rattle.std.specs.Prelude.{map}
use Rattle.std.specs.List.{list_any}
use Rattle.std.proofs.lemmas.Bool.{false≢true, cases_Bool, eqb-true, eq-eqb, cond-true, cond-false}
use Rattle.std.proofs.lemmas.List.{length-append, take_more, take_all, append-nil, append_assoc}
use Rattle.dx_base.specs.Members.{◌∈◌, ◌⊆◌, here, there, Each}
use Rattle.dx_base.proofs.Members.{in_left, in_right, from_append, in_flat_map, from_flat_map, map_agrees, in_at, distinct_more}
use Rattle.dx_base.proofs.Tests.{map_same, to_any, from_any}
use Rattle.dx_instance.specs.Cells.{NumberTable}
use Rattle.dx_joins.specs.declared.pattern.Pattern.{Pattern}
use Rattle.dx_joins.specs.Joining.{MatchesPatterns, MatchesPattern, HasRowsWith, variables_of_patterns}
use Rattle.dx_joins.specs.Products.{ShareNone}
use Rattle.dx_joins.specs.declared.premise.Partial.{Partial}
use Rattle.dx_joins.specs.Planning.{AddsOnce, IsMatchRow, StepsTo}

pub in_pattern : (x : ℕ) (p : Pattern) (ps : List Pattern) → p ∈ ps → x ∈ p.variables.items → x ∈ variables_of_patterns ps
in_pattern x p ps m h = in_flat_map (λ (q : Pattern). q.variables.items) m h

-- whether some of the patterns has a variable of the first ones: if not, they share none
pub none_shared : (r : Bool) (first others : List Pattern) → (IsTrue r ↔ ((p : Pattern) × (p ∈ others) × ((x : ℕ) × (x ∈ p.variables.items) × (x ∈ variables_of_patterns first)))) → IsTrue (not r) ↔ ShareNone first others
none_shared r first others h = (apart r h.1, none r h.0)
  where
    apart : (b : Bool) → (((p : Pattern) × (p ∈ others) × ((x : ℕ) × (x ∈ p.variables.items) × (x ∈ variables_of_patterns first))) → IsTrue b) → IsTrue (not b) → ShareNone first others
    apart true k t = absurd (false≢true t)
    apart false k t = λ x m n. let s = from_flat_map (λ (p : Pattern). p.variables.items) others n in absurd (false≢true (k (s.0, s.1, (x, s.2, m))))

    none : (b : Bool) → (IsTrue b → ((p : Pattern) × (p ∈ others) × ((x : ℕ) × (x ∈ p.variables.items) × (x ∈ variables_of_patterns first)))) → ShareNone first others → IsTrue (not b)
    none true k s = let w = k refl in absurd (s w.2.0 w.2.2 (in_pattern w.2.0 w.0 others w.1 w.2.1))
    none false k s = refl

pub variables_more : (done : List Pattern) (p : Pattern) → variables_of_patterns (done ++ p ∷ []) ≡ variables_of_patterns done ++ p.variables.items
variables_more [] p = append-nil p.variables.items
variables_more (q ∷ done) p = ap (λ (l : List ℕ). q.variables.items ++ l) (variables_more done p) ∙ sym (append_assoc q.variables.items (variables_of_patterns done) p.variables.items)

pub split_length : (ps : List Pattern) (i : ℕ) (p : Pattern) → i < length ps → p ≡ get_or ps i p → length (variables_of_patterns (take i ps)) + length p.variables.items ≤ length (variables_of_patterns ps)
split_length [] i p h e = absurd (omega arith)
split_length (q ∷ ps) zero p h e = let n = length-append q.variables.items (variables_of_patterns ps) in rw e (omega (arith, n))
split_length (q ∷ ps) (suc i) p h e =
    let r = split_length ps i p (omega arith) e in
    omega (arith, r, length-append q.variables.items (variables_of_patterns ps), length-append q.variables.items (variables_of_patterns (take i ps)))

pub all_but_last : (ps : List Pattern) (i : ℕ) (p : Pattern) → i < length ps → length ps ≤ i + 1 → p ≡ get_or ps i p → take i ps ++ p ∷ [] ≡ ps
all_but_last ps i p h l e = ap (λ (q : Pattern). take i ps ++ q ∷ []) e ∙ sym (take_more ps i p h) ∙ take_all (i + 1) ps l

-- one assignment on some variables, and another elsewhere
abbrev pub mixed : List ℕ → (ℕ → ℕ) → (ℕ → ℕ) → ℕ → ℕ
mixed live f g x = cond (list_any (eqb x) live) (f x) (g x)

pub mixed_on : (live : List ℕ) (f g : ℕ → ℕ) (x : ℕ) → x ∈ live → mixed live f g x ≡ f x
mixed_on live f g x m = cond-true (list_any (eqb x) live) (f x) (g x) (to_any (eqb x) live m (eq-eqb x x refl))

pub decide_in : (x : ℕ) (live : List ℕ) → (x ∈ live) ⊎ (list_any (eqb x) live ≡ false)
decide_in x live = elim (cases_Bool (list_any (eqb x) live)) [
  | inl t ↦ let r = from_any (eqb x) live t in inl (subst (λ (y : ℕ). y ∈ live) (sym (eqb-true x r.0 r.2)) r.1)
  | inr f ↦ inr f
]

pub stands_same : (T : List NumberTable) (marks : List Bool) (f g : ℕ → ℕ) (p : Pattern) → ((x : ℕ) → x ∈ p.variables.items → g x ≡ f x) → MatchesPattern T marks f p → MatchesPattern T marks g p
stands_same T marks f g p s h = rw (map_same g f p.variables.items s) h

module _ (T : List NumberTable) (marks : List Bool) (done : List Pattern) (p : Pattern) (q : Partial) (kept : List ℕ)
    (told : HasRowsWith (MatchesPatterns T marks done) q.variables.items q.rows.rows) (shared : (x : ℕ) → x ∈ variables_of_patterns done → x ∈ p.variables.items → x ∈ q.variables.items)
    (known : kept ⊆ (q.variables.items ++ p.variables.items)) where
  -- one pattern more
  pub step_to : (t : List ℕ) → StepsTo T marks q p kept t → IsMatchRow T marks (done ++ p ∷ []) kept t
  step_to t (r, rm, s, sm, mk, j) =
      let w = (told.exact r).0 rm in
      let live = q.variables.items ++ p.variables.items in
      let n = mixed live j.numbers w.0 in
      let left : map j.numbers q.variables.items ≡ map w.0 q.variables.items = sym j.first ∙ w.2 in
      let old : (x : ℕ) → x ∈ variables_of_patterns done → n x ≡ w.0 x = λ x m. elim (decide_in x live) [
        | inl k ↦ mixed_on live j.numbers w.0 x k ∙ map_agrees j.numbers w.0 left (elim (from_append q.variables.items k) [ inl l ↦ l | inr h ↦ shared x m h ])
        | inr f ↦ cond-false (list_any (eqb x) live) (j.numbers x) (w.0 x) f
      ] in
      let right : map n p.variables.items ≡ s = map_same n j.numbers p.variables.items (λ x m. mixed_on live j.numbers w.0 x (in_right q.variables.items m)) ∙ sym j.second in
      let here_stands : MatchesPattern T marks n p = rw right (sm, mk) in
      let last : (a : Pattern) → a ∈ (p ∷ []) → MatchesPattern T marks n a = λ a m. only n a m here_stands in (
        n,
        (λ a m. elim (from_append done m) [ inl l ↦ stands_same T marks w.0 n a (λ x h. old x (in_pattern x a done l h)) (w.1 a l) | inr k ↦ last a k ]),
        j.whole ∙ sym (map_same n j.numbers kept (λ x m. mixed_on live j.numbers w.0 x (known x m))),
      )
    where
      only : (n : ℕ → ℕ) (a : Pattern) → a ∈ (p ∷ []) → MatchesPattern T marks n p → MatchesPattern T marks n a
      only n a (here e) h = subst (λ (b : Pattern). MatchesPattern T marks n b) e h
      only n a (there m) h = elim m [ ]

  pub to_step : (t : List ℕ) → IsMatchRow T marks (done ++ p ∷ []) kept t → StepsTo T marks q p kept t
  to_step t (n, says, e) =
      let st = says p (in_right done (here refl)) in
      (map n q.variables.items, (told.exact (map n q.variables.items)).1 (n, (λ a m. says a (in_left (p ∷ []) m)), refl), map n p.variables.items, st.0, st.1, record { numbers = n; first = refl; second = refl; whole = e })

pub adds_nothing : (old : List ℕ) (x : ℕ) → x ∈ old → AddsOnce old old x
adds_nothing old x m = record { all = λ y. (inl, λ k. elim k [ inl l ↦ l | inr e ↦ subst (λ (z : ℕ). z ∈ old) (sym e) m ]); once = λ d. d; few = omega arith }

pub adds_one : (old : List ℕ) (x : ℕ) → ¬ (x ∈ old) → AddsOnce old (old ++ x ∷ []) x
adds_one old x n = record {
  all = λ y. ((λ m. elim (from_append old m) [ inl l ↦ inl l | inr r ↦ inr (last y r) ]), (λ k. elim k [ inl l ↦ in_left (x ∷ []) l | inr e ↦ in_right old (here (sym e)) ]));
  once = λ d. distinct_more old x d n;
  few = omega (arith, length-append old (x ∷ []));
}
  where
    last : (y : ℕ) → y ∈ (x ∷ []) → y ≡ x
    last y (here e) = sym e
    last y (there m) = elim m [ ]

pub need_more : (names kept new : List ℕ) (P : ℕ → Type 0) (i x : ℕ) → i < length names → x ≡ get_or names i 0 → AddsOnce kept new x
    → ((y : ℕ) → y ∈ take i names → P y → y ∈ kept) → (y : ℕ) → y ∈ take (i + 1) names → P y → y ∈ new
need_more names kept new P i x h e a all y m p = elim (from_append (take i names) (rw (take_more names i 0 h) at m)) [
  | inl l ↦ (a.all y).1 (inl (all y l p))
  | inr r ↦ (a.all y).1 (inr (last r ∙ sym e))
]
  where
    last : y ∈ (get_or names i 0 ∷ []) → y ≡ get_or names i 0
    last (here d) = sym d
    last (there k) = elim k [ ]

pub need_none : (names kept : List ℕ) (P : ℕ → Type 0) (i : ℕ) → i < length names → ¬ (P (get_or names i 0))
    → ((y : ℕ) → y ∈ take i names → P y → y ∈ kept) → (y : ℕ) → y ∈ take (i + 1) names → P y → y ∈ kept
need_none names kept P i h n all y m p = elim (from_append (take i names) (rw (take_more names i 0 h) at m)) [ inl l ↦ all y l p | inr r ↦ absurd (n (last r)) ]
  where
    last : y ∈ (get_or names i 0 ∷ []) → P (get_or names i 0)
    last (here d) = subst P (sym d) p
    last (there k) = elim k [ ]

pub only_more : (P : ℕ → Type 0) (kept new : List ℕ) (x : ℕ) → P x → AddsOnce kept new x → Each kept P → Each new P
only_more P kept new x p a only y m = elim ((a.all y).0 m) [ inl l ↦ only y l | inr q ↦ subst P (sym q) p ]

pub some_more : (names kept new : List ℕ) (i x : ℕ) → i < length names → x ≡ get_or names i 0 → AddsOnce kept new x → kept ⊆ names → new ⊆ names
some_more names kept new i x h e a s y m = elim ((a.all y).0 m) [ inl l ↦ s y l | inr q ↦ subst (λ (z : ℕ). z ∈ names) (sym (q ∙ e)) (in_at names i 0 h) ]

-- What collections gain.
use Rattle.std.proofs.Common.{◌≡◌, ◌↔◌, ◌⊎◌, ◌∙◌, ◌<◌, ◌++◌, ◌∷◌, ◌^◌, ℕ, List, [], Bool, true, false, refl, sym, ap, subst, arith, take, inl, inr}
use Rattle.std.specs.Prelude.{nat_lt}
use Rattle.std.proofs.lemmas.Bool.{ltb-true}
use Rattle.std.proofs.lemmas.List.{length-take-le}
use Rattle.dx_base.specs.Members.{◌∈◌, ◌⊆◌, here, there}
use Rattle.dx_base.proofs.Members.{in_left, in_right, from_append}
use Rattle.dx_model.proofs.Lists.{from_take}
use Rattle.dx_instance.specs.Cells.{NumberTable, with_numbers}
use Rattle.dx_instance.proofs.SortFacts.{distinct_numbers}
use Rattle.dx_joins.specs.Collecting.{Collection, Collects, FirstAscend, CollectsRows, MoreThan}

pub gains_nothing : (c : Collection) (P : List ℕ → Type 0) → ((t : List ℕ) → ¬ (P t)) → CollectsRows c c P
gains_nothing c P n = record { width = refl; most = refl; exact = λ t. (inl, λ m. elim m [ inl l ↦ l | inr p ↦ absurd (n t p) ]) }

pub gains_old : (c : Collection) (row : List ℕ) → row ∈ c.rows → CollectsRows c c (λ t. t ≡ row)
gains_old c row m = record { width = refl; most = refl; exact = λ t. (inl, λ q. elim q [ inl l ↦ l | inr e ↦ subst (λ (x : List ℕ). x ∈ c.rows) (sym e) m ]) }

pub gains_same : (old new : Collection) (P Q : List ℕ → Type 0) → ((t : List ℕ) → P t ↔ Q t) → CollectsRows old new P → CollectsRows old new Q
gains_same old new P Q s g = record {
  width = g.width;
  most = g.most;
  exact = λ t. (
    (λ m. elim ((g.exact t).0 m) [ inl l ↦ inl l | inr p ↦ inr ((s t).0 p) ]),
    (λ m. elim m [ inl l ↦ (g.exact t).1 (inl l) | inr q ↦ (g.exact t).1 (inr ((s t).1 q)) ]),
  );
}

pub gains_then : (old mid new : Collection) (P Q R : List ℕ → Type 0) → ((t : List ℕ) → (P t ⊎ Q t) ↔ R t) → CollectsRows old mid P → CollectsRows mid new Q → CollectsRows old new R
gains_then old mid new P Q R s g h = record {
  width = h.width ∙ g.width;
  most = h.most ∙ g.most;
  exact = λ t. (
    (λ m. elim ((h.exact t).0 m) [
      | inr q ↦ inr ((s t).0 (inr q))
      | inl k ↦ elim ((g.exact t).0 k) [ inl l ↦ inl l | inr p ↦ inr ((s t).0 (inl p)) ]
    ]),
    (λ m. elim m [
      | inl l ↦ (h.exact t).1 (inl ((g.exact t).1 (inl l)))
      | inr r ↦ elim ((s t).1 r) [ inl p ↦ (h.exact t).1 (inl ((g.exact t).1 (inr p))) | inr q ↦ (h.exact t).1 (inr q) ]
    ]),
  );
}

pub more_same : (most : ℕ) (P Q : List ℕ → Type 0) → ((t : List ℕ) → P t → Q t) → MoreThan most P → MoreThan most Q
more_same most P Q s m = record { some = m.some; distinct = m.distinct; each = λ t k. s t (m.each t k); more = m.more; few = m.few }

pub more_then : (old mid : Collection) (P Q R : List ℕ → Type 0) → ((t : List ℕ) → P t → R t) → ((t : List ℕ) → Q t → R t) → CollectsRows old mid P → MoreThan mid.most (λ t. (t ∈ mid.rows) ⊎ Q t)
    → MoreThan old.most (λ t. (t ∈ old.rows) ⊎ R t)
more_then old mid P Q R f h g m =
    let e : mid.most ≡ old.most = g.most in
    subst (λ (n : ℕ). MoreThan n (λ t. (t ∈ old.rows) ⊎ R t)) e (more_same mid.most _ _ (λ t k. elim k [
      | inr q ↦ inr (h t q)
      | inl l ↦ elim ((g.exact t).0 l) [ inl o ↦ inl o | inr p ↦ inr (f t p) ]
    ]) m)

pub collects_more : (full : Bool) (old new : Collection) (P Q : List ℕ → Type 0) → ((t : List ℕ) → P t ↔ Q t) → Collects full old new P → Collects full old new Q
collects_more true old new P Q s m = more_same old.most _ _ (λ t k. elim k [ inl l ↦ inl l | inr p ↦ inr ((s t).0 p) ]) m
collects_more false old new P Q s g = gains_same old new P Q s g

last_in : {X : Type 0} {x y : X} → x ∈ (y ∷ []) → x ≡ y
last_in (here e) = sym e
last_in (there m) = elim m [ ]

-- a row that was pushed, once the rows are settled
pub pushed : (full : Bool) (most width n : ℕ) (old rows : List (List ℕ)) (row : List ℕ) → full ≡ nat_lt most n → n < 2 ^ 32 → FirstAscend n rows → ((old ++ row ∷ []) ⊆ rows) × (rows ⊆ (old ++ row ∷ []))
    → Collects full (record { width = width; most = most; rows = old }) (record { width = width; most = most; rows = rows }) (λ t. t ≡ row)
pushed true most width n old rows row e small f s = record {
  some = take n rows;
  distinct = distinct_numbers (take n rows) f.1;
  each = λ t m. elim (from_append old (s.1 t (from_take n rows m))) [ inl l ↦ inl l | inr r ↦ inr (last_in r) ];
  more = let k = ltb-true most n (sym e) in omega (arith, k, length-take-le n rows f.0);
  few = omega (arith, small, length-take-le n rows f.0);
}
pushed false most width n old rows row e small f s = record {
  width = refl;
  most = refl;
  exact = λ t. (
    (λ m. elim (from_append old (s.1 t m)) [ inl l ↦ inl l | inr r ↦ inr (last_in r) ]),
    (λ m. s.0 t (elim m [ inl l ↦ in_left (row ∷ []) l | inr q ↦ in_right old (here (sym q)) ])),
  );
}

pub pushed_is : (most n : ℕ) (c : Collection) (old mid new : NumberTable) (row : List ℕ) → (let o : Collection = record { width = old.width; most = most; rows = old.rows } in o) ≡ c → mid ≡ with_numbers old row
    → (mid.rows ⊆ new.rows) × (new.rows ⊆ mid.rows) → new.width ≡ mid.width → FirstAscend n new.rows → n < 2 ^ 32
    → Collects (nat_lt most n) c (record { width = new.width; most = most; rows = new.rows }) (λ t. t ≡ row)
pushed_is most n c old mid new row e put same wide f small =
    let is = subst (λ (rs : List (List ℕ)). (rs ⊆ new.rows) × (new.rows ⊆ rs)) (ap (λ (t : NumberTable). t.rows) put) same in
    let w : new.width ≡ old.width = wide ∙ ap (λ (t : NumberTable). t.width) put in
    let done = pushed (nat_lt most n) most old.width n old.rows new.rows row refl small f is in
    subst (λ (o : Collection). Collects (nat_lt most n) o (record { width = new.width; most = most; rows = new.rows }) (λ t. t ≡ row)) e
    (subst (λ (k : ℕ). Collects (nat_lt most n) (record { width = old.width; most = most; rows = old.rows }) (record { width = k; most = most; rows = new.rows }) (λ t. t ≡ row)) (sym w) done)

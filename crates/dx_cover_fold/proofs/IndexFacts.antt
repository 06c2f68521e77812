-- Indexes of lists of numbers, place by place.
use Rattle.std.proofs.Common.{◌≡◌, ℕ, ◌+◌, Bool, true, false, cond, List, [], ◌∷◌, Option, Some, None, refl, sym, ◌∙◌, ap, subst, inl, inr, add-one, nat_eq}
use Rattle.std.specs.Prelude.{◌⊎◌, not}
use Rattle.std.specs.Option.{is_some, option_copied, option_or}
use denote.Ref.{Bor}
use Rattle.std.specs.List.{find}
use Rattle.std.specs.Cmp.Lexicographic.{pointwise, bytes_decides}
use Rattle.std.specs.Map.{lookup}
use Rattle.std.proofs.lemmas.Bool.{cases_Bool, false≢true, true≢false}
use Rattle.std.proofs.lemmas.List.Folds.{find-append}
use Rattle.smallvec.specs.SmallVec.{SmallVec}
use Rattle.dx_base.proofs.Lists.{none_or_some}
use Rattle.dx_model.specs.Covers.{below}

-- a key is found by its numbers
abbrev pub has_numbers : List ℕ → SmallVec ℕ → Bool
has_numbers q e = pointwise nat_eq q e.items

-- the entries have for each list of numbers the first place below n that has it
abbrev pub IndexedBelow : (ℕ → List ℕ) → List (SmallVec ℕ × ℕ) → ℕ → Type 0
IndexedBelow row entries n = (q : List ℕ) → lookup (has_numbers q) entries ≡ find (λ l. pointwise nat_eq q (row l)) (below n)

or_none : (o : Option ℕ) → option_or o None ≡ o
or_none None = refl
or_none (Some x) = refl

itself : (q : List ℕ) → pointwise nat_eq q q ≡ true
itself q = (bytes_decides q q).1 refl

exact : (q r : List ℕ) → pointwise nat_eq q r ≡ true → q ≡ r
exact q r = (bytes_decides q r).0

pub none_indexed : (row : ℕ → List ℕ) → IndexedBelow row [] 0
none_indexed row q = refl

-- numbers that are there
pub indexed_kept : (row : ℕ → List ℕ) (entries : List (SmallVec ℕ × ℕ)) (n w : ℕ) → lookup (has_numbers (row n)) entries ≡ Some w → IndexedBelow row entries n → IndexedBelow row entries (n + 1)
indexed_kept row entries n w e h = rw (add-one n) (λ q. h q ∙ sym (find-append (λ l. pointwise nat_eq q (row l)) (below n) (n ∷ []) ∙ rest q (none_or_some (find (λ l. pointwise nat_eq q (row l)) (below n)))))
  where
    rest : (q : List ℕ) → (find (λ l. pointwise nat_eq q (row l)) (below n) ≡ None) ⊎ ((x : ℕ) × (find (λ l. pointwise nat_eq q (row l)) (below n) ≡ Some x))
        → option_or (find (λ l. pointwise nat_eq q (row l)) (below n)) (find (λ l. pointwise nat_eq q (row l)) (n ∷ [])) ≡ find (λ l. pointwise nat_eq q (row l)) (below n)
    rest q (inr s) = rw s.1 refl
    rest q (inl s) = elim (cases_Bool (pointwise nat_eq q (row n))) [
      | inl t ↦ absurd (
          let d : q ≡ row n = exact q (row n) t in
          let f : lookup (has_numbers q) entries ≡ Some w = subst (λ (z : List ℕ). lookup (has_numbers z) entries ≡ Some w) (sym d) e in
          let k = h q in
          cc)
      | inr f ↦ rw (s, f) refl
    ]

-- numbers that are put in
pub indexed_put : (row : ℕ → List ℕ) (entries new : List (SmallVec ℕ × ℕ)) (n : ℕ) → lookup (has_numbers (row n)) entries ≡ None
    → ((q : SmallVec ℕ) → lookup (has_numbers q.items) new ≡ cond (pointwise nat_eq (row n) q.items) (Some n) (lookup (has_numbers q.items) entries)) → IndexedBelow row entries n → IndexedBelow row new (n + 1)
indexed_put row entries new n e put h =
    rw (add-one n) (λ q. put (record { items = q; capacity = 0 }) ∙ sym (find-append (λ l. pointwise nat_eq q (row l)) (below n) (n ∷ []) ∙ ap (λ z. option_or z (find (λ l. pointwise nat_eq q (row l)) (n ∷ []))) (sym (h q)) ∙ last q))
  where
    last : (q : List ℕ) → option_or (lookup (has_numbers q) entries) (find (λ l. pointwise nat_eq q (row l)) (n ∷ [])) ≡ cond (pointwise nat_eq (row n) q) (Some n) (lookup (has_numbers q) entries)
    last q = elim (cases_Bool (pointwise nat_eq (row n) q)) [
      | inl t ↦
          let d : row n ≡ q = exact (row n) q t in
          let none : lookup (has_numbers q) entries ≡ None = subst (λ (z : List ℕ). lookup (has_numbers z) entries ≡ None) d e in
          let self : pointwise nat_eq q (row n) ≡ true = subst (λ (z : List ℕ). pointwise nat_eq z (row n) ≡ true) d (itself (row n)) in
          rw (t, none, self) refl
      | inr f ↦
          let apart : pointwise nat_eq q (row n) ≡ false = elim (cases_Bool (pointwise nat_eq q (row n))) [
            | inl t ↦ absurd (true≢false (sym (subst (λ (z : List ℕ). pointwise nat_eq z q ≡ true) (exact q (row n) t) (itself q)) ∙ f))
            | inr g ↦ g
          ] in
          rw (f, apart) (or_none (lookup (has_numbers q) entries))
    ]

-- what a look-up answers
pub absent : (q : List ℕ) (entries : List (SmallVec ℕ × ℕ)) (o : Option (Bor ℕ)) (b : Bool)
    → option_copied o ≡ lookup (has_numbers q) entries → is_some o ≡ not b → b ≡ true → lookup (has_numbers q) entries ≡ None
absent q entries None b e s t = sym e
absent q entries (Some x) b e s t = absurd (true≢false (s ∙ ap not t))

pub present : (q : List ℕ) (entries : List (SmallVec ℕ × ℕ)) (o : Option (Bor ℕ)) (b : Bool)
    → option_copied o ≡ lookup (has_numbers q) entries → is_some o ≡ not b → b ≡ false → (w : ℕ) × (lookup (has_numbers q) entries ≡ Some w)
present q entries None b e s t = absurd (false≢true (s ∙ ap not t))
present q entries (Some x) b e s t = (x.now, sym e)

-- The numbers of existential variables, and nulls that are added one by one.
use Rattle.std.proofs.Common.{◌≡◌, ℕ, suc, ◌+◌, ◌<◌, cond, List, [], ◌∷◌, ◌++◌, length, get_or, drop, sym, ◌∙◌, ap, inl, inr, arith, max}
use Rattle.std.specs.Prelude.{◌↔◌, ◌⊎◌, nat_lt}
use Rattle.std.proofs.lemmas.Bool.{cases_Bool, cases_lt, lt-ltb, ltb-true}
use Rattle.std.proofs.lemmas.List.{drop_more}
use Rattle.dx_base.specs.Members.{◌∈◌, here, there}
use Rattle.dx_base.proofs.Members.{from_append, in_left, in_right}
use Rattle.dx_model.specs.declared.values.NullId.{NullId}
use Rattle.dx_model.specs.declared.rules.Cell.{Cell}
use Rattle.dx_model.specs.declared.rules.Cell.TheVariants.{Var, Ex, Lit}
use Rattle.dx_model.specs.declared.rules.Atom.{Atom}
use Rattle.dx_model.specs.Rules.{cells_of}
use Rattle.dx_model.specs.Covers.{after_existential}
use Rattle.dx_cover_fold.specs.Folding.{IsNullFor}

greater : (v n : ℕ) → cond (nat_lt v n) n (suc v) ≡ max (suc v) n
greater v n = elim (cases_lt v n) [
  | inl l ↦ rw (lt-ltb v n l) (omega arith)
  | inr g ↦ elim (cases_Bool (nat_lt v n)) [ inl t ↦ absurd (omega (arith, ltb-true v n t)) | inr f ↦ rw f (omega arith) ]
]

after_append : (xs ys : List Cell) → after_existential (xs ++ ys) ≡ max (after_existential xs) (after_existential ys)
after_append [] ys = omega arith
after_append (Var x ∷ xs) ys = after_append xs ys
after_append (Ex v ∷ xs) ys =
    let r = after_append xs ys in
    let a = greater v (after_existential (xs ++ ys)) in
    let b = greater v (after_existential xs) in
    omega (arith, r, a, b)
after_append (Lit t ∷ xs) ys = after_append xs ys

pub atoms_more : (atoms : List Atom) (i : ℕ) (a : Atom) (next after : ℕ) → i < length atoms → a ≡ get_or atoms i a → after ≡ max next (after_existential a.cells)
    → max next (after_existential (cells_of (drop i atoms))) ≡ after_existential (cells_of atoms) → max after (after_existential (cells_of (drop (i + 1) atoms))) ≡ after_existential (cells_of atoms)
atoms_more atoms i a next after lt is e inv =
    let d : drop i atoms ≡ a ∷ drop (i + 1) atoms = drop_more atoms i a lt ∙ ap (λ z. z ∷ drop (i + 1) atoms) (sym is) in
    let w : after_existential (cells_of (drop i atoms)) ≡ max (after_existential a.cells) (after_existential (cells_of (drop (i + 1) atoms))) =
    ap (λ z. after_existential (cells_of z)) d ∙ after_append a.cells (cells_of (drop (i + 1) atoms)) in
    omega (arith, w, e, inv)

-- ---- nulls

last_is : {X : Type 0} (x y : X) → x ∈ (y ∷ []) → x ≡ y
last_is x y (here e) = sym e
last_is x y (there m) = elim m [ ]

pub null_more : (old nulls new : List NullId) (rule var r : ℕ) (k : NullId) → k ≡ record { rule = rule; var = var; row = r } → new ≡ nulls ++ k ∷ []
    → ((n : NullId) → (n ∈ nulls) ↔ ((n ∈ old) ⊎ IsNullFor rule var r n)) → (n : NullId) → (n ∈ new) ↔ ((n ∈ old) ⊎ IsNullFor rule var (r + 1) n)
null_more old nulls new rule var r k is e inv n = rw (e, is) (forth, back)
  where
    forth : n ∈ (nulls ++ record { rule = rule; var = var; row = r } ∷ []) → (n ∈ old) ⊎ IsNullFor rule var (r + 1) n
    forth m = elim (from_append nulls m) [
      | inl l ↦ elim ((inv n).0 l) [ inl o ↦ inl o | inr h ↦ inr (record { rule_is = h.rule_is; var_is = h.var_is; place = let b = h.place in omega arith }) ]
      | inr l ↦ let d = last_is n (record { rule = rule; var = var; row = r }) l in
          inr (record { rule_is = ap (λ (z : NullId). z.rule) d; var_is = ap (λ (z : NullId). z.var) d; place = let b : n.row ≡ r = ap (λ (z : NullId). z.row) d in omega arith })
    ]

    back : (n ∈ old) ⊎ IsNullFor rule var (r + 1) n → n ∈ (nulls ++ record { rule = rule; var = var; row = r } ∷ [])
    back (inl o) = in_left _ ((inv n).1 (inl o))
    back (inr h) = elim (cases_lt n.row r) [
      | inl l ↦ in_left _ ((inv n).1 (inr (record { rule_is = h.rule_is; var_is = h.var_is; place = l })))
      | inr g ↦
          let b : r ≡ n.row = let q = h.place in omega arith in
          let p = h.rule_is in
          let q = h.var_is in
          in_right nulls (here (λ i. record { rule = sym p i; var = sym q i; row = b i }))
    ]

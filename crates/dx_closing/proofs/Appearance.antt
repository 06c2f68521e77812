-- Whether existential variables are numbered by first appearance.
use Rattle.std.proofs.Common.{◌≡◌, ℕ, zero, suc, ◌+◌, ◌<◌, true, false, List, [], ◌∷◌, ◌++◌, length, get_or, drop, take, refl, sym, ◌∙◌, ap, subst, inl, inr, arith}
use Rattle.std.specs.Prelude.{flat_map}
use Rattle.std.proofs.lemmas.List.{append-nil, take_more}
use Rattle.std.proofs.lemmas.List.Concat.{flat_map-append}
use Rattle.dx_model.specs.declared.rules.Cell.{Cell}
use Rattle.dx_model.specs.declared.rules.Cell.TheVariants.{Var, Ex, Lit}
use Rattle.dx_model.specs.declared.rules.Atom.{Atom}
use Rattle.dx_model.specs.Rules.{cells_of, existential_in, existentials}
use Rattle.dx_model.specs.Fitting.{AreNumbered, ByFirstAppearance}
use Rattle.dx_closing.proofs.Numbers.{above_numbered, existentials-more}
use Rattle.dx_logical.proofs.Facts.{numbered_further}
use Rattle.dx_closing.proofs.Numbered.{existentials-push}

-- what is numbered has its first part numbered, and the others from there on
numbered_parts : (n m : ℕ) (xs ys : List ℕ) → ByFirstAppearance n (xs ++ ys) m → (k : ℕ) × ByFirstAppearance n xs k × ByFirstAppearance k ys m
numbered_parts n m [] ys h = (n, refl, h)
numbered_parts n m (x ∷ xs) ys h = elim h [
  | inl l ↦ let r = numbered_parts n m xs ys l.1 in (r.0, inl (l.0, r.1), r.2)
  | inr s ↦ let r = numbered_parts (suc n) m xs ys s.1 in (r.0, inr (s.0, r.1), r.2)
]

-- numbered are those after a first part that is numbered up to k
rest_numbered : (n k m : ℕ) (xs ys : List ℕ) → ByFirstAppearance n xs k → ByFirstAppearance n (xs ++ ys) m → ByFirstAppearance k ys m
rest_numbered n k m xs ys a h =
    let r = numbered_parts n m xs ys h in
    let e : r.0 ≡ k = sym (above_numbered n r.0 xs r.1) ∙ above_numbered n k xs a in
    rw e at r.2

-- and so for a part in the middle
middle_numbered : (n k m : ℕ) (xs ys zs : List ℕ) → ByFirstAppearance n xs k → ByFirstAppearance n (xs ++ (ys ++ zs)) m → (l : ℕ) × ByFirstAppearance k ys l
middle_numbered n k m xs ys zs a h =
    let r = numbered_parts k m ys zs (rest_numbered n k m xs (ys ++ zs) a h) in
    (r.0, r.1)

-- a list with the item at a place in its middle
split_at : {X : Type 0} (xs : List X) (i : ℕ) (x : X) → i < length xs → x ≡ get_or xs i x → xs ≡ take i xs ++ (x ∷ drop (i + 1) xs)
split_at [] i x h e = absurd (omega arith)
split_at (y ∷ ys) zero x h e = rw e refl
split_at (y ∷ ys) (suc i) x h e = let d : suc i + 1 ≡ suc (i + 1) = omega arith in rw d (ap (λ zs. y ∷ zs) (split_at ys i x (omega arith) e))

next_to : {X : Type 0} (xs : List X) (i : ℕ) (x : X) → i < length xs → x ≡ get_or xs i x → take (i + 1) xs ≡ take i xs ++ (x ∷ [])
next_to xs i x h e = rw (← e) at (take_more xs i x h)

-- ---- cells

pub next_numbered : (k l v : ℕ) (x : Cell) → x ≡ Ex v → v ≡ k → l ≡ k + 1 → ByFirstAppearance k (existential_in x) l
next_numbered k l v x e d f = rw e (inr (d, omega arith))

pub known_numbered : (k l v : ℕ) (x : Cell) → x ≡ Ex v → v < k → l ≡ k → ByFirstAppearance k (existential_in x) l
known_numbered k l v x e d f = rw e (inl (d, sym f))

pub none_numbered : (k l : ℕ) (x : Cell) → ((v : ℕ) → ¬ (x ≡ Ex v)) → l ≡ k → ByFirstAppearance k (existential_in x) l
none_numbered k l (Var y) h f = sym f
none_numbered k l (Ex v) h f = absurd (h v refl)
none_numbered k l (Lit t) h f = sym f

-- ---- steps of the loop over a row

pub row_more : (n k l i : ℕ) (row : List Cell) (x : Cell) → i < length row → x ≡ get_or row i x → ByFirstAppearance n (flat_map existential_in (take i row)) k → ByFirstAppearance k (existential_in x) l
    → ByFirstAppearance n (flat_map existential_in (take (i + 1) row)) l
row_more n k l i row x h e a b =
    let d : flat_map existential_in (take (i + 1) row) ≡ flat_map existential_in (take i row) ++ existential_in x =
    ap (flat_map existential_in) (next_to row i x h e) ∙ (flat_map-append existential_in (take i row) (x ∷ []) ∙ ap (λ xs. flat_map existential_in (take i row) ++ xs) (append-nil (existential_in x))) in
    subst (λ (xs : List ℕ). ByFirstAppearance n xs l) (sym d) (numbered_further n k l (flat_map existential_in (take i row)) (existential_in x) a b)

-- a variable above the next number skips one
pub skips : (n k v i : ℕ) (row : List Cell) (x : Cell) → i < length row → x ≡ get_or row i x → x ≡ Ex v → k < v → ByFirstAppearance n (flat_map existential_in (take i row)) k
    → (m : ℕ) × ByFirstAppearance n (flat_map existential_in row) m → false ≡ true
skips n k v i row x h e d s a w =
    let whole : flat_map existential_in row ≡ flat_map existential_in (take i row) ++ (existential_in (Ex v) ++ flat_map existential_in (drop (i + 1) row)) =
    ap (flat_map existential_in) (rw d at (split_at row i x h e)) ∙ flat_map-append existential_in (take i row) (Ex v ∷ drop (i + 1) row) in
    let r = middle_numbered n k w.0 (flat_map existential_in (take i row)) (existential_in (Ex v)) (flat_map existential_in (drop (i + 1) row)) a
    (subst (λ (xs : List ℕ). ByFirstAppearance n xs w.0) whole w.1) in
    elim r.1 [ inl l ↦ absurd (omega (arith, l.0, s)) | inr g ↦ absurd (omega (arith, g.0, s)) ]

-- ---- steps of the loop over atoms

pub atoms_more : (k l i : ℕ) (atoms : List Atom) (x : Atom) → i < length atoms → x ≡ get_or atoms i x → ByFirstAppearance 0 (existentials (take i atoms)) k → ByFirstAppearance k (flat_map existential_in x.cells) l
    → ByFirstAppearance 0 (existentials (take (i + 1) atoms)) l
atoms_more k l i atoms x h e a b =
    let d : existentials (take (i + 1) atoms) ≡ existentials (take i atoms) ++ flat_map existential_in x.cells =
    ap existentials (next_to atoms i x h e) ∙ existentials-push (take i atoms) x in
    subst (λ (xs : List ℕ). ByFirstAppearance 0 xs l) (sym d) (numbered_further 0 k l (existentials (take i atoms)) (flat_map existential_in x.cells) a b)

existentials-append : (C D : List Atom) → existentials (C ++ D) ≡ existentials C ++ existentials D
existentials-append C D = ap (flat_map existential_in) (flat_map-append (λ (a : Atom). a.cells) C D) ∙ flat_map-append existential_in (cells_of C) (cells_of D)

-- where all are numbered, those of the row at a place are
pub row_numbered_at : (k i : ℕ) (atoms : List Atom) (x : Atom) → i < length atoms → x ≡ get_or atoms i x → ByFirstAppearance 0 (existentials (take i atoms)) k → AreNumbered atoms
    → (l : ℕ) × ByFirstAppearance k (flat_map existential_in x.cells) l
row_numbered_at k i atoms x h e a w =
    let whole : existentials atoms ≡ existentials (take i atoms) ++ (flat_map existential_in x.cells ++ existentials (drop (i + 1) atoms)) =
    ap existentials (split_at atoms i x h e)
    ∙ (existentials-append (take i atoms) (x ∷ drop (i + 1) atoms) ∙ ap (λ xs. existentials (take i atoms) ++ xs) (existentials-more x (drop (i + 1) atoms))) in
    middle_numbered 0 k w.0 (existentials (take i atoms)) (flat_map existential_in x.cells) (existentials (drop (i + 1) atoms)) a
    (subst (λ (xs : List ℕ). ByFirstAppearance 0 xs w.0) whole w.1)

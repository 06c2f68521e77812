-- The numbers of existential variables.
use Rattle.std.proofs.Common.{◌≡◌, ℕ, suc, ◌+◌, ◌*◌, ◌<◌, ◌≤◌, List, [], ◌∷◌, ◌++◌, length, get_or, drop, refl, sym, ◌∙◌, ap, inl, inr, arith}
use Rattle.std.specs.Prelude.{flat_map, max}
use Rattle.std.proofs.lemmas.List.{drop_more, length-append}
use Rattle.std.proofs.lemmas.List.Concat.{flat_map-append}
use Rattle.dx_base.specs.Members.{◌∈◌, here, there, Each}
use Rattle.dx_base.proofs.Members.{in_flat_map, from_flat_map}
use Rattle.dx_model.specs.declared.rules.Cell.{Cell}
use Rattle.dx_model.specs.declared.rules.Cell.TheVariants.{Var, Ex, Lit}
use Rattle.dx_model.specs.declared.rules.Atom.{Atom}
use Rattle.dx_model.specs.Rules.{cells_of, existential_in, existentials}
use Rattle.dx_model.specs.Fitting.{ByFirstAppearance}
use Rattle.dx_model.proofs.Cells.{few_existentials}
use Rattle.dx_closing.specs.Closing.{above}
use Rattle.dx_closing.proofs.Steps.{in_item}

pub above-append : (n : ℕ) (xs ys : List ℕ) → above n (xs ++ ys) ≡ above (above n xs) ys
above-append n [] ys = refl
above-append n (x ∷ xs) ys = above-append (max n (suc x)) xs ys

-- of variables numbered by first appearance, the number after them
pub above_numbered : (n m : ℕ) (xs : List ℕ) → ByFirstAppearance n xs m → above n xs ≡ m
above_numbered n m [] k = k
above_numbered n m (x ∷ xs) k = elim k [
  | inl l ↦ let e : max n (suc x) ≡ n = omega (arith, l.0) in rw e (above_numbered n m xs l.1)
  | inr r ↦ let e : max n (suc x) ≡ suc n = omega (arith, r.0) in rw e (above_numbered (suc n) m xs r.1)
]

-- it is no greater than their count
pub numbered_few : (n m : ℕ) (xs : List ℕ) → ByFirstAppearance n xs m → (n ≤ m) × (m ≤ n + length xs)
numbered_few n m [] k = (omega (arith, k), omega (arith, k))
numbered_few n m (x ∷ xs) k = elim k [
  | inl l ↦ let r = numbered_few n m xs l.1 in (r.0, omega (arith, r.1))
  | inr s ↦ let r = numbered_few (suc n) m xs s.1 in (omega (arith, r.0), omega (arith, r.1))
]

-- and all of them are below it
pub numbered_below : (n m : ℕ) (xs : List ℕ) → ByFirstAppearance n xs m → Each xs (λ v. v < m)
numbered_below n m [] k v i = elim i [ ]
numbered_below n m (x ∷ xs) k v (here e) = elim k [
  | inl l ↦ let r = numbered_few n m xs l.1 in omega (arith, r.0, l.0, e)
  | inr s ↦ let r = numbered_few (suc n) m xs s.1 in omega (arith, r.0, s.0, e)
]
numbered_below n m (x ∷ xs) k v (there i) = elim k [ inl l ↦ numbered_below n m xs l.1 v i | inr s ↦ numbered_below (suc n) m xs s.1 v i ]

pub few_in_cell : (c : Cell) → length (existential_in c) ≤ 1
few_in_cell (Var x) = omega arith
few_in_cell (Ex v) = omega arith
few_in_cell (Lit t) = omega arith

pub existentials-more : (a : Atom) (C : List Atom) → existentials (a ∷ C) ≡ flat_map existential_in a.cells ++ existentials C
existentials-more a C = flat_map-append existential_in a.cells (cells_of C)

-- at most 64 for each atom
pub few_in_atoms : (C : List Atom) → Each C (λ a. length a.cells ≤ 64) → length (existentials C) ≤ 64 * length C
few_in_atoms [] h = omega arith
few_in_atoms (a ∷ C) h =
    let w = h a (here refl) in
    let r = few_existentials a.cells in
    let i = few_in_atoms C (λ b m. h b (there m)) in
    rw (existentials-more a C, length-append) (omega (arith, w, r, i))

-- ---- steps of loops

pub above_more : (n m : ℕ) (row : List Cell) (i whole : ℕ) (x : Cell) → i < length row → x ≡ get_or row i x → m ≡ above n (existential_in x)
    → above n (flat_map existential_in (drop i row)) ≡ whole → above m (flat_map existential_in (drop (i + 1) row)) ≡ whole
above_more n m row i whole x h e d k =
    let s : flat_map existential_in (drop i row) ≡ existential_in x ++ flat_map existential_in (drop (i + 1) row) = rw (drop_more row i x h, ← e) refl in
    let t : above n (flat_map existential_in (drop i row)) ≡ above (above n (existential_in x)) (flat_map existential_in (drop (i + 1) row)) =
    ap (above n) s ∙ above-append n (existential_in x) (flat_map existential_in (drop (i + 1) row)) in
    rw d (sym t ∙ k)

pub above_more_atoms : (n m : ℕ) (atoms : List Atom) (i whole : ℕ) (x : Atom) → i < length atoms → x ≡ get_or atoms i x → m ≡ above n (flat_map existential_in x.cells)
    → above n (existentials (drop i atoms)) ≡ whole → above m (existentials (drop (i + 1) atoms)) ≡ whole
above_more_atoms n m atoms i whole x h e d k =
    let s : existentials (drop i atoms) ≡ flat_map existential_in x.cells ++ existentials (drop (i + 1) atoms) =
    ap existentials (rw (← e) at (drop_more atoms i x h)) ∙ existentials-more x (drop (i + 1) atoms) in
    let t : above n (existentials (drop i atoms)) ≡ above (above n (flat_map existential_in x.cells)) (existentials (drop (i + 1) atoms)) =
    ap (above n) s ∙ above-append n (flat_map existential_in x.cells) (existentials (drop (i + 1) atoms)) in
    rw d (sym t ∙ k)

-- ---- members

-- the existential variable of a cell is one of the row
pub in_row : (row : List Cell) (i v : ℕ) (x : Cell) → i < length row → x ≡ get_or row i x → x ≡ Ex v → v ∈ flat_map existential_in row
in_row row i v x h e d = in_flat_map existential_in {x = Ex v} (in_item row i x (Ex v) h e d) (here refl)

-- and those of a row are of the atoms
pub in_atoms : (atoms : List Atom) (i : ℕ) (x : Atom) → i < length atoms → x ≡ get_or atoms i x → (v : ℕ) → v ∈ flat_map existential_in x.cells → v ∈ existentials atoms
in_atoms atoms i x h e v m =
    let r = from_flat_map existential_in x.cells {y = v} m in
    in_flat_map existential_in {x = r.0} (in_flat_map (λ (a : Atom). a.cells) {x = x} (in_item atoms i x x h e refl) r.1) r.2

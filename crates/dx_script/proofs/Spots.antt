-- Where the cells of a premise stand.
use Rattle.std.proofs.Common.{◌≡◌, ℕ, zero, suc, ◌+◌, ◌<◌, Bool, true, false, cond, eqb, List, [], ◌∷◌, length, get_or, refl, sym, ◌∙◌, ap, inl, inr, arith, ◌⊎◌}
use Rattle.std.specs.Prelude.{◌&&◌}
use Rattle.std.proofs.lemmas.Bool.{cases_Bool, eqb-true, eq-eqb, and_parts}
use Rattle.dx_model.specs.declared.rules.Cell.{Cell}
use Rattle.dx_model.specs.declared.rules.Cell.TheVariants.{Var, Ex, Lit}
use Rattle.dx_model.specs.declared.rules.Atom.{Atom}
use Rattle.dx_base.specs.Members.{◌∈◌, here, there}
use Rattle.dx_model.specs.Rules.{cells_of}
use Rattle.dx_base.proofs.Members.{in_left, in_right, from_append, in_flat_map, from_flat_map}
use Rattle.dx_schema.specs.Names.{TableNames}
use Rattle.dx_script.specs.declared.form.Equal.{Equal}
use Rattle.dx_script.specs.Names.{column_at}
use Rattle.dx_script.specs.Generated.{Spot, spots_of_cells, spots, is_variable, first_spot, shows, further, equals}

abbrev pub atom_at : List Atom → ℕ → Atom
atom_at atoms j = get_or atoms j (record { table = 0; cells = [] })

abbrev pub cell_in : List Cell → ℕ → Cell
cell_in cs c = get_or cs c (Ex 0)

-- the spot of a column of a row of cells
abbrev spot : List TableNames → ℕ → ℕ → ℕ → Cell → Spot
spot source alias table column c = record { alias = alias; column = column; name = column_at source table column; cell = c }

module _ (source : List TableNames) where
  from_cells : (alias table k : ℕ) (cs : List Cell) (s : Spot) → s ∈ spots_of_cells source alias table k cs
      → (j q : ℕ) × (q ≡ k + j) × (j < length cs) × (spot source alias table q (cell_in cs j) ≡ s)
  from_cells alias table k [] s m = elim m [ ]
  from_cells alias table k (c ∷ cs) s (here e) = (0, k, omega arith, omega arith, e)
  from_cells alias table k (c ∷ cs) s (there m) = let w = from_cells alias table (suc k) cs s m in (suc w.0, w.1, omega (arith, w.2), omega (arith, w.3), w.4)

  in_cells : (alias table k : ℕ) (cs : List Cell) (j q : ℕ) → q ≡ k + j → j < length cs → spot source alias table q (cell_in cs j) ∈ spots_of_cells source alias table k cs
  in_cells alias table k [] j q e h = absurd (omega arith)
  in_cells alias table k (c ∷ cs) zero q e h = here (let d : k ≡ q = omega arith in ap (λ x. spot source alias table x c) d)
  in_cells alias table k (c ∷ cs) (suc j) q e h = there (in_cells alias table (suc k) cs j q (omega arith) (omega arith))

  pub from_spots : (alias : ℕ) (atoms : List Atom) (s : Spot) → s ∈ spots source alias atoms
      → (j p c : ℕ) × (p ≡ alias + j) × (j < length atoms) × (c < length (atom_at atoms j).cells) × (spot source p (atom_at atoms j).table c (cell_in (atom_at atoms j).cells c) ≡ s)
  from_spots alias [] s m = elim m [ ]
  from_spots alias (a ∷ atoms) s m = elim (from_append (spots_of_cells source alias a.table 0 a.cells) m) [
    | inl l ↦ let w = from_cells alias a.table 0 a.cells s l in
        let e : w.1 ≡ w.0 = omega (arith, w.2) in
        (0, alias, w.0, omega arith, omega arith, w.3, rw e at w.4)
    | inr r ↦ let w = from_spots (suc alias) atoms s r in (suc w.0, w.1, w.2, omega (arith, w.3), omega (arith, w.4), w.5, w.6)
  ]

  pub in_spots : (alias : ℕ) (atoms : List Atom) (j p c : ℕ) → p ≡ alias + j → j < length atoms → c < length (atom_at atoms j).cells
      → spot source p (atom_at atoms j).table c (cell_in (atom_at atoms j).cells c) ∈ spots source alias atoms
  in_spots alias [] j p c e h k = absurd (omega arith)
  in_spots alias (a ∷ atoms) zero p c e h k = in_left (spots source (suc alias) atoms) (let d : p ≡ alias = omega arith in rw d (in_cells alias a.table 0 a.cells c c (omega arith) k))
  in_spots alias (a ∷ atoms) (suc j) p c e h k = in_right (spots_of_cells source alias a.table 0 a.cells) (in_spots (suc alias) atoms j p c (omega arith) (omega arith) k)

  standing_cells : (alias table k : ℕ) (cs : List Cell) (x : ℕ) → Var x ∈ cs → (s : Spot) × (s ∈ spots_of_cells source alias table k cs) × (s.cell ≡ Var x)
  standing_cells alias table k [] x m = elim m [ ]
  standing_cells alias table k (c ∷ cs) x (here e) = (spot source alias table k c, here refl, e)
  standing_cells alias table k (c ∷ cs) x (there m) = let w = standing_cells alias table (suc k) cs x m in (w.0, there w.1, w.2)

  pub standing_spots : (alias : ℕ) (atoms : List Atom) (x : ℕ) → Var x ∈ cells_of atoms → (s : Spot) × (s ∈ spots source alias atoms) × (s.cell ≡ Var x)
  standing_spots alias [] x m = elim m [ ]
  standing_spots alias (a ∷ atoms) x m = elim (from_append a.cells m) [
    | inl l ↦ let w = standing_cells alias a.table 0 a.cells x l in (w.0, in_left (spots source (suc alias) atoms) w.1, w.2)
    | inr r ↦ let w = standing_spots (suc alias) atoms x r in (w.0, in_right (spots_of_cells source alias a.table 0 a.cells) w.1, w.2)
  ]

pub is_variable-true : (x : ℕ) (c : Cell) → is_variable x c ≡ true → c ≡ Var x
is_variable-true x (Var y) e = ap Var (sym (eqb-true x y e))
is_variable-true x (Ex v) e = cc
is_variable-true x (Lit t) e = cc

pub is_variable-same : (x : ℕ) (c : Cell) → c ≡ Var x → is_variable x c ≡ true
is_variable-same x c e = rw e (eq-eqb x x refl)

pub first_stands : (x : ℕ) (ss : List Spot) (s : Spot) → s ∈ ss → s.cell ≡ Var x → (first_spot x ss ∈ ss) × ((first_spot x ss).cell ≡ Var x)
first_stands x [] s m e = elim m [ ]
first_stands x (t ∷ ss) s m e = elim (cases_Bool (is_variable x t.cell)) [
  | inl p ↦ rw p (here refl, is_variable-true x t.cell p)
  | inr f ↦ rw f (let w = first_stands x ss s (go f m) e in (there w.0, w.1))
]
  where
    go : is_variable x t.cell ≡ false → s ∈ (t ∷ ss) → s ∈ ss
    go f (here d) = let k : is_variable x t.cell ≡ true = is_variable-same x t.cell (ap (λ (z : Spot). z.cell) d ∙ e) in cc
    go f (there k) = k

-- what the list of equal cells says: each further cell of a variable is equal to its first one
pub from_equals : (all : List Spot) (e : Equal) → e ∈ equals all → (s : Spot) × (x : ℕ) × (s ∈ all) × (s.cell ≡ Var x) × (record { left = shows (first_spot x all); right = shows s } ≡ e)
from_equals all e m =
    let w = from_flat_map (λ (s : Spot). further all s s.cell) all m in
    let r = go w.0 w.0.cell refl w.2 in
    (w.0, r.0, w.1, r.1, r.2)
  where
    same : (f s : Spot) (b : Bool) → e ∈ cond b [] (record { left = shows f; right = shows s } ∷ []) → record { left = shows f; right = shows s } ≡ e
    same f s true m = elim m [ ]
    same f s false (here d) = d
    same f s false (there k) = elim k [ ]

    go : (s : Spot) (c : Cell) → s.cell ≡ c → e ∈ further all s c → (x : ℕ) × (s.cell ≡ Var x) × (record { left = shows (first_spot x all); right = shows s } ≡ e)
    go s (Var x) p m = (x, p, same (first_spot x all) s _ m)
    go s (Ex v) p m = elim m [ ]
    go s (Lit t) p m = elim m [ ]

pub in_equals : (all : List Spot) (s : Spot) (x : ℕ) → s ∈ all → s.cell ≡ Var x
    → (((first_spot x all).alias ≡ s.alias) × ((first_spot x all).column ≡ s.column)) ⊎ (record { left = shows (first_spot x all); right = shows s } ∈ equals all)
in_equals all s x m e =
    let f : Spot = first_spot x all in
    elim (cases_Bool (eqb f.alias s.alias && eqb f.column s.column)) [
      | inl t ↦ let w = and_parts _ _ t in inl (eqb-true f.alias s.alias w.0, eqb-true f.column s.column w.1)
      | inr n ↦ inr (in_flat_map (λ (z : Spot). further all z z.cell) m (rw (e, n) (here refl)))
    ]

-- What is met in a premise whose variables are numbered by first appearance.
use Rattle.std.proofs.Common.{◌≡◌, ℕ, suc, ◌+◌, ◌<◌, ◌≤◌, ◌⊎◌, true, false, eqb, List, [], ◌∷◌, ◌++◌, refl, sym, ◌∙◌, ap, subst, length, get_or, arith, append_assoc, inl, inr}
use Rattle.std.specs.Prelude.{map, flat_map, nat_lt, ◌&&◌}
use Rattle.std.proofs.lemmas.List.{append-nil, length-append, map-append, take_more, take-append-drop}
use Rattle.std.proofs.Common.{take, drop, add-one}
use Rattle.std.proofs.lemmas.Grind.{flat_map-append}
use Rattle.std.proofs.lemmas.Bool.{cases_Bool, eq-eqb, ne_eqb}
use Rattle.std.proofs.Math.Bool.{and-false}
use Rattle.dx_base.specs.Members.{◌∈◌, here, there}
use Rattle.dx_base.proofs.Members.{in_left, in_right, from_append}
use Rattle.dx_base.proofs.Tests.{flat_map_same, map_same}
use Rattle.dx_base.proofs.Lists.{cut_at}
use Rattle.dx_model.specs.declared.rules.Cell.{Cell}
use Rattle.dx_model.specs.declared.rules.Cell.TheVariants.{Var, Ex, Lit}
use Rattle.dx_model.specs.declared.rules.Atom.{Atom}
use Rattle.dx_model.specs.Covers.{below}
use Rattle.dx_model.specs.Rules.{cells_of}
use Rattle.dx_model.specs.declared.rules.Rule.{Rule}
use Rattle.dx_model.specs.Fitting.{IsRule, IsVariable, ByFirstAppearance, premise_variables, cell_variable}
use Rattle.dx_model.proofs.Lists.{from_below}
use Rattle.dx_schema.specs.Names.{TableNames}
use Rattle.dx_script.specs.Names.{column_at}
use Rattle.dx_script.specs.Generated.{Spot, spots_of_cells, spots, is_variable, first_spot, shows, equal_to, further, equals}
use Rattle.dx_script.proofs.NameFacts.{nat_lt_tells}
use Rattle.dx_script.proofs.Spots.{first_stands, is_variable-same, is_variable-true}
use Rattle.dx_script.proofs.Fitted.{at_below}
use Rattle.dx_scriptgen.specs.declared.premise.Premise.{Premise}
use Rattle.dx_scriptgen.specs.Premises.{met, met_cell, met_spots}

pub met_append : (xs ys : List Spot) (p : Premise) → met_spots (xs ++ ys) p ≡ met_spots ys (met_spots xs p)
met_append [] ys p = refl
met_append (x ∷ xs) ys p = met_append xs ys (met_cell (shows x) x.cell p)

-- ---- first cells

-- a variable that stands in a list has its first cell there
first_left : (x : ℕ) (xs ys : List Spot) (s : Spot) → s ∈ xs → s.cell ≡ Var x → first_spot x (xs ++ ys) ≡ first_spot x xs
first_left x [] ys s m e = elim m [ ]
first_left x (t ∷ xs) ys s m e = elim (cases_Bool (is_variable x t.cell)) [
  | inl p ↦ rw p refl
  | inr f ↦ rw f (first_left x xs ys s (go f m) e)
]
  where
    go : is_variable x t.cell ≡ false → s ∈ (t ∷ xs) → s ∈ xs
    go f (here d) = let k : is_variable x t.cell ≡ true = is_variable-same x t.cell (ap (λ (z : Spot). z.cell) d ∙ e) in cc
    go f (there k) = k

-- one that stands in none of a list has its first cell after it
first_right : (x : ℕ) (xs ys : List Spot) → ((s : Spot) → s ∈ xs → ¬ (s.cell ≡ Var x)) → first_spot x (xs ++ ys) ≡ first_spot x ys
first_right x [] ys n = refl
first_right x (t ∷ xs) ys n = elim (cases_Bool (is_variable x t.cell)) [
  | inl p ↦ absurd (n t (here refl) (is_variable-true x t.cell p))
  | inr f ↦ rw f (first_right x xs ys (λ s m. n s (there m)))
]

-- ---- places

-- a spot stands before a place
abbrev pub IsBefore : ℕ → ℕ → Spot → Type 0
IsBefore alias column s = (s.alias < alias) ⊎ ((s.alias ≡ alias) × (s.column < column))

-- what is known after the cells of a premise before a place
pub record Knows (done : List Spot) (rest : List ℕ) (m : ℕ) (p : Premise) : Type 0 where
  pub firsts : p.firsts ≡ map (λ x. shows (first_spot x done)) (below (length p.firsts))
  pub standing : (x : ℕ) → x < length p.firsts → (s : Spot) × (s ∈ done) × (s.cell ≡ Var x)
  pub few : (s : Spot) → s ∈ done → (x : ℕ) → s.cell ≡ Var x → x < length p.firsts
  pub equal : p.equal ≡ equals done
  pub numbered : ByFirstAppearance (length p.firsts) rest m

-- the equal cells of a list with one spot more, if first cells stay
equals_more : (done : List Spot) (s : Spot) → ((t : Spot) → t ∈ done → (x : ℕ) → t.cell ≡ Var x → first_spot x (done ++ s ∷ []) ≡ first_spot x done)
    → equals (done ++ s ∷ []) ≡ equals done ++ further (done ++ s ∷ []) s s.cell
equals_more done s h =
    flat_map-append (λ (z : Spot). further (done ++ s ∷ []) z z.cell) done (s ∷ [])
    ∙ (ap (λ z. z ++ flat_map (λ (t : Spot). further (done ++ s ∷ []) t t.cell) (s ∷ [])) (flat_map_same (λ (z : Spot). further (done ++ s ∷ []) z z.cell) (λ (z : Spot). further done z z.cell) done (λ t m. go t t.cell m refl))
    ∙ ap (λ z. equals done ++ z) (append-nil (further (done ++ s ∷ []) s s.cell)))
  where
    go : (t : Spot) (c : Cell) → t ∈ done → t.cell ≡ c → further (done ++ s ∷ []) t c ≡ further done t c
    go t (Var x) m e = ap (λ z. equal_to z t) (h t m x e)
    go t (Ex v) m e = refl
    go t (Lit u) m e = refl

-- a spot before a place is another than the one there
other_place : (s t : Spot) → IsBefore t.alias t.column s → (eqb s.alias t.alias && eqb s.column t.column) ≡ false
other_place s t (inl l) = rw (ne_eqb s.alias t.alias (λ e. omega (arith, e, l))) refl
other_place s t (inr l) = rw (ne_eqb s.column t.column (λ e. omega (arith, e, l.1))) (and-false (eqb s.alias t.alias))

same_place : (s : Spot) → (eqb s.alias s.alias && eqb s.column s.column) ≡ true
same_place s = rw (eq-eqb s.alias s.alias refl, eq-eqb s.column s.column refl) refl

-- ---- one cell more

module _ (done : List Spot) (s : Spot) (rest : List ℕ) (m x : ℕ) (p : Premise) (k : Knows done (x ∷ rest) m p) (is : s.cell ≡ Var x) (earlier : (z : Spot) → z ∈ done → IsBefore s.alias s.column z) where
  stays : (y : ℕ) → y < length p.firsts → first_spot y (done ++ s ∷ []) ≡ first_spot y done
  stays y h = let w = k.standing y h in first_left y done (s ∷ []) w.0 w.1 w.2

  all_stay : map (λ y. shows (first_spot y (done ++ s ∷ []))) (below (length p.firsts)) ≡ map (λ y. shows (first_spot y done)) (below (length p.firsts))
  all_stay = map_same (λ y. shows (first_spot y (done ++ s ∷ []))) (λ y. shows (first_spot y done)) (below (length p.firsts)) (λ y l. ap shows (stays y (from_below y (length p.firsts) l)))

  equal_grows : equals (done ++ s ∷ []) ≡ p.equal ++ further (done ++ s ∷ []) s (Var x)
  equal_grows =
      equals_more done s (λ t l y e. stays y (k.few t l y e))
      ∙ (ap (λ z. z ++ further (done ++ s ∷ []) s s.cell) (sym k.equal) ∙ ap (λ c. p.equal ++ further (done ++ s ∷ []) s c) is)

  known : x < length p.firsts → ByFirstAppearance (length p.firsts) rest m
      → Knows (done ++ s ∷ []) rest m (record { firsts = p.firsts; equal = p.equal ++ record { left = get_or p.firsts x (shows s); right = shows s } ∷ [] })
  known h numbers =
      let w = k.standing x h in
      let f = first_stands x done w.0 w.1 w.2 in
      let a : first_spot x (done ++ s ∷ []) ≡ first_spot x done = stays x h in
      let b : further (done ++ s ∷ []) s (Var x) ≡ record { left = shows (first_spot x done); right = shows s } ∷ [] =
      ap (λ z. equal_to z s) a ∙ rw (other_place (first_spot x done) s (earlier (first_spot x done) f.0)) refl in
      let c : get_or p.firsts x (shows s) ≡ shows (first_spot x done) =
      ap (λ z. get_or z x (shows s)) k.firsts ∙ at_below (λ y. shows (first_spot y done)) (length p.firsts) x (shows s) h in
      record {
        firsts = k.firsts ∙ sym all_stay;
        standing = λ y l. let q = k.standing y l in (q.0, in_left (s ∷ []) q.1, q.2);
        few = λ t l y e. elim (from_append done l) [
          | inl l ↦ k.few t l y e
          | inr l ↦ same y (last t l) e
        ];
        equal = sym (equal_grows ∙ ap (λ z. p.equal ++ z) (b ∙ ap (λ z. record { left = z; right = shows s } ∷ []) (sym c)));
        numbered = numbers;
      }
    where
      last : (t : Spot) → t ∈ (s ∷ []) → s ≡ t
      last t (here e) = e
      last t (there l) = elim l [ ]

      same : {t : Spot} (y : ℕ) → s ≡ t → t.cell ≡ Var y → y < length p.firsts
      same y q e = let v : Var x ≡ Var y = sym is ∙ (ap (λ (z : Spot). z.cell) q ∙ e) in let u : x ≡ y = cc in omega (arith, u, h)

  fresh : x ≡ length p.firsts → ByFirstAppearance (suc (length p.firsts)) rest m → Knows (done ++ s ∷ []) rest m (record { firsts = p.firsts ++ shows s ∷ []; equal = p.equal })
  fresh h numbers =
      let l : length (p.firsts ++ shows s ∷ []) ≡ suc (length p.firsts) = length-append p.firsts (shows s ∷ []) ∙ (omega arith) in
      let none : (t : Spot) → t ∈ done → ¬ (t.cell ≡ Var x) = λ t q e. let b = k.few t q x e in omega (arith, b, h) in
      let own : first_spot x (done ++ s ∷ []) ≡ s = first_right x done (s ∷ []) none ∙ rw (is, eq-eqb x x refl) refl in
      let a : map (λ y. shows (first_spot y (done ++ s ∷ []))) (below (suc (length p.firsts))) ≡ p.firsts ++ shows s ∷ [] =
      map-append (λ y. shows (first_spot y (done ++ s ∷ []))) (below (length p.firsts)) (length p.firsts ∷ [])
      ∙ (ap (λ z. z ++ shows (first_spot (length p.firsts) (done ++ s ∷ [])) ∷ []) (all_stay ∙ sym k.firsts)
      ∙ ap (λ z. p.firsts ++ shows z ∷ []) (ap (λ z. first_spot z (done ++ s ∷ [])) (sym h) ∙ own)) in
      let b : further (done ++ s ∷ []) s (Var x) ≡ [] = ap (λ z. equal_to z s) own ∙ rw (same_place s) refl in
      record {
        firsts = sym a ∙ ap (λ z. map (λ y. shows (first_spot y (done ++ s ∷ []))) (below z)) (sym l);
        standing = λ y q. elim (nat_lt_tells y (length p.firsts)) [
          | inl t ↦ let w = k.standing y t.1 in (w.0, in_left (s ∷ []) w.1, w.2)
          | inr t ↦ let e : x ≡ y = (let g = t.1 in omega (arith, g, q, l, h)) in (s, in_right done (here refl), is ∙ ap Var e)
        ];
        few = λ t q y e. elim (from_append done q) [
          | inl r ↦ let g = k.few t r y e in omega (arith, g, l)
          | inr r ↦ last t y r e l
        ];
        equal = sym (equal_grows ∙ (ap (λ z. p.equal ++ z) b ∙ append-nil p.equal));
        numbered = subst (λ z. ByFirstAppearance z rest m) (sym l) numbers;
      }
    where
      last : (t : Spot) (y : ℕ) → t ∈ (s ∷ []) → t.cell ≡ Var y → length (p.firsts ++ shows s ∷ []) ≡ suc (length p.firsts) → y < length (p.firsts ++ shows s ∷ [])
      last t y (here q) e l = let v : Var x ≡ Var y = sym is ∙ (ap (λ (z : Spot). z.cell) q ∙ e) in let u : x ≡ y = cc in omega (arith, u, l, h)
      last t y (there r) e l = elim r [ ]

  pub one_cell : Knows (done ++ s ∷ []) rest m (met x (shows s) p)
  one_cell = go k.numbered (nat_lt_tells x (length p.firsts))
    where
      go : ByFirstAppearance (length p.firsts) (x ∷ rest) m → ((nat_lt x (length p.firsts) ≡ true) × (x < length p.firsts)) ⊎ ((nat_lt x (length p.firsts) ≡ false) × (length p.firsts ≤ x)) → Knows (done ++ s ∷ []) rest m (met x (shows s) p)
      go (inl w) (inl t) = rw t.0 (known t.1 w.1)
      go (inl w) (inr t) = absurd (let g = t.1 in omega (arith, w.0, g))
      go (inr w) (inl t) = absurd (let g = t.1 in omega (arith, w.0, g))
      go (inr w) (inr t) = rw t.0 (fresh w.0 w.1)

-- ---- one atom more

abbrev pub AllBefore : ℕ → ℕ → List Spot → Type 0
AllBefore alias column done = (z : Spot) → z ∈ done → IsBefore alias column z

further_on : (alias column : ℕ) (done : List Spot) (s : Spot) → s.alias ≡ alias → s.column ≡ column → AllBefore alias column done → AllBefore alias (suc column) (done ++ s ∷ [])
further_on alias column done s a c h z m = elim (from_append done m) [
  | inl l ↦ elim (h z l) [ inl k ↦ inl k | inr k ↦ inr (k.0, let g = k.1 in omega arith) ]
  | inr l ↦ last l
]
  where
    last : z ∈ (s ∷ []) → IsBefore alias (suc column) z
    last (here e) = inr (ap (λ (t : Spot). t.alias) (sym e) ∙ a, let q : z.column ≡ s.column = ap (λ (t : Spot). t.column) (sym e) in omega (arith, q, c))
    last (there k) = elim k [ ]

module _ (source : List TableNames) (m : ℕ) where
  pub some_cells : (alias table column : ℕ) (cs : List Cell) (done : List Spot) (rest : List ℕ) (p : Premise) → ((c : Cell) → c ∈ cs → IsVariable c)
      → Knows done (flat_map cell_variable cs ++ rest) m p → AllBefore alias column done
      → Knows (done ++ spots_of_cells source alias table column cs) rest m (met_spots (spots_of_cells source alias table column cs) p)
      × AllBefore (suc alias) 0 (done ++ spots_of_cells source alias table column cs)
  some_cells alias table column [] done rest p v k b =
      (subst (λ z. Knows z rest m p) (sym (append-nil done)) k, λ z n. next z (b z (subst (λ y. z ∈ y) (append-nil done) n)))
    where
      next : (z : Spot) → IsBefore alias column z → IsBefore (suc alias) 0 z
      next z (inl l) = inl (omega (arith, l))
      next z (inr l) = inl (omega (arith, l.0))
  some_cells alias table column (Var x ∷ cs) done rest p v k b =
      let s : Spot = record { alias = alias; column = column; name = column_at source table column; cell = Var x } in
      let one = one_cell done s (flat_map cell_variable cs ++ rest) m x p k refl b in
      let more = some_cells alias table (suc column) cs (done ++ s ∷ []) rest (met x (shows s) p) (λ c n. v c (there n)) one (further_on alias column done s refl refl b) in
      let e : (done ++ s ∷ []) ++ spots_of_cells source alias table (suc column) cs ≡ done ++ s ∷ spots_of_cells source alias table (suc column) cs = append_assoc done (s ∷ []) (spots_of_cells source alias table (suc column) cs) in
      (subst (λ z. Knows z rest m (met_spots (spots_of_cells source alias table (suc column) cs) (met x (shows s) p))) e more.0, subst (AllBefore (suc alias) 0) e more.1)
  some_cells alias table column (Ex y ∷ cs) done rest p v k b = elim (v (Ex y) (here refl)) [ ]
  some_cells alias table column (Lit t ∷ cs) done rest p v k b = elim (v (Lit t) (here refl)) [ ]

  some_atoms : (alias : ℕ) (atoms : List Atom) (done : List Spot) (p : Premise) → ((a : Atom) → a ∈ atoms → (c : Cell) → c ∈ a.cells → IsVariable c)
      → Knows done (flat_map cell_variable (cells_of atoms)) m p → AllBefore alias 0 done → Knows (done ++ spots source alias atoms) [] m (met_spots (spots source alias atoms) p)
  some_atoms alias [] done p v k b = subst (λ z. Knows z [] m p) (sym (append-nil done)) k
  some_atoms alias (a ∷ atoms) done p v k b =
      let here_spots : List Spot = spots_of_cells source alias a.table 0 a.cells in
      let k2 : Knows done (flat_map cell_variable a.cells ++ flat_map cell_variable (cells_of atoms)) m p = subst (λ z. Knows done z m p) (flat_map-append cell_variable a.cells (cells_of atoms)) k in
      let one = some_cells alias a.table 0 a.cells done (flat_map cell_variable (cells_of atoms)) p (v a (here refl)) k2 b in
      let more = some_atoms (suc alias) atoms (done ++ here_spots) (met_spots here_spots p) (λ d n. v d (there n)) one.0 one.1 in
      let e : (done ++ here_spots) ++ spots source (suc alias) atoms ≡ done ++ (here_spots ++ spots source (suc alias) atoms) = append_assoc done here_spots (spots source (suc alias) atoms) in
      subst (λ z. Knows (done ++ (here_spots ++ spots source (suc alias) atoms)) [] m z) (sym (met_append here_spots (spots source (suc alias) atoms) p))
      (subst (λ z. Knows z [] m (met_spots (spots source (suc alias) atoms) (met_spots here_spots p))) e more)

-- what is met in the premise of a rule: the first cells of its variables, in order, and what is equal to them
pub premise_met : (source : List TableNames) (d : Rule) (p : Premise) → IsRule d → p ≡ met_spots (spots source 0 d.premise) (record { firsts = []; equal = [] })
    → (p.firsts ≡ map (λ x. shows (first_spot x (spots source 0 d.premise))) (below (premise_variables d))) × (p.equal ≡ equals (spots source 0 d.premise))
premise_met source d p r e =
    let start : Premise = record { firsts = []; equal = [] } in
    let k0 : Knows [] (flat_map cell_variable (cells_of d.premise)) (premise_variables d) start =
    record { firsts = refl; standing = λ x h. absurd (omega arith); few = λ s m x q. elim m [ ]; equal = refl; numbered = r.numbered } in
    let k = some_atoms source (premise_variables d) 0 d.premise [] start r.plain k0 (λ z m. elim m [ ]) in
    let w : Knows (spots source 0 d.premise) [] (premise_variables d) p = subst (λ z. Knows (spots source 0 d.premise) [] (premise_variables d) z) (sym e) k in
    (w.firsts ∙ ap (λ z. map (λ x. shows (first_spot x (spots source 0 d.premise))) (below z)) w.numbered, w.equal)

-- ---- the atoms of a premise, one after the other

-- the cells of the atoms before a place are at least as many as these atoms
pub more_cells : (atoms : List Atom) (i : ℕ) (a : Atom) → i < length atoms → a ≡ get_or atoms i a → 1 ≤ length a.cells → i ≤ length (cells_of (take i atoms)) → i + 1 ≤ length (cells_of (take (i + 1) atoms))
more_cells atoms i a h e s l =
    let t : take (i + 1) atoms ≡ take i atoms ++ a ∷ [] = take_more atoms i a h ∙ ap (λ z. take i atoms ++ z ∷ []) (sym e) in
    let q : length (cells_of (take (i + 1) atoms)) ≡ length (cells_of (take i atoms)) + length (cells_of (a ∷ [])) =
    ap (λ z. length (cells_of z)) t ∙ (ap length (flat_map-append (λ (b : Atom). b.cells) (take i atoms) (a ∷ [])) ∙ length-append (cells_of (take i atoms)) (cells_of (a ∷ []))) in
    let r : length (cells_of (a ∷ [])) ≡ length a.cells = ap length (append-nil a.cells) in
    omega (arith, q, r, s, l)

pub few_atoms : (atoms : List Atom) (i : ℕ) → i < length atoms → i ≤ length (cells_of (take i atoms)) → length (cells_of atoms) < 4294967296 → i < 4294967296
few_atoms atoms i h l f =
    let q : length (cells_of atoms) ≡ length (cells_of (take i atoms)) + length (cells_of (drop i atoms)) =
    ap (λ z. length (cells_of z)) (sym (take-append-drop i atoms)) ∙ (ap length (flat_map-append (λ (b : Atom). b.cells) (take i atoms) (drop i atoms)) ∙ length-append (cells_of (take i atoms)) (cells_of (drop i atoms))) in
    omega (arith, q, l, f)

pub one_atom : (source : List TableNames) (atoms : List Atom) (i : ℕ) (a : Atom) (p q whole : Premise) → i < length atoms → a ≡ get_or atoms i a → q ≡ met_spots (spots_of_cells source i a.table 0 a.cells) p
    → met_spots (spots source i (drop i atoms)) p ≡ whole → met_spots (spots source (i + 1) (drop (i + 1) atoms)) q ≡ whole
one_atom source atoms i a p q whole h e m k =
    let d : drop i atoms ≡ a ∷ drop (i + 1) atoms = cut_at atoms i a h e in
    let s : spots source i (drop i atoms) ≡ spots_of_cells source i a.table 0 a.cells ++ spots source (i + 1) (drop (i + 1) atoms) =
    ap (spots source i) d ∙ ap (λ z. spots_of_cells source i a.table 0 a.cells ++ spots source z (drop (i + 1) atoms)) (sym (add-one i)) in
    ap (met_spots (spots source (i + 1) (drop (i + 1) atoms))) m
    ∙ (sym (met_append (spots_of_cells source i a.table 0 a.cells) (spots source (i + 1) (drop (i + 1) atoms)) p) ∙ (ap (λ z. met_spots z p) (sym s) ∙ k))

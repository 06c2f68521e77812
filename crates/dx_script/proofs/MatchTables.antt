-- The match table of a rule's step is its rows.
use Rattle.std.proofs.Common.{◌≡◌, ℕ, zero, suc, ◌+◌, ◌-◌, ◌<◌, ◌≤◌, cond, List, [], ◌∷◌, length, get_or, refl, sym, ◌∙◌, ap, subst, inl, inr, arith}
use Rattle.std.specs.Prelude.{map, nat_lt, ◌↔◌}
use Rattle.dx_script.proofs.NameFacts.{nat_lt_tells}
use Rattle.std.proofs.lemmas.List.{get_or-map, length-map}
use Rattle.std.proofs.lemmas.Simd.{map-map}
use Rattle.dx_model.specs.declared.values.Value.TheVariants.{Const}
use Rattle.dx_model.specs.declared.facts.Fact.{Fact}
use Rattle.dx_model.specs.declared.rules.Cell.{Cell}
use Rattle.dx_model.specs.declared.rules.Cell.TheVariants.{Var, Ex, Lit}
use Rattle.dx_model.specs.declared.rules.Atom.{Atom}
use Rattle.dx_model.specs.declared.rules.Derived.{Derived}
use Rattle.dx_model.specs.declared.rules.Rule.{Rule}
use Rattle.dx_base.specs.Members.{◌∈◌, here, there}
use Rattle.dx_model.specs.Rules.{cell_value, premise_fact, cells_of, after_cells, exported, Derive, IsMatch}
use Rattle.dx_base.proofs.Members.{in_flat_map}
use Rattle.dx_script.specs.declared.form.Equal.{Equal}
use Rattle.dx_schema.specs.Names.{TableNames}
use Rattle.dx_funcs.specs.declared.conversion.Conversion.{Conversion}
use Rattle.dx_funcs.specs.Names.{conversion_name, call_named}
use Rattle.dx_script.specs.Names.{table_numbered, table_named, column_named, column_at}
use Rattle.dx_script.specs.Meaning.{table_of_alias, alias_cell_text as shown, selected}
use Rattle.dx_script.specs.Meaning.{IsAssignment, IsMatchTable}
use Rattle.dx_model.specs.Rules.{IsRows}
use Rattle.dx_model.specs.Values.{Tuple, Conversions}
use Rattle.dx_base.specs.Texts.{Text}
use Rattle.dx_script.specs.Generated.{Spot, spots, first_spot, shows, equals, select_of, selects_of, sources_of}
use Rattle.dx_script.proofs.RuleFacts.{premise_fits, premise_variable, stands, arguments_below, exported_known, NamesFit, WidthsFit}
use Rattle.dx_base.proofs.Members.{in_at}
use Rattle.dx_base.proofs.Tests.{map_same}
use Rattle.dx_model.proofs.RowsExist.{below_after}
use Rattle.dx_script.proofs.NameFacts.{table_number, column_number, calls_by_name}
use Rattle.dx_script.proofs.Spots.{atom_at, cell_in, from_spots, in_spots, standing_spots, first_stands, from_equals, in_equals}

-- a member stands somewhere
pub index_of : {X : Type 0} (xs : List X) (x d : X) → x ∈ xs → (j : ℕ) × (j < length xs) × (get_or xs j d ≡ x)
index_of [] x d m = elim m [ ]
index_of (y ∷ ys) x d (here e) = (0, omega arith, e)
index_of (y ∷ ys) x d (there m) = let w = index_of ys x d m in (suc w.0, omega (arith, w.1), w.2)

-- derived variables, by their place
derived_at : (convert : ℕ → List (List ℕ) → List ℕ) (texts : ℕ → List ℕ) (n : ℕ) (ds : List Derived) (i : ℕ) → Derive convert texts n ds → i < length ds
    → texts (n + i) ≡ convert (get_or ds i (record { code = 0; args = [] })).code (map texts (get_or ds i (record { code = 0; args = [] })).args)
derived_at convert texts n [] i h l = absurd (omega arith)
derived_at convert texts n (d ∷ ds) zero h l = let e : n + 0 ≡ n = omega arith in rw e h.0
derived_at convert texts n (d ∷ ds) (suc i) h l = let e : n + suc i ≡ suc n + i = omega arith in rw e (derived_at convert texts (suc n) ds i h.1 (omega arith))

all_derived : (convert : ℕ → List (List ℕ) → List ℕ) (texts : ℕ → List ℕ) (n : ℕ) (ds : List Derived)
    → ((i : ℕ) → i < length ds → texts (n + i) ≡ convert (get_or ds i (record { code = 0; args = [] })).code (map texts (get_or ds i (record { code = 0; args = [] })).args))
    → Derive convert texts n ds
all_derived convert texts n [] h = tt
all_derived convert texts n (d ∷ ds) h =
    let e : n + 0 ≡ n = omega arith in (
      rw e at (h 0 (omega arith)),
      all_derived convert texts (suc n) ds (λ i l. let q : n + suc i ≡ suc n + i = omega arith in rw q at (h (suc i) (omega arith))),
    )

-- the row of a fact that an atom of a premise says
same_rows : (texts : ℕ → List ℕ) (cs : List Cell) (ts : List (List ℕ)) → length cs ≡ length ts
    → ((c : ℕ) → c < length cs → (x : ℕ) × (cell_in cs c ≡ Var x) × (texts x ≡ get_or ts c []))
    → map (cell_value texts (λ _. Const [])) cs ≡ map Const ts
same_rows texts [] [] e h = refl
same_rows texts [] (t ∷ ts) e h = absurd (omega arith)
same_rows texts (c ∷ cs) [] e h = absurd (omega arith)
same_rows texts (c ∷ cs) (t ∷ ts) e h =
    let w = h 0 (omega arith) in
    let a : c ≡ Var w.0 = w.1 in
    let b : texts w.0 ≡ t = w.2 in
    let r : map (cell_value texts (λ _. Const [])) cs ≡ map Const ts = same_rows texts cs ts (omega arith) (λ k l. h (suc k) (omega arith)) in
    let q : cell_value texts (λ _. Const []) c ≡ Const t = rw a (ap Const b) in
    cc

module _ (source target : List TableNames) (convert : Conversions) (list : List Conversion) (R : List Rule) (d : Rule) (I : List Fact)
    (good : NamesFit source target list R) (member : d ∈ R) (widths : WidthsFit source I) where
  call : Text → Tuple → Text
  call = call_named convert list

  all : List Spot
  all = spots source 0 d.premise

  n : ℕ
  n = after_cells (cells_of d.premise)

  e0 : Derived
  e0 = record { code = 0; args = [] }

  -- the table of an alias is its atom's
  table_at : (j : ℕ) → j < length d.premise → table_of_alias source (sources_of source d) j ≡ (atom_at d.premise j).table
  table_at j h =
      let a = premise_fits source target list R d good member (atom_at d.premise j) (in_at d.premise j (record { table = 0; cells = [] }) h) in
      ap (table_named source) (get_or-map (λ (a : Atom). (table_numbered source a.table).name) d.premise j (record { table = 0; cells = [] }) [] h)
      ∙ table_number source (atom_at d.premise j).table good.source_tables a.0

  -- what an assignment shows at a spot
  value : (ℕ → List (List ℕ)) → Spot → List ℕ
  value rows s = get_or (rows s.alias) s.column []

  shown_at : (rows : ℕ → List (List ℕ)) (s : Spot) → s ∈ all → shown source (sources_of source d) rows (shows s) ≡ value rows s
  unfolding all value
  shown_at rows s m =
      let w = from_spots source 0 d.premise s m in
      let q : w.1 ≡ w.0 = omega (arith, w.3) in
      let a = premise_fits source target list R d good member (atom_at d.premise w.0) (in_at d.premise w.0 (record { table = 0; cells = [] }) w.4) in
      let t : table_of_alias source (sources_of source d) w.1 ≡ (atom_at d.premise w.0).table = rw q (table_at w.0 w.4) in
      let k : column_named source (atom_at d.premise w.0).table (column_at source (atom_at d.premise w.0).table w.2) ≡ w.2 =
      column_number source (atom_at d.premise w.0).table w.2 good.source_tables a.0 (rw (← a.1) w.5) in
      subst (λ z. shown source (sources_of source d) rows (shows z) ≡ get_or (rows z.alias) z.column []) w.6
      (ap (λ z. get_or (rows w.1) (column_named source z (column_at source (atom_at d.premise w.0).table w.2)) []) t ∙ ap (λ z. get_or (rows w.1) z []) k)

  -- the first spot of a variable of the premise
  first : (x : ℕ) → x < n → (first_spot x all ∈ all) × ((first_spot x all).cell ≡ Var x)
  unfolding all n
  first x h =
      let w = standing_spots source 0 d.premise x (stands source target list R d good member x h) in
      first_stands x all w.0 w.1 w.2

  -- two spots of one variable show one text under an assignment
  agree_at : (rows : ℕ → List (List ℕ)) → IsAssignment source I (sources_of source d) (equals all) rows
      → (s : Spot) (x : ℕ) → s ∈ all → s.cell ≡ Var x → value rows (first_spot x all) ≡ value rows s
  unfolding value
  agree_at rows g s x m e =
      let f = first_stands x all s m e in
      elim (in_equals all s x m e) [
        | inl p ↦ ap (λ a. get_or (rows a) (first_spot x all).column []) p.0 ∙ ap (λ c. get_or (rows s.alias) c []) p.1
        | inr q ↦ sym (shown_at rows (first_spot x all) f.0) ∙ (g.agree _ q ∙ shown_at rows s m)
      ]

  -- From a match to an assignment.
  text_in : (ℕ → List ℕ) → Cell → List ℕ
  text_in texts (Var x) = texts x
  text_in texts (Ex v) = []
  text_in texts (Lit t) = t

  rows_of : (ℕ → List ℕ) → ℕ → List (List ℕ)
  rows_of texts j = map (text_in texts) (atom_at d.premise j).cells

  const_cells : (texts : ℕ → List ℕ) (cs : List Cell) → map Const (map (text_in texts) cs) ≡ map (cell_value texts (λ _. Const [])) cs
  unfolding text_in
  const_cells texts [] = refl
  const_cells texts (Var x ∷ cs) = ap (λ r. Const (texts x) ∷ r) (const_cells texts cs)
  const_cells texts (Ex v ∷ cs) = ap (λ r. Const [] ∷ r) (const_cells texts cs)
  const_cells texts (Lit t ∷ cs) = ap (λ r. Const t ∷ r) (const_cells texts cs)

  value_of : (texts : ℕ → List ℕ) (s : Spot) → s ∈ all → value (rows_of texts) s ≡ text_in texts s.cell
  unfolding all value rows_of
  value_of texts s m =
      let w = from_spots source 0 d.premise s m in
      let q : w.1 ≡ w.0 = omega (arith, w.3) in
      subst (λ z. get_or (rows_of texts z.alias) z.column [] ≡ text_in texts z.cell) w.6
      (rw q (get_or-map (text_in texts) (atom_at d.premise w.0).cells w.2 (Ex 0) [] w.5))

  value_first : (texts : ℕ → List ℕ) (x : ℕ) → x < n → shown source (sources_of source d) (rows_of texts) (shows (first_spot x all)) ≡ texts x
  unfolding text_in
  value_first texts x h =
      let f = first x h in
      shown_at (rows_of texts) (first_spot x all) f.0 ∙ (value_of texts (first_spot x all) f.0 ∙ ap (text_in texts) f.1)

  assigns : (texts : ℕ → List ℕ) → IsMatch convert d I texts → IsAssignment source I (sources_of source d) (equals all) (rows_of texts)
  unfolding rows_of text_in
  assigns texts g = record {
    of_source = λ j h.
        let l : j < length d.premise = rw (length-map d.premise (λ (a : Atom). (table_numbered source a.table).name)) at h in
        let a : Atom = atom_at d.premise j in
        let k : record { table = a.table; row = map (cell_value texts (λ _. Const [])) a.cells } ∈ I = g.premise a (in_at d.premise j (record { table = 0; cells = [] }) l) in
        rw (table_at j l, const_cells texts a.cells) k;
    agree = λ e m.
        let w = from_equals all e m in
        let f = first_stands w.1 all w.0 w.2 w.3 in
        subst (λ (z : Equal). shown source (sources_of source d) (rows_of texts) z.left ≡ shown source (sources_of source d) (rows_of texts) z.right) w.4
        (shown_at (rows_of texts) (first_spot w.1 all) f.0
        ∙ (value_of texts (first_spot w.1 all) f.0
        ∙ (ap (text_in texts) (f.1 ∙ sym w.3)
        ∙ (sym (value_of texts w.0 w.2) ∙ sym (shown_at (rows_of texts) w.0 w.2)))));
  }

  -- What is selected for an exported variable, where each variable of the premise has its text at its first spot.
  select_is : (rows : ℕ → List (List ℕ)) (texts : ℕ → List ℕ)
      → ((x : ℕ) → x < n → shown source (sources_of source d) rows (shows (first_spot x all)) ≡ texts x)
      → ((x : ℕ) → n ≤ x → x < n + length d.derived → texts x ≡ convert (get_or d.derived (x - n) e0).code (map texts (get_or d.derived (x - n) e0).args))
      → (x : ℕ) → x ∈ exported d → selected source call (sources_of source d) rows (select_of list all d x) ≡ texts x
  unfolding n e0 call
  select_is rows texts a b x m = elim (nat_lt_tells x n) [
    | inl t ↦ rw t.0 (a x t.1)
    | inr f ↦
        let l : x < n + length d.derived = exported_known source target list R d good member x m in
        let g : n ≤ x = f.1 in
        let e : Derived = get_or d.derived (x - n) e0 in
        let i : e ∈ d.derived = in_at d.derived (x - n) e0 (omega arith) in
        let r : map (λ y. shown source (sources_of source d) rows (shows (first_spot y all))) e.args ≡ map texts e.args =
        map_same (λ y. shown source (sources_of source d) rows (shows (first_spot y all))) texts e.args (λ y k. a y (arguments_below source target list R d good member e i y k)) in
        rw f.0 (
        ap (call (conversion_name list e.code)) (map-map (shown source (sources_of source d) rows) (λ y. shows (first_spot y all)) e.args ∙ r)
        ∙ (calls_by_name convert list e.code (length e.args) (map texts e.args) good.offer (good.listed d member e i) ∙ sym (b x g l))
        )
  ]

  -- From an assignment to a match.
  texts_of : (ℕ → List (List ℕ)) → ℕ → List ℕ
  texts_of rows x =
      cond (nat_lt x n) (value rows (first_spot x all))
      (convert (get_or d.derived (x - n) e0).code (map (λ y. value rows (first_spot y all)) (get_or d.derived (x - n) e0).args))

  low : (rows : ℕ → List (List ℕ)) (x : ℕ) → x < n → texts_of rows x ≡ value rows (first_spot x all)
  unfolding texts_of
  low rows x h = elim (nat_lt_tells x n) [ inl t ↦ rw t.0 refl | inr f ↦ absurd (let k = f.1 in omega arith) ]

  high : (rows : ℕ → List (List ℕ)) (x : ℕ) → n ≤ x
      → texts_of rows x ≡ convert (get_or d.derived (x - n) e0).code (map (λ y. value rows (first_spot y all)) (get_or d.derived (x - n) e0).args)
  unfolding texts_of
  high rows x h = elim (nat_lt_tells x n) [ inl t ↦ absurd (let k = t.1 in omega arith) | inr f ↦ rw f.0 refl ]

  premise_row : (rows : ℕ → List (List ℕ)) → IsAssignment source I (sources_of source d) (equals all) rows
      → (j : ℕ) → j < length d.premise → premise_fact (texts_of rows) (atom_at d.premise j) ∈ I
  unfolding all value n
  premise_row rows g j h =
      let a : Atom = atom_at d.premise j in
      let m : a ∈ d.premise = in_at d.premise j (record { table = 0; cells = [] }) h in
      let fit = premise_fits source target list R d good member a m in
      let k : record { table = a.table; row = map Const (rows j) } ∈ I =
      rw (table_at j h) at (g.of_source j (rw (length-map d.premise (λ (b : Atom). (table_numbered source b.table).name)) h)) in
      let w : length (map Const (rows j)) ≡ length (table_numbered source a.table).columns = widths _ k in
      let l : length a.cells ≡ length (rows j) = fit.1 ∙ (sym w ∙ length-map (rows j) Const) in
      let e : map (cell_value (texts_of rows) (λ _. Const [])) a.cells ≡ map Const (rows j) =
      same_rows (texts_of rows) a.cells (rows j) l (λ c q.
      let v = premise_variable source target list R d good member a m (cell_in a.cells c) (in_at a.cells c (Ex 0) q) in
      let u : Var v.0 ∈ a.cells = rw (← v.1) (in_at a.cells c (Ex 0) q) in (
        v.0,
        v.1,
        low rows v.0 (below_after v.0 (cells_of d.premise) (in_flat_map (λ (b : Atom). b.cells) m u))
            ∙ agree_at rows g _ v.0 (in_spots source 0 d.premise j j c (omega arith) h q) v.1,
      )) in
      rw e k

  matches : (rows : ℕ → List (List ℕ)) → IsAssignment source I (sources_of source d) (equals all) rows → IsMatch convert d I (texts_of rows)
  unfolding n e0
  matches rows g = record {
    premise = λ a m.
        let w = index_of d.premise a (record { table = 0; cells = [] }) m in
        subst (λ b. premise_fact (texts_of rows) b ∈ I) w.2 (premise_row rows g w.0 w.1);
    derived = all_derived convert (texts_of rows) n d.derived (λ i l.
        let q : (n + i) - n ≡ i = omega arith in
        let e : Derived = get_or d.derived i e0 in
        let r : map (λ y. value rows (first_spot y all)) e.args ≡ map (texts_of rows) e.args =
        map_same (λ y. value rows (first_spot y all)) (texts_of rows) e.args
        (λ y k. sym (low rows y (arguments_below source target list R d good member e (in_at d.derived i e0 l) y k))) in
        (rw q at (high rows (n + i) (omega arith))) ∙ ap (convert e.code) r);
  }

  selects : (rows : ℕ → List (List ℕ)) (texts : ℕ → List ℕ)
      → ((x : ℕ) → x < n → shown source (sources_of source d) rows (shows (first_spot x all)) ≡ texts x)
      → IsMatch convert d I texts
      → map (selected source call (sources_of source d) rows) (map (select_of list all d) (exported d)) ≡ map texts (exported d)
  unfolding n e0
  selects rows texts a g =
      map-map (selected source call (sources_of source d) rows) (select_of list all d) (exported d)
      ∙ map_same (λ x. selected source call (sources_of source d) rows (select_of list all d x)) texts (exported d)
      (select_is rows texts a (λ x h l.
      let q : n + (x - n) ≡ x = omega arith in
      rw q at (derived_at convert texts n d.derived (x - n) g.derived (omega arith))))

  same_tuples : (t : List (List ℕ))
      → ((rows : ℕ → List (List ℕ)) × IsAssignment source I (sources_of source d) (equals all) rows × (t ≡ map (selected source call (sources_of source d) rows) (map (select_of list all d) (exported d))))
      ↔ ((texts : ℕ → List ℕ) × IsMatch convert d I texts × (t ≡ map texts (exported d)))
  same_tuples t = (
    (λ (rows, g, e). (
      texts_of rows,
      matches rows g,
      e ∙ selects rows (texts_of rows) (λ x h. shown_at rows (first_spot x all) (first x h).0 ∙ sym (low rows x h)) (matches rows g),
    )),
    (λ (texts, g, e). (rows_of texts, assigns texts g, e ∙ sym (selects (rows_of texts) texts (value_first texts) g))),
  )

pub table_is_rows : (source target : List TableNames) (convert : Conversions) (list : List Conversion) (R : List Rule) (d : Rule) (I : List Fact) (ts : List Tuple)
    → NamesFit source target list R → d ∈ R → WidthsFit source I
    → IsMatchTable source (call_named convert list) I (selects_of source list d) (sources_of source d) (equals (spots source 0 d.premise)) ts ↔ IsRows convert d I ts
unfolding all call
table_is_rows source target convert list R d I ts good member widths =
    let s = same_tuples source target convert list R d I good member widths in (
      (λ m. record { ascend = m.ascend; exact = λ t. ((λ h. (s t).0 ((m.exact t).0 h)), (λ h. (m.exact t).1 ((s t).1 h))) }),
      (λ m. record { ascend = m.ascend; exact = λ t. ((λ h. (s t).1 ((m.exact t).0 h)), (λ h. (m.exact t).1 ((s t).0 h))) }),
    )

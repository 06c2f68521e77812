-- What a match step selects is what the matches of its premise show.
use Rattle.std.proofs.Common.{◌≡◌, ◌⊎◌, ℕ, suc, ◌+◌, ◌-◌, ◌<◌, ◌≤◌, List, [], ◌∷◌, length, get_or, refl, sym, ◌∙◌, ap, subst, inl, inr, arith}
use Rattle.std.specs.Prelude.{map, ◌↔◌, Option, None, Some, MatchOption, slice_index_or}
use Rattle.std.proofs.lemmas.Bool.{cases_lt}
use Rattle.std.proofs.lemmas.List.{get_or-map, length-map}
use Rattle.std.proofs.lemmas.Simd.{map-map}
use Rattle.dx_model.specs.declared.values.Value.TheVariants.{Const}
use Rattle.dx_model.specs.declared.facts.Fact.{Fact}
use Rattle.dx_model.specs.declared.rules.Cell.TheVariants.{Var}
use Rattle.dx_model.specs.declared.rules.Atom.{Atom}
use Rattle.dx_model.specs.declared.rules.Derived.{Derived}
use Rattle.dx_model.specs.Values.{Conversions, Tuple}
use Rattle.dx_base.specs.Texts.{Text}
use Rattle.dx_model.specs.Covers.{below}
use Rattle.dx_model.specs.Rules.{Derive, after_cells, cell_value, cells_of, premise_fact}
use Rattle.dx_model.proofs.Lists.{from_below, in_below}
use Rattle.dx_base.specs.Members.{◌∈◌, here, there, Each}
use Rattle.dx_base.proofs.Members.{from_map, in_at, in_map}
use Rattle.dx_base.proofs.Tests.{map_same}
use Rattle.dx_schema.specs.Names.{TableNames}
use Rattle.dx_funcs.specs.declared.conversion.Conversion.{Conversion}
use Rattle.dx_funcs.specs.Names.{call_found, call_named, first_named}
use Rattle.dx_joins.specs.Shown.{IsFound, IsMatchTuple}
use Rattle.dx_script.specs.declared.form.CellRef.{CellRef}
use Rattle.dx_script.specs.declared.form.Select.{Select}
use Rattle.dx_script.specs.declared.form.Select.TheVariants.{Cell, Call}
use Rattle.dx_script.specs.declared.form.Equal.{Equal}
use Rattle.dx_script.specs.Names.{column_named, table_numbered}
use Rattle.dx_script.specs.Fits.{CellFits, SelectFits}
use Rattle.dx_script.specs.Meaning.{IsAssignment, alias_cell_text, selected, table_of_alias}
use Rattle.dx_eval.specs.Variables.{AreVariables, AliasHasCell, alias_variables, alias_variable, variable_of}
use Rattle.dx_eval.specs.Query.{IsSelected, alias_atom, alias_atoms, code_found, derived_of_selects, shown_from}
use Rattle.dx_eval.proofs.NumberOfNames.{column_within}

-- ---- derived variables from a number on

-- what a conversion by its name gives is what its code gives
call_by_code : (convert : Conversions) (o : Option Conversion) (args : Tuple) (count : ℕ) → MatchOption o ⊥ (λ c. c.arity ≡ count) → call_found convert o args ≡ convert (code_found o) args
call_by_code convert None args count h = absurd h
call_by_code convert (Some c) args count h = refl

module _ (source : List TableNames) (list : List Conversion) (convert : Conversions) (sources : List Text) (variable : CellRef → ℕ) (rows : ℕ → Tuple) (texts : ℕ → Text)
    (at : (c : CellRef) → CellFits source sources c → alias_cell_text source sources rows c ≡ texts (variable c)) where
  cells_at : (args : List CellRef) → Each args (CellFits source sources) → map (alias_cell_text source sources rows) args ≡ map texts (map variable args)
  cells_at args f = map_same (alias_cell_text source sources rows) (λ c. texts (variable c)) args (λ c m. at c (f c m)) ∙ sym (map-map texts variable args)

  -- what is selected is what the shown variables have
  pub selects_shown : (next : ℕ) (select : List Select) → Each select (SelectFits source list sources) → Derive convert texts next (derived_of_selects list variable select)
      → map (selected source (call_named convert list) sources rows) select ≡ map texts (shown_from variable next select)
  selects_shown next [] f d = refl
  selects_shown next (Cell c ∷ select) f d =
      let first : alias_cell_text source sources rows c ≡ texts (variable c) = at c (f (Cell c) (here refl)) in
      let rest = selects_shown next select (λ s m. f s (there m)) d in
      cc
  selects_shown next (Call name args ∷ select) f d =
      let fit = f (Call name args) (here refl) in
      let one : call_named convert list name (map (alias_cell_text source sources rows) args) ≡ texts next =
      ap (call_named convert list name) (cells_at args fit.1) ∙ (call_by_code convert (first_named list name) (map texts (map variable args)) (length args) fit.0 ∙ sym d.0) in
      let rest = selects_shown (suc next) select (λ s m. f s (there m)) d.1 in
      cc

-- ---- texts for derived variables

-- a derived variable by its place
e0 : Derived
e0 = record { code = 0; args = [] }

all_derived : (convert : Conversions) (texts : ℕ → Text) (n : ℕ) (ds : List Derived)
    → ((i : ℕ) → i < length ds → texts (n + i) ≡ convert (get_or ds i e0).code (map texts (get_or ds i e0).args)) → Derive convert texts n ds
all_derived convert texts n [] h = tt
all_derived convert texts n (d ∷ ds) h =
    let e : n + 0 ≡ n = omega arith in (
      rw e at (h 0 (omega arith)),
      all_derived convert texts (suc n) ds (λ i l. let q : n + suc i ≡ suc n + i = omega arith in rw q at (h (suc i) (omega arith))),
    )

-- ---- from rows to texts and back

module _ (source : List TableNames) (sources : List Text) (equal : List Equal) (vars : List (List ℕ)) (n : ℕ) (v : AreVariables source sources equal vars n) where
  -- a cell that fits is a cell
  cell_there : (c : CellRef) → CellFits source sources c → AliasHasCell vars c.alias (column_named source (table_of_alias source sources c.alias) c.column)
  cell_there c f =
      let w = v.shape.wide c.alias f.alias in
      let k = column_within source (table_of_alias source sources c.alias) c.column f.column in
      record { row = rw v.shape.many f.alias; cell = rw w k }

  -- the text of a variable below n, under rows
  low_if : (rows : ℕ → Tuple) (x : ℕ) → (x < n) ⊎ (n ≤ x) → Text
  low_if rows x (inl h) = let w = v.all x h in slice_index_or (rows w.alias) w.column []
  low_if rows x (inr h) = []

  low : (ℕ → Tuple) → ℕ → Text
  low rows x = low_if rows x (cases_lt x n)

  text_if : (Conversions) → List Derived → (rows : ℕ → Tuple) (x : ℕ) → (x < n) ⊎ (n ≤ x) → Text
  text_if convert ds rows x (inl h) = low rows x
  text_if convert ds rows x (inr h) = convert (get_or ds (x - n) e0).code (map (low rows) (get_or ds (x - n) e0).args)

  -- the text of each variable, under rows
  text_by : Conversions → List Derived → (ℕ → Tuple) → ℕ → Text
  text_by convert ds rows x = text_if convert ds rows x (cases_lt x n)

  low_is : (rows : ℕ → Tuple) → ((e : Equal) → e ∈ equal → alias_cell_text source sources rows e.left ≡ alias_cell_text source sources rows e.right)
      → (a c : ℕ) → AliasHasCell vars a c → low rows (alias_variable vars a c) ≡ slice_index_or (rows a) c []
  unfolding low low_if
  low_is rows agree a c h = go (cases_lt (alias_variable vars a c) n)
    where
      go : (o : (alias_variable vars a c < n) ⊎ (n ≤ alias_variable vars a c)) → low_if rows (alias_variable vars a c) o ≡ slice_index_or (rows a) c []
      go (inl l) = let w = v.all (alias_variable vars a c) l in v.apart rows agree w.alias w.column a c w.is_cell h w.is
      go (inr g) = absurd (let k = v.below_n a c h in omega arith)

  text_low : (convert : Conversions) (ds : List Derived) (rows : ℕ → Tuple) (x : ℕ) → x < n → text_by convert ds rows x ≡ low rows x
  unfolding text_by text_if
  text_low convert ds rows x h = go (cases_lt x n)
    where
      go : (o : (x < n) ⊎ (n ≤ x)) → text_if convert ds rows x o ≡ low rows x
      go (inl l) = refl
      go (inr g) = absurd (omega arith)

  text_high : (convert : Conversions) (ds : List Derived) (rows : ℕ → Tuple) (x i : ℕ) → x ≡ n + i → text_by convert ds rows x ≡ convert (get_or ds i e0).code (map (low rows) (get_or ds i e0).args)
  unfolding text_by text_if
  text_high convert ds rows x i e = go (cases_lt x n)
    where
      go : (o : (x < n) ⊎ (n ≤ x)) → text_if convert ds rows x o ≡ convert (get_or ds i e0).code (map (low rows) (get_or ds i e0).args)
      go (inl l) = absurd (omega arith)
      go (inr g) = let q : x - n ≡ i = omega arith in ap (λ k. convert (get_or ds k e0).code (map (low rows) (get_or ds k e0).args)) q

  text_of_cell : (convert : Conversions) (ds : List Derived) (rows : ℕ → Tuple) → ((e : Equal) → e ∈ equal → alias_cell_text source sources rows e.left ≡ alias_cell_text source sources rows e.right)
      → (a c : ℕ) → AliasHasCell vars a c → text_by convert ds rows (alias_variable vars a c) ≡ slice_index_or (rows a) c []
  text_of_cell convert ds rows agree a c h = text_low convert ds rows (alias_variable vars a c) (v.below_n a c h) ∙ low_is rows agree a c h

  -- the texts of a row are those of its variables
  row_texts : (convert : Conversions) (ds : List Derived) (rows : ℕ → Tuple) → ((e : Equal) → e ∈ equal → alias_cell_text source sources rows e.left ≡ alias_cell_text source sources rows e.right)
      → (a : ℕ) → a < length vars → length (rows a) ≡ length (alias_variables vars a) → map (text_by convert ds rows) (alias_variables vars a) ≡ rows a
  row_texts convert ds rows agree a h l = same (alias_variables vars a) (rows a) (sym l) (λ c k. text_of_cell convert ds rows agree a c (record { row = h; cell = k }))
    where
      same : (xs : List ℕ) (ts : Tuple) → length xs ≡ length ts → ((c : ℕ) → c < length xs → text_by convert ds rows (get_or xs c 0) ≡ get_or ts c []) → map (text_by convert ds rows) xs ≡ ts
      same [] [] e f = refl
      same [] (t ∷ ts) e f = absurd (omega (arith, e))
      same (x ∷ xs) [] e f = absurd (omega (arith, e))
      same (x ∷ xs) (t ∷ ts) e f =
          let first : text_by convert ds rows x ≡ t = f 0 (omega arith) in
          let rest : map (text_by convert ds rows) xs ≡ ts = same xs ts (omega (arith, e)) (λ c k. f (suc c) (omega arith)) in
          cc

-- ---- atoms

var_cells : (texts : ℕ → Text) (xs : List ℕ) → map (cell_value texts (λ _. Const [])) (map Var xs) ≡ map Const (map texts xs)
var_cells texts xs = map-map (cell_value texts (λ _. Const [])) Var xs ∙ sym (map-map Const texts xs)

-- ---- the law

module _ (source : List TableNames) (list : List Conversion) (convert : Conversions) (I : List Fact) (select : List Select) (sources : List Text) (equal : List Equal) (vars : List (List ℕ)) (n : ℕ)
    (v : AreVariables source sources equal vars n) (selects : Each select (SelectFits source list sources))
    (equals : Each equal (λ (e : Equal). CellFits source sources e.left × CellFits source sources e.right))
    (widths : (f : Fact) → f ∈ I → length f.row ≡ length (table_numbered source f.table).columns)
    (numbered : after_cells (cells_of (alias_atoms source sources vars)) ≡ n)
    (args_low : Each (derived_of_selects list (variable_of source sources vars) select) (λ (e : Derived). Each e.args (λ y. y < n))) where
  abbrev premise : List Atom
  premise = alias_atoms source sources vars

  abbrev derived : List Derived
  derived = derived_of_selects list (variable_of source sources vars) select

  abbrev shown : List ℕ
  shown = shown_from (variable_of source sources vars) n select

  -- from a match to rows
  abbrev rows_by : (ℕ → Text) → ℕ → Tuple
  rows_by texts alias = map texts (alias_variables vars alias)

  text_at : (texts : ℕ → Text) (c : CellRef) → CellFits source sources c → alias_cell_text source sources (rows_by texts) c ≡ texts (variable_of source sources vars c)
  text_at texts c f =
      let h = cell_there source sources equal vars n v c f in
      get_or-map texts (alias_variables vars c.alias) (column_named source (table_of_alias source sources c.alias) c.column) 0 [] h.cell

  to_selected : (t : Tuple) → IsMatchTuple convert premise derived I shown t → IsSelected source (call_named convert list) I select sources equal t
  to_selected t (texts, m, e) = (
    rows_by texts,
    record {
      of_source = λ alias h. subst (λ r. record { table = table_of_alias source sources alias; row = r } ∈ I) (var_cells texts (alias_variables vars alias))
          (m.atoms (alias_atom source sources vars alias) (in_map (alias_atom source sources vars) (in_below alias (length sources) h)));
      agree = λ q k. text_at texts q.left (equals q k).0 ∙ (ap texts (v.joined q k) ∙ sym (text_at texts q.right (equals q k).1));
    },
    e ∙ sym (selects_shown source list convert sources (variable_of source sources vars) (rows_by texts) texts (text_at texts) n select selects (subst (λ k. Derive convert texts k derived) numbered m.derives)),
  )

  -- from rows to a match
  found_by : (rows : ℕ → Tuple) → IsAssignment source I sources equal rows → IsFound convert premise derived I (text_by source sources equal vars n v convert derived rows)
  found_by rows g =
      let texts : ℕ → Text = text_by source sources equal vars n v convert derived rows in
      record {
        atoms = λ a m.
            let w = from_map (alias_atom source sources vars) (below (length sources)) m in
            let h = from_below w.0 (length sources) w.1 in
            let k = g.of_source w.0 h in
            let wide : length (rows w.0) ≡ length (alias_variables vars w.0) = sym (length-map (rows w.0) Const) ∙ (widths _ k ∙ sym (v.shape.wide w.0 h)) in
            let same : map (cell_value texts (λ _. Const [])) (map Var (alias_variables vars w.0)) ≡ map Const (rows w.0) =
            var_cells texts (alias_variables vars w.0) ∙ ap (map Const) (row_texts source sources equal vars n v convert derived rows g.agree w.0 (rw v.shape.many h) wide) in
            subst (λ b. premise_fact texts b ∈ I) w.2 (subst (λ r. record { table = table_of_alias source sources w.0; row = r } ∈ I) (sym same) k);
        derives = rw numbered (all_derived convert texts n derived (λ i l.
            text_high source sources equal vars n v convert derived rows (n + i) i refl
            ∙ ap (convert (get_or derived i e0).code) (map_same (low source sources equal vars n v rows) texts (get_or derived i e0).args
            (λ y k. sym (text_low source sources equal vars n v convert derived rows y (args_at i l y k))))));
      }
    where
      args_at : (i : ℕ) → i < length derived → (y : ℕ) → y ∈ (get_or derived i e0).args → y < n
      args_at i l y k = args_low (get_or derived i e0) (in_at derived i e0 l) y k

  to_shown : (t : Tuple) → IsSelected source (call_named convert list) I select sources equal t → IsMatchTuple convert premise derived I shown t
  to_shown t (rows, g, e) =
      let texts : ℕ → Text = text_by source sources equal vars n v convert derived rows in
      let m = found_by rows g in (
        texts,
        m,
        e ∙ selects_shown source list convert sources (variable_of source sources vars) rows texts
            (λ c f. sym (text_of_cell source sources equal vars n v convert derived rows g.agree c.alias (column_named source (table_of_alias source sources c.alias) c.column) (cell_there source sources equal vars n v c f)))
            n select selects (subst (λ k. Derive convert texts k derived) numbered m.derives),
      )

  -- what the step selects is what the matches of the premise show
  pub selected_is_shown : (t : Tuple) → IsSelected source (call_named convert list) I select sources equal t ↔ IsMatchTuple convert premise derived I shown t
  selected_is_shown t = (to_shown t, to_selected t)

-- The query of a match step can be matched.
use Rattle.std.proofs.Common.{◌≡◌, ℕ, zero, suc, ◌+◌, ◌-◌, ◌<◌, ◌≤◌, ◌^◌, true, List, [], ◌∷◌, ◌++◌, length, get_or, take, refl, sym, ◌∙◌, ap, subst, inl, inr, arith, Ok, Err}
use Rattle.std.specs.Prelude.{map, sum, ◌↔◌, Option, None, Some, MatchOption, Result, IfOk, slice_get, slice_index_or}
use Rattle.std.specs.declared.alloc.AllocError.{AllocError}
use Rattle.std.proofs.lemmas.Bool.{cases_lt}
use Rattle.std.proofs.lemmas.List.{append-nil, get_or-map, get_or_default, length-map, length-append, map_push, take_more}
use Rattle.std.proofs.lemmas.List.Concat.{flat_map-append}
use Rattle.std.proofs.lemmas.List.Sums.{sum_by-cons}
use Rattle.dx_model.specs.declared.facts.Fact.{Fact}
use Rattle.dx_model.specs.declared.values.Value.{Value}
use Rattle.dx_model.specs.declared.rules.Cell.{Cell as AnyCell}
use Rattle.dx_model.specs.declared.rules.Cell.TheVariants.{Var, Ex, Lit}
use Rattle.dx_model.specs.declared.rules.Atom.{Atom}
use Rattle.dx_model.specs.declared.rules.Derived.{Derived}
use Rattle.dx_model.specs.Values.{Conversions, Tuple}
use Rattle.dx_base.specs.Texts.{Text}
use Rattle.dx_model.specs.Covers.{below}
use Rattle.dx_model.specs.Rules.{after_cells, cells_of}
use Rattle.dx_model.proofs.Lists.{from_below, in_below}
use Rattle.dx_base.specs.Members.{◌∈◌, here, there, Each}
use Rattle.dx_base.proofs.Members.{from_flat_map, from_map, in_at, in_flat_map, in_map}
use Rattle.dx_schema.specs.Forest.{Forest}
use Rattle.dx_model.specs.Tables.{Table}
use Rattle.dx_schema.specs.Tables.{TableOf, as_numbers, model_tables, schema_widths, tables_of}
use Rattle.dx_schema.specs.Tables.{no_table as nothing_there}
use Rattle.dx_schema.specs.Names.{TableNames, table_names_of, names_of_table}
use Rattle.dx_funcs.specs.declared.conversion.Conversion.{Conversion}
use Rattle.dx_funcs.specs.Names.{call_named, first_named}
use Rattle.dx_funcs.specs.Offers.{IsListed}
use Rattle.dx_funcs.proofs.Named.{found_listed}
use Rattle.dx_instance.specs.Cells.{NumberTable}
use Rattle.dx_instance.specs.Numbers.{value_of}
use Rattle.dx_instance.specs.Shown.{PartsFit, shown_tables}
use Rattle.dx_instance.specs.Stored.{facts, widths}
use Rattle.dx_instance.proofs.LawFacts.{facts_fit}
use Rattle.dx_instance.proofs.ShownFacts.{all_fit}
use Rattle.std.proofs.lemmas.Simd.{map-map}
use Rattle.dx_model.proofs.RowsExist.{below_after}
use Rattle.dx_joins.specs.Shown.{FitsMatching, IsMatchTuple, MoreTuples, StandFor, is_text}
use Rattle.dx_joins.proofs.Whole.{result_same}
use Rattle.dx_script.specs.declared.form.CellRef.{CellRef}
use Rattle.dx_script.specs.declared.form.Select.{Select}
use Rattle.dx_script.specs.declared.form.Select.TheVariants.{Cell, Call}
use Rattle.dx_script.specs.declared.form.Equal.{Equal}
use Rattle.dx_script.specs.Fits.{CellFits, SelectFits}
use Rattle.dx_script.specs.Names.{table_named, table_names, table_numbered}
use Rattle.dx_script.specs.Meaning.{selected, table_of_alias}
use Rattle.dx_script.proofs.MatchTables.{index_of}
use Rattle.dx_script.proofs.NameFacts.{nat_lt_tells, no_table}
use Rattle.dx_script.proofs.RuleFacts.{WidthsFit, widths_fit}
use Rattle.dx_eval.specs.Variables.{AreVariables, HasVariable, AliasHasCell, cell_count, alias_variables, alias_variable, variable_of}
use Rattle.dx_eval.specs.Query.{IsQuery, IsSelected, alias_atom, alias_atoms, code_found, derived_in, derived_of_selects, next_after, shown_from}
use Rattle.dx_eval.proofs.Joined.{fits_cell}
use Rattle.dx_eval.proofs.NumberOfNames.{number_within}
use Rattle.dx_eval.proofs.Queries.{selected_is_shown}

-- ---- the variables of the atoms

after_low : (cs : List AnyCell) (n : ℕ) → ((x : ℕ) → Var x ∈ cs → x < n) → after_cells cs ≤ n
after_low [] n h = omega arith
after_low (Var x ∷ cs) n h =
    let r = after_low cs n (λ y m. h y (there m)) in
    let k = h x (here refl) in
    elim (nat_lt_tells x (after_cells cs)) [ inl t ↦ rw t.0 r | inr f ↦ rw f.0 (omega arith) ]
after_low (Ex v ∷ cs) n h = after_low cs n (λ y m. h y (there m))
after_low (Lit t ∷ cs) n h = after_low cs n (λ y m. h y (there m))

module _ (source : List TableNames) (sources : List Text) (equal : List Equal) (vars : List (List ℕ)) (n : ℕ) (v : AreVariables source sources equal vars n) where
  -- a cell's variable stands in the atoms
  var_in : (a c : ℕ) → AliasHasCell vars a c → Var (alias_variable vars a c) ∈ cells_of (alias_atoms source sources vars)
  var_in a c h =
      let m = v.shape.many in
      let r = h.row in
      in_flat_map (λ (z : Atom). z.cells) (in_map (alias_atom source sources vars) (in_below a (length sources) (omega (arith, m, r)))) (in_map Var (in_at (alias_variables vars a) c 0 h.cell))

  -- what stands in the atoms is a cell's variable
  from_var : (x : ℕ) → Var x ∈ cells_of (alias_atoms source sources vars) → HasVariable vars x
  from_var x m =
      let w = from_flat_map (λ (z : Atom). z.cells) (alias_atoms source sources vars) m in
      let u = from_map (alias_atom source sources vars) (below (length sources)) w.1 in
      let l = from_below u.0 (length sources) u.1 in
      let k = from_map Var (alias_variables vars u.0) (subst (λ (z : Atom). Var x ∈ z.cells) (sym u.2) w.2) in
      let i = index_of (alias_variables vars u.0) k.0 0 k.1 in
      let same : k.0 ≡ x = let e = k.2 in cc in
      let m = v.shape.many in
      record { alias = u.0; column = i.0; is_cell = record { row = omega (arith, l, m); cell = i.1 }; is = i.2 ∙ same }

  pub after_is : after_cells (cells_of (alias_atoms source sources vars)) ≡ n
  after_is =
      let high : after_cells (cells_of (alias_atoms source sources vars)) ≤ n = after_low (cells_of (alias_atoms source sources vars)) n (λ x m.
      let w = from_var x m in
      subst (λ y. y < n) w.is (v.below_n w.alias w.column w.is_cell)) in
      elim (cases_lt 0 n) [
        | inl l ↦
            let w = v.all (n - 1) (omega arith) in
            let k = below_after (n - 1) (cells_of (alias_atoms source sources vars)) (subst (λ y. Var y ∈ cells_of (alias_atoms source sources vars)) w.is (var_in w.alias w.column w.is_cell)) in
            omega (arith, high, k)
        | inr g ↦ omega (arith, high, g)
      ]

  pub all_stand : (x : ℕ) → x < after_cells (cells_of (alias_atoms source sources vars)) → Var x ∈ cells_of (alias_atoms source sources vars)
  all_stand x h =
      let e = after_is in
      let w = v.all x (omega (arith, h, e)) in
      subst (λ y. Var y ∈ cells_of (alias_atoms source sources vars)) w.is (var_in w.alias w.column w.is_cell)

  -- the variable of a cell that fits is low
  cell_low : (c : CellRef) → CellFits source sources c → variable_of source sources vars c < n
  cell_low c f = v.below_n c.alias _ (fits_cell source sources vars v.shape c f)

  -- arguments of conversions are variables of the premise
  pub args_low : (list : List Conversion) (select : List Select) → Each select (SelectFits source list sources) → Each (derived_of_selects list (variable_of source sources vars) select) (λ (e : Derived). Each e.args (λ y. y < n))
  args_low list select f e m =
      let w = from_flat_map (derived_in list (variable_of source sources vars)) select m in
      one w.0 (f w.0 w.1) w.2
    where
      args : (cells : List CellRef) → Each cells (CellFits source sources) → (y : ℕ) → y ∈ map (variable_of source sources vars) cells → y < n
      args cells g y k = let w = from_map (variable_of source sources vars) cells k in subst (λ z. z < n) w.2 (cell_low w.0 (g w.0 w.1))

      one : (s : Select) → SelectFits source list sources s → e ∈ derived_in list (variable_of source sources vars) s → Each e.args (λ y. y < n)
      one (Cell c) g k = elim k [ ]
      one (Call name cells) g (here q) = subst (λ (z : Derived). Each z.args (λ y. y < n)) q (args cells g.1)
      one (Call name cells) g (there k) = elim k [ ]

  -- shown variables are those of the premise and derived ones
  pub shown_low : (list : List Conversion) (next : ℕ) (select : List Select) → n ≤ next → Each select (SelectFits source list sources) → Each (shown_from (variable_of source sources vars) next select) (λ x. x < next_after next select)
  shown_low list next [] h f x m = elim m [ ]
  shown_low list next (Cell c ∷ select) h f x m = elim m [
    | here e ↦ let l = cell_low c (f (Cell c) (here refl)) in let g = grows next select in omega (arith, e, l, g, h)
    | there k ↦ shown_low list next select h (λ s i. f s (there i)) x k
  ]
    where
      grows : (next : ℕ) (select : List Select) → next ≤ next_after next select
      grows next [] = omega arith
      grows next (Cell c ∷ select) = grows next select
      grows next (Call name args ∷ select) = let r = grows (suc next) select in omega (arith, r)
  shown_low list next (Call name args ∷ select) h f x m = elim m [
    | here e ↦ let g = grows (suc next) select in omega (arith, e, g)
    | there k ↦ shown_low list (suc next) select (omega (arith, h)) (λ s i. f s (there i)) x k
  ]
    where
      grows : (next : ℕ) (select : List Select) → next ≤ next_after next select
      grows next [] = omega arith
      grows next (Cell c ∷ select) = grows next select
      grows next (Call name args ∷ select) = let r = grows (suc next) select in omega (arith, r)

-- how many derived variables there are
pub next_is : (list : List Conversion) (variable : CellRef → ℕ) (next : ℕ) (select : List Select) → next_after next select ≡ next + length (derived_of_selects list variable select)
next_is list variable next [] = omega arith
next_is list variable next (Cell c ∷ select) = next_is list variable next select
next_is list variable next (Call name args ∷ select) = let r = next_is list variable (suc next) select in omega (arith, r)

pub shown_long : (variable : CellRef → ℕ) (next : ℕ) (select : List Select) → length (shown_from variable next select) ≡ length select
shown_long variable next [] = refl
shown_long variable next (Cell c ∷ select) = let r = shown_long variable next select in omega (arith, r)
shown_long variable next (Call name args ∷ select) = let r = shown_long variable (suc next) select in omega (arith, r)

-- ---- cells and widths

cells_long : (source : List TableNames) (sources : List Text) (vars : List (List ℕ)) (xs : List ℕ) → length (cells_of (map (alias_atom source sources vars) xs)) ≡ sum (map (λ a. length (alias_variables vars a)) xs)
cells_long source sources vars [] = refl
cells_long source sources vars (x ∷ xs) =
    let r = cells_long source sources vars xs in
    let s = sum_by-cons (λ (y : ℕ). y) (length (alias_variables vars x)) (map (λ a. length (alias_variables vars a)) xs) in
    let a = length-append (map Var (alias_variables vars x)) (cells_of (map (alias_atom source sources vars) xs)) in
    let b = length-map (alias_variables vars x) Var in
    omega (arith, r, a, b, s)

get_at : (xs : List ℕ) (i : ℕ) → i < length xs → slice_get xs i ≡ Some (get_or xs i 0)
get_at [] i h = absurd (omega arith)
get_at (x ∷ xs) zero h = refl
get_at (x ∷ xs) (suc i) h = get_at xs i (omega arith)

pub named_long : (f : Forest) → length (table_names (table_names_of f)) ≡ length (tables_of f)
named_long f = length-map (table_names_of f) (λ (t : TableNames). t.name) ∙ length-map (tables_of f) names_of_table

-- the width of a table that has a name
pub width_at : (f : Forest) (t : ℕ) → t < length (tables_of f) → get_or (schema_widths f) t 0 ≡ length (table_numbered (table_names_of f) t).columns
width_at f t h =
    let d : TableOf = nothing_there in
    get_or-map (λ (z : TableOf). length z.columns) (tables_of f) t d 0 h ∙ ap (λ (z : TableNames). length z.columns) (sym (get_or-map names_of_table (tables_of f) t d no_table h))

wide_atom : (f : Forest) (name : Text) → name ∈ table_names (table_names_of f) → slice_get (schema_widths f) (table_named (table_names_of f) name) ≡ Some (length (table_numbered (table_names_of f) (table_named (table_names_of f) name)).columns)
wide_atom f name m =
    let t : ℕ = table_named (table_names_of f) name in
    let h : t < length (tables_of f) = rw (named_long f) at (number_within name (table_names (table_names_of f)) m) in
    let k : t < length (schema_widths f) = rw (length-map (tables_of f) (λ (z : TableOf). length z.columns)) h in
    get_at (schema_widths f) t k ∙ ap Some (width_at f t h)

plain_vars : (xs : List ℕ) → (c : AnyCell) → c ∈ map Var xs → (x : ℕ) × (c ≡ Var x)
plain_vars xs c m = let w = from_map Var xs m in (w.0, sym w.2)

-- ---- the whole

module _ (f : Forest) (list : List Conversion) (select : List Select) (sources : List Text) (equal : List Equal) (premise : List Atom) (derived : List Derived) (shown : List ℕ)
    (q : IsQuery (table_names_of f) list select sources equal premise derived shown) (selects : Each select (SelectFits (table_names_of f) list sources)) where
  pub query_fits : (ws : List ℕ) → ws ≡ schema_widths f → Each sources (λ name. name ∈ table_names (table_names_of f)) → 0 < length sources → length select < 2 ^ 32 → FitsMatching ws premise derived shown
  query_fits ws we named some short =
      let v = q.variables in
      let atoms = q.atoms in
      let ends = after_is (table_names_of f) sources equal q.vars q.n v in
      let many = next_is list (variable_of (table_names_of f) sources q.vars) q.n select in
      let few = q.few in
      let dl : length derived ≡ length (derived_of_selects list (variable_of (table_names_of f) sources q.vars) select) = ap length q.derives in
      let after : after_cells (cells_of premise) ≡ q.n = ap (λ (p : List Atom). after_cells (cells_of p)) atoms ∙ ends in
      record {
        some = rw (atoms, length-map (below (length sources)) (alias_atom (table_names_of f) sources q.vars), below_long (length sources)) some;
        plain = λ a m c k.
            let w = from_map (alias_atom (table_names_of f) sources q.vars) (below (length sources)) (subst (λ (p : List Atom). a ∈ p) atoms m) in
            let x = plain_vars (alias_variables q.vars w.0) c (subst (λ (z : Atom). c ∈ z.cells) (sym w.2) k) in
            rw x.1 tt;
        wide = λ a m.
            let w = from_map (alias_atom (table_names_of f) sources q.vars) (below (length sources)) (subst (λ (p : List Atom). a ∈ p) atoms m) in
            let l = from_below w.0 (length sources) w.1 in
            let name : slice_index_or sources w.0 [] ∈ table_names (table_names_of f) = named _ (in_at sources w.0 [] l) in
            let cells : length (map Var (alias_variables q.vars w.0)) ≡ length (table_numbered (table_names_of f) (table_of_alias (table_names_of f) sources w.0)).columns = length-map (alias_variables q.vars w.0) Var ∙ v.shape.wide w.0 l in
            rw (← w.2, we) (wide_atom f (slice_index_or sources w.0 []) name ∙ ap Some (sym cells));
        numbered = λ x h. rw atoms (all_stand (table_names_of f) sources equal q.vars q.n v x (rw atoms at h));
        args = λ e m y k. rw after (args_low (table_names_of f) sources equal q.vars q.n v list select selects e (subst (λ (d : List Derived). e ∈ d) q.derives m) y k);
        known = λ x m.
            let l = shown_low (table_names_of f) sources equal q.vars q.n v list q.n select (omega arith) selects x (subst (λ (s : List ℕ). x ∈ s) q.shows m) in
            omega (arith, l, many, dl, after);
        numbers = omega (arith, many, dl, after, few);
        few = let c = v.few in
            let l = cells_long (table_names_of f) sources q.vars (below (length sources)) in
            let e : cell_count q.vars ≡ sum (map (λ a. length (alias_variables q.vars a)) (below (length sources))) = ap (λ k. sum (map (λ a. length (alias_variables q.vars a)) (below k))) v.shape.many in
            let p : length (cells_of premise) ≡ length (cells_of (alias_atoms (table_names_of f) sources q.vars)) = ap (λ (p : List Atom). length (cells_of p)) atoms in
            omega (arith, c, l, e, p);
        short = let l = shown_long (variable_of (table_names_of f) sources q.vars) q.n select in let e = ap length q.shows in omega (arith, l, e, short);
      }
    where
      below_long : (n : ℕ) → length (below n) ≡ n
      below_long zero = refl
      below_long (suc n) = let r = below_long n in omega (arith, r, length-append (below n) (n ∷ []))

  -- the conversions of the derived variables are listed
  pub query_listed : Each derived (λ (e : Derived). IsListed list e.code (length e.args))
  query_listed e m =
      let w = from_flat_map (derived_in list (variable_of (table_names_of f) sources q.vars)) select (subst (λ (d : List Derived). e ∈ d) q.derives m) in
      one w.0 (selects w.0 w.1) w.2
    where
      listed : (name : Text) (count : ℕ) (o : Option Conversion) → first_named list name ≡ o → MatchOption o ⊥ (λ (c : Conversion). c.arity ≡ count) → IsListed list (code_found o) count
      listed name count None p h = absurd h
      listed name count (Some c) p h = (c, found_listed list name c p, refl, h)

      one : (s : Select) → SelectFits (table_names_of f) list sources s → e ∈ derived_in list (variable_of (table_names_of f) sources q.vars) s → IsListed list e.code (length e.args)
      one (Cell c) g k = elim k [ ]
      one (Call name cells) g (here p) = subst (λ (z : Derived). IsListed list z.code (length z.args)) p
          (rw (length-map cells (variable_of (table_names_of f) sources q.vars)) (listed name (length cells) (first_named list name) refl g.0))
      one (Call name cells) g (there k) = elim k [ ]

  -- what the step selects is what the query shows
  pub query_means : (convert : Conversions) (I : List Fact) → Each equal (λ (e : Equal). CellFits (table_names_of f) sources e.left × CellFits (table_names_of f) sources e.right)
      → ((z : Fact) → z ∈ I → length z.row ≡ length (table_numbered (table_names_of f) z.table).columns) → (t : Tuple)
      → IsMatchTuple convert premise derived I shown t ↔ IsSelected (table_names_of f) (call_named convert list) I select sources equal t
  query_means convert I equals widths t =
      let v = q.variables in
      let s = selected_is_shown (table_names_of f) list convert I select sources equal q.vars q.n v selects equals widths (after_is (table_names_of f) sources equal q.vars q.n v) (args_low (table_names_of f) sources equal q.vars q.n v list select selects) t in
      rw (q.atoms, q.derives, q.shows) (s.1, s.0)

-- ---- no aliases

-- what a step without aliases selects
pub nothing_selected : (source : List TableNames) (list : List Conversion) (select : List Select) (sources : List Text) → length sources ≡ 0 → ((c : Conversion) → c ∈ list → 1 ≤ c.arity) → Each select (SelectFits source list sources) → select ≡ []
nothing_selected source list [] sources e some f = refl
nothing_selected source list (Cell c ∷ select) sources e some f = absurd (let h = (f (Cell c) (here refl)).alias in omega (arith, h, e))
nothing_selected source list (Call name [] ∷ select) sources e some f = absurd (none (first_named list name) refl (f (Call name []) (here refl)).0)
  where
    none : (o : Option Conversion) → first_named list name ≡ o → MatchOption o ⊥ (λ (c : Conversion). c.arity ≡ 0) → ⊥
    none None p h = h
    none (Some c) p h = let k = some c (found_listed list name c p) in omega (arith, h, k)
nothing_selected source list (Call name (a ∷ args) ∷ select) sources e some f = absurd (let h = ((f (Call name (a ∷ args)) (here refl)).1 a (here refl)).alias in omega (arith, h, e))

-- ---- in loops

pub derived_more : (list : List Conversion) (variable : CellRef → ℕ) (select : List Select) (i : ℕ) (s : Select) (name : Text) (args : List CellRef) (old new : List Derived) (d : Derived) → i < length select → s ≡ get_or select i s → s ≡ Call name args
    → d.code ≡ code_found (first_named list name) → d.args ≡ map variable args → old ≡ derived_of_selects list variable (take i select) → new ≡ old ++ d ∷ [] → new ≡ derived_of_selects list variable (take (i + 1) select)
derived_more list variable select i s name args old new d h is v code same o n =
    let all : take (i + 1) select ≡ take i select ++ s ∷ [] = take_more select i s h ∙ ap (λ z. take i select ++ z ∷ []) (sym is) in
    let one : ◌≡◌ {A = Derived} d (record { code = code_found (first_named list name); args = map variable args }) = (λ j. record { code = code j; args = same j }) in
    let here_is : derived_in list variable s ≡ d ∷ [] = ap (derived_in list variable) v ∙ ap (λ (z : Derived). z ∷ []) (sym one) in
    n ∙ (ap (λ (z : List Derived). z ++ d ∷ []) o ∙ sym (ap (derived_of_selects list variable) all ∙ (flat_map-append (derived_in list variable) (take i select) (s ∷ []) ∙ ap (λ (z : List Derived). derived_of_selects list variable (take i select) ++ z) (append-nil (derived_in list variable s) ∙ here_is))))

pub derived_same : (list : List Conversion) (variable : CellRef → ℕ) (select : List Select) (i : ℕ) (s : Select) (old : List Derived) → i < length select → s ≡ get_or select i s → ((name : Text) (args : List CellRef) → ¬ (s ≡ Call name args))
    → old ≡ derived_of_selects list variable (take i select) → old ≡ derived_of_selects list variable (take (i + 1) select)
derived_same list variable select i s old h is n o =
    let all : take (i + 1) select ≡ take i select ++ s ∷ [] = take_more select i s h ∙ ap (λ z. take i select ++ z ∷ []) (sym is) in
    o ∙ sym (ap (derived_of_selects list variable) all ∙ (flat_map-append (derived_in list variable) (take i select) (s ∷ []) ∙ (ap (λ (z : List Derived). derived_of_selects list variable (take i select) ++ z) (append-nil (derived_in list variable s) ∙ none s n) ∙ append-nil (derived_of_selects list variable (take i select)))))
  where
    none : (s : Select) → ((name : Text) (args : List CellRef) → ¬ (s ≡ Call name args)) → derived_in list variable s ≡ []
    none (Cell c) n = refl
    none (Call name args) n = absurd (n name args refl)

shown_append : (variable : CellRef → ℕ) (next : ℕ) (xs ys : List Select) → shown_from variable next (xs ++ ys) ≡ shown_from variable next xs ++ shown_from variable (next_after next xs) ys
shown_append variable next [] ys = refl
shown_append variable next (Cell c ∷ xs) ys = ap (λ z. variable c ∷ z) (shown_append variable next xs ys)
shown_append variable next (Call name args ∷ xs) ys = ap (λ z. next ∷ z) (shown_append variable (suc next) xs ys)

next_append : (next : ℕ) (xs ys : List Select) → next_after next (xs ++ ys) ≡ next_after (next_after next xs) ys
next_append next [] ys = refl
next_append next (Cell c ∷ xs) ys = next_append next xs ys
next_append next (Call name args ∷ xs) ys = next_append (suc next) xs ys

module _ (variable : CellRef → ℕ) (first : ℕ) (select : List Select) (i : ℕ) (s : Select) (h : i < length select) (is : s ≡ get_or select i s) where
  all_selects : take (i + 1) select ≡ take i select ++ s ∷ []
  all_selects = take_more select i s h ∙ ap (λ z. take i select ++ z ∷ []) (sym is)

  pub shown_cell : (c : CellRef) (old new : List ℕ) (x : ℕ) → s ≡ Cell c → x ≡ variable c → old ≡ shown_from variable first (take i select) → new ≡ old ++ x ∷ [] → new ≡ shown_from variable first (take (i + 1) select)
  shown_cell c old new x v e o n =
      n ∙ (ap (λ z. z ++ x ∷ []) o ∙ (ap (λ z. shown_from variable first (take i select) ++ z ∷ []) e ∙ sym (ap (shown_from variable first) all_selects ∙ (shown_append variable first (take i select) (s ∷ []) ∙ ap (λ z. shown_from variable first (take i select) ++ shown_from variable (next_after first (take i select)) (z ∷ [])) v))))

  pub shown_call : (name : Text) (args : List CellRef) (old new : List ℕ) (x : ℕ) → s ≡ Call name args → x ≡ next_after first (take i select) → old ≡ shown_from variable first (take i select) → new ≡ old ++ x ∷ [] → new ≡ shown_from variable first (take (i + 1) select)
  shown_call name args old new x v e o n =
      n ∙ (ap (λ z. z ++ x ∷ []) o ∙ (ap (λ z. shown_from variable first (take i select) ++ z ∷ []) e ∙ sym (ap (shown_from variable first) all_selects ∙ (shown_append variable first (take i select) (s ∷ []) ∙ ap (λ z. shown_from variable first (take i select) ++ shown_from variable (next_after first (take i select)) (z ∷ [])) v))))

  pub next_cell : (c : CellRef) (x : ℕ) → s ≡ Cell c → x ≡ next_after first (take i select) → x ≡ next_after first (take (i + 1) select)
  next_cell c x v e = e ∙ sym (ap (next_after first) all_selects ∙ (next_append first (take i select) (s ∷ []) ∙ ap (λ z. next_after (next_after first (take i select)) (z ∷ [])) v))

  pub next_call : (name : Text) (args : List CellRef) (x : ℕ) → s ≡ Call name args → x ≡ next_after first (take i select) → x + 1 ≡ next_after first (take (i + 1) select)
  next_call name args x v e =
      let r = ap (next_after first) all_selects ∙ (next_append first (take i select) (s ∷ []) ∙ ap (λ z. next_after (next_after first (take i select)) (z ∷ [])) v) in
      omega (arith, e, r)

-- ---- what is selected fits

pub call_args : (source : List TableNames) (list : List Conversion) (sources : List Text) (s : Select) (name : Text) (args : List CellRef) → s ≡ Call name args → SelectFits source list sources s → Each args (CellFits source sources)
call_args source list sources s name args e f = let g : SelectFits source list sources (Call name args) = subst (SelectFits source list sources) e f in g.1

pub the_cell : (source : List TableNames) (list : List Conversion) (sources : List Text) (s : Select) (c : CellRef) → s ≡ Cell c → SelectFits source list sources s → CellFits source sources c
the_cell source list sources s c e f = subst (SelectFits source list sources) e f

-- one atom more
pub premise_more : (source : List TableNames) (sources : List Text) (vars : List (List ℕ)) (alias table : ℕ) (name : Text) (row : List ℕ) (cells : List AnyCell) (old new : List Atom) → alias < length sources → alias < length vars
    → name ≡ get_or sources alias name → row ≡ get_or vars alias row → table ≡ table_named source name → cells ≡ map Var row → old ≡ map (alias_atom source sources vars) (below alias)
    → new ≡ old ++ record { table = table; cells = cells } ∷ [] → new ≡ map (alias_atom source sources vars) (below (alias + 1))
premise_more source sources vars alias table name row cells old new h k ne re te ce o n =
    let named : name ≡ slice_index_or sources alias [] = ne ∙ get_or_default sources alias name [] h in
    let rowed : row ≡ alias_variables vars alias = re ∙ get_or_default vars alias row [] k in
    let t : table ≡ table_of_alias source sources alias = te ∙ ap (table_named source) named in
    let c : cells ≡ map Var (alias_variables vars alias) = ce ∙ ap (map Var) rowed in
    let one : ◌≡◌ {A = Atom} (record { table = table; cells = cells }) (alias_atom source sources vars alias) = (λ i. record { table = t i; cells = c i }) in
    let up : alias + 1 ≡ suc alias = omega arith in
    let next : below (alias + 1) ≡ below alias ++ alias ∷ [] = ap below up in
    n ∙ (ap (λ (z : List Atom). z ++ record { table = table; cells = cells } ∷ []) o ∙ (ap (λ (z : Atom). map (alias_atom source sources vars) (below alias) ++ z ∷ []) one ∙ sym (ap (map (alias_atom source sources vars)) next ∙ map_push (alias_atom source sources vars) (below alias) alias)))

-- a step without aliases selects the empty tuple
pub empty_selected : (source : List TableNames) (list : List Conversion) (call : Text → Tuple → Text) (I : List Fact) (select : List Select) (sources : List Text) (equal : List Equal) → length sources ≡ 0 → ((c : Conversion) → c ∈ list → 1 ≤ c.arity)
    → Each select (SelectFits source list sources) → Each equal (λ (e : Equal). CellFits source sources e.left × CellFits source sources e.right)
    → (length select ≡ 0) × ((t : Tuple) → (t ≡ []) ↔ IsSelected source call I select sources equal t)
empty_selected source list call I select sources equal e some f g =
    let none : select ≡ [] = nothing_selected source list select sources e some f in (
      ap length none,
      λ t. (
        (λ q. (
          (λ a. []),
          record { of_source = λ a h. absurd (omega (arith, h, e)); agree = λ k m. absurd (let h = (g k m).0 in let l = h.alias in omega (arith, l, e)) },
          q ∙ sym (ap (map (selected source call sources (λ a. []))) none),
        )),
        (λ (rows, h, q). q ∙ ap (map (selected source call sources rows)) none),
      ),
    )

-- so does the row without numbers stand for it
pub empty_stands : (r : Result (Option NumberTable) AllocError) (most w : ℕ) (P : Tuple → Type 0) (S : List Value) → w ≡ 0 → ((t : Tuple) → (t ≡ []) ↔ P t)
    → IfOk r (λ o. MatchOption o (most ≡ 0) (λ t. t ≡ record { width = 0; rows = [] ∷ [] })) → IfOk r (λ o. MatchOption o (MoreTuples most P) (StandFor w P S))
empty_stands (Err x) most w P S e p k = tt
empty_stands (Ok None) most w P S e p k = record { tuples = [] ∷ []; distinct = ((λ m. elim m [ ]), tt); each = λ t m. (p t).0 (only t m); more = omega (arith, k); few = omega arith }
  where
    only : (t : Tuple) → t ∈ ([] ∷ []) → t ≡ []
    only t (here q) = sym q
    only t (there m) = elim m [ ]
empty_stands (Ok (Some r)) most w P S e p k = rw k (record {
  width = sym e;
  ascend = λ i j d a b. absurd (omega (arith, a, b));
  texts = λ row m n q. none row m n q;
  exact = λ t. ((λ m. (p t).0 (only t m)), (λ q. here (sym ((p t).1 q))));
})
  where
    only : (t : Tuple) → t ∈ ([] ∷ []) → t ≡ []
    only t (here q) = sym q
    only t (there m) = elim m [ ]

    none : (row : List ℕ) → row ∈ ([] ∷ []) → (n : ℕ) → n ∈ row → (n < length S) × (is_text (value_of S n) ≡ true)
    none row (here q) n m = elim (rw (← q) at m) [ ]
    none row (there z) n m = elim z [ ]

-- ---- rows of a source

pub source_widths : (f : Forest) (S : List Value) (ts : List NumberTable) → PartsFit S ts → widths (shown_tables S ts) ≡ schema_widths f → WidthsFit (table_names_of f) (facts (shown_tables S ts))
source_widths f S ts p e =
    let each = (all_fit S ts p).each in
    let same : widths (shown_tables S ts) ≡ map (λ (t : Table). t.width) (model_tables f) = e ∙ sym (map-map (λ (t : Table). t.width) as_numbers (tables_of f)) in
    widths_fit f (facts (shown_tables S ts)) (facts_fit (model_tables f) (shown_tables S ts) same (λ t m. (each t m).each))

-- what is found of the query is found of the step
module _ (f : Forest) (list : List Conversion) (select : List Select) (sources : List Text) (equal : List Equal) (premise : List Atom) (derived : List Derived) (shown : List ℕ)
    (q : IsQuery (table_names_of f) list select sources equal premise derived shown) (selects : Each select (SelectFits (table_names_of f) list sources)) where
  pub query_rows : (result : Result (Option NumberTable) AllocError) (most : ℕ) (S : List Value) (convert : Conversions) (I : List Fact) (p : List Atom) (d : List Derived) (s : List ℕ)
      → Each equal (λ (e : Equal). CellFits (table_names_of f) sources e.left × CellFits (table_names_of f) sources e.right) → WidthsFit (table_names_of f) I → p ≡ premise → d ≡ derived → s ≡ shown
      → IfOk result (λ o. MatchOption o (MoreTuples most (IsMatchTuple convert p d I s)) (StandFor (length s) (IsMatchTuple convert p d I s) S))
      → IfOk result (λ o. MatchOption o (MoreTuples most (IsSelected (table_names_of f) (call_named convert list) I select sources equal)) (StandFor (length select) (IsSelected (table_names_of f) (call_named convert list) I select sources equal) S))
  query_rows result most S convert I p d s equals wide pe de se k =
      let long : length s ≡ length select = ap length (se ∙ q.shows) ∙ shown_long (variable_of (table_names_of f) sources q.vars) q.n select in
      result_same result most (length select) (IsMatchTuple convert p d I s) (IsSelected (table_names_of f) (call_named convert list) I select sources equal) S
      (λ t. rw (pe, de, se) (query_means f list select sources equal premise derived shown q selects convert I equals wide t))
      (subst (λ (w : ℕ). IfOk result (λ o. MatchOption o (MoreTuples most (IsMatchTuple convert p d I s)) (StandFor w (IsMatchTuple convert p d I s) S))) long k)

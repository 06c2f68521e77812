-- Each match step has a match table.
use Rattle.std.proofs.Common.{◌≡◌, ◌⊎◌, ℕ, zero, suc, ◌<◌, List, [], ◌∷◌, length, get_or, refl, sym, ◌∙◌, ap, subst, inl, inr, arith}
use Rattle.std.specs.Prelude.{map, flat_map, slice_index_or}
use Rattle.std.proofs.lemmas.Bool.{cases_eq}
use Rattle.std.proofs.lemmas.List.{get_or-map, length-map}
use Rattle.dx_base.specs.Members.{◌∈◌, here, there, Each}
use Rattle.dx_base.proofs.Members.{from_flat_map, from_map, in_flat_map, in_map}
use Rattle.dx_base.proofs.Tests.{map_same}
use Rattle.dx_model.specs.declared.facts.Fact.{Fact}
use Rattle.dx_model.specs.declared.values.Value.{Value}
use Rattle.dx_model.specs.declared.values.Value.TheVariants.{Const, Null}
use Rattle.dx_model.specs.Values.{Tuple, tuple_cmp}
use Rattle.dx_base.specs.Texts.{Text}
use Rattle.dx_model.proofs.Ascending.{from_in_order, in_in_order, in_order, in_order_ascends}
use Rattle.dx_model.proofs.Decided.{same_list}
use Rattle.dx_model.proofs.Orders.{tuple_exact, tuple_total}
use Rattle.dx_schema.specs.Names.{TableNames}
use Rattle.dx_funcs.specs.declared.conversion.Conversion.{Conversion}
use Rattle.dx_script.specs.declared.form.CellRef.{CellRef}
use Rattle.dx_script.specs.declared.form.Select.{Select}
use Rattle.dx_script.specs.declared.form.Select.TheVariants.{Cell, Call}
use Rattle.dx_script.specs.declared.form.Equal.{Equal}
use Rattle.dx_script.specs.Fits.{CellFits, SelectFits}
use Rattle.dx_script.specs.Names.{column_named, table_named}
use Rattle.dx_script.specs.Meaning.{IsMatchTable, alias_cell_text, selected, table_of_alias}
use Rattle.dx_eval.specs.Query.{IsSelected}

-- ---- tuples of a table

-- the texts of a row of constants
constants : List Value → List Tuple
constants [] = [] ∷ []
constants (Const t ∷ vs) = map (λ (ts : Tuple). t ∷ ts) (constants vs)
constants (Null n ∷ vs) = []

in_constants : (ts : Tuple) → ts ∈ constants (map Const ts)
unfolding constants
in_constants [] = here refl
in_constants (t ∷ ts) = in_map (λ (us : Tuple). t ∷ us) (in_constants ts)

from_constants : (vs : List Value) (ts : Tuple) → ts ∈ constants vs → map Const ts ≡ vs
unfolding constants
from_constants [] ts (here e) = ap (map Const) (sym e)
from_constants [] ts (there m) = elim m [ ]
from_constants (Const t ∷ vs) ts m =
    let w = from_map (λ (us : Tuple). t ∷ us) (constants vs) m in
    let r = from_constants vs w.0 w.1 in
    ap (map Const) (sym w.2) ∙ ap (λ (z : List Value). Const t ∷ z) r
from_constants (Null n ∷ vs) ts m = elim m [ ]

row_if : (f : Fact) (t : ℕ) → (f.table ≡ t) ⊎ (f.table ≡ t → ⊥) → List Tuple
row_if f t (inl e) = constants f.row
row_if f t (inr n) = []

rows_in : List Fact → ℕ → List Tuple
rows_in I t = flat_map (λ (f : Fact). row_if f t (cases_eq f.table t)) I

in_rows : (I : List Fact) (t : ℕ) (ts : Tuple) → ◌∈◌ {X = Fact} (record { table = t; row = map Const ts }) I → ts ∈ rows_in I t
unfolding row_if rows_in
in_rows I t ts m = in_flat_map (λ (f : Fact). row_if f t (cases_eq f.table t)) m (go (cases_eq t t))
  where
    go : (o : (t ≡ t) ⊎ (t ≡ t → ⊥)) → ts ∈ row_if (record { table = t; row = map Const ts }) t o
    go (inl e) = in_constants ts
    go (inr n) = absurd (n refl)

from_rows : (I : List Fact) (t : ℕ) (ts : Tuple) → ts ∈ rows_in I t → ◌∈◌ {X = Fact} (record { table = t; row = map Const ts }) I
unfolding row_if rows_in
from_rows I t ts m = let w = from_flat_map (λ (f : Fact). row_if f t (cases_eq f.table t)) I m in go w.0 w.1 (cases_eq (w.0).table t) w.2
  where
    go : (f : Fact) → f ∈ I → (o : (f.table ≡ t) ⊎ (f.table ≡ t → ⊥)) → ts ∈ row_if f t o → ◌∈◌ {X = Fact} (record { table = t; row = map Const ts }) I
    go f k (inl e) q =
        let r = from_constants f.row ts q in
        let same : ◌≡◌ {A = Fact} f (record { table = t; row = map Const ts }) = (λ i. record { table = e i; row = sym r i }) in
        subst (λ (z : Fact). z ∈ I) same k
    go f k (inr n) q = elim q [ ]

-- ---- all choices

choices : List (List Tuple) → List (List Tuple)
choices [] = [] ∷ []
choices (xs ∷ xss) = flat_map (λ (x : Tuple). map (λ (r : List Tuple). x ∷ r) (choices xss)) xs

in_choices : (xss : List (List Tuple)) (rows : List Tuple) → length rows ≡ length xss → ((a : ℕ) → a < length xss → get_or rows a [] ∈ get_or xss a []) → rows ∈ choices xss
unfolding choices
in_choices [] [] e h = here refl
in_choices [] (r ∷ rows) e h = absurd (omega (arith, e))
in_choices (xs ∷ xss) [] e h = absurd (omega (arith, e))
in_choices (xs ∷ xss) (r ∷ rows) e h =
    in_flat_map (λ (x : Tuple). map (λ (q : List Tuple). x ∷ q) (choices xss)) (h 0 (omega arith)) (in_map (λ (q : List Tuple). r ∷ q) (in_choices xss rows (omega (arith, e)) (λ a l. h (suc a) (omega arith))))

from_choices : (xss : List (List Tuple)) (rows : List Tuple) → rows ∈ choices xss → (a : ℕ) → a < length xss → get_or rows a [] ∈ get_or xss a []
unfolding choices
from_choices [] rows m a h = absurd (omega arith)
from_choices (xs ∷ xss) rows m a h =
    let w = from_flat_map (λ (x : Tuple). map (λ (q : List Tuple). x ∷ q) (choices xss)) xs m in
    let u = from_map (λ (q : List Tuple). w.0 ∷ q) (choices xss) w.2 in
    subst (λ (z : List Tuple). get_or z a [] ∈ get_or (xs ∷ xss) a []) u.2 (go w.0 w.1 u.0 (from_choices xss u.0 u.1) a h)
  where
    go : (x : Tuple) → x ∈ xs → (q : List Tuple) → ((b : ℕ) → b < length xss → get_or q b [] ∈ get_or xss b []) → (b : ℕ) → b < length (xs ∷ xss) → get_or (x ∷ q) b [] ∈ get_or (xs ∷ xss) b []
    go x k q f zero l = k
    go x k q f (suc b) l = f b (omega arith)

front : (ℕ → Tuple) → ℕ → List Tuple
front rows zero = []
front rows (suc n) = rows 0 ∷ front (λ a. rows (suc a)) n

front_long : (rows : ℕ → Tuple) (n : ℕ) → length (front rows n) ≡ n
unfolding front
front_long rows zero = refl
front_long rows (suc n) = let r = front_long (λ a. rows (suc a)) n in omega (arith, r)

front_at : (rows : ℕ → Tuple) (n a : ℕ) → a < n → get_or (front rows n) a [] ≡ rows a
unfolding front
front_at rows zero a h = absurd (omega arith)
front_at rows (suc n) zero h = refl
front_at rows (suc n) (suc a) h = front_at (λ b. rows (suc b)) n a (omega arith)

-- ---- what is selected

module _ (source : List TableNames) (list : List Conversion) (call : Text → Tuple → Text) (I : List Fact) (select : List Select) (sources : List Text) (equal : List Equal)
    (selects : Each select (SelectFits source list sources)) (equals : Each equal (λ (e : Equal). CellFits source sources e.left × CellFits source sources e.right)) where
  abbrev by : List Tuple → ℕ → Tuple
  by rows a = slice_index_or rows a []

  Agrees : List Tuple → Type 0
  Agrees rows = (e : Equal) → e ∈ equal → alias_cell_text source sources (by rows) e.left ≡ alias_cell_text source sources (by rows) e.right

  agree_in : (rows : List Tuple) (es : List Equal) → ((e : Equal) → e ∈ es → alias_cell_text source sources (by rows) e.left ≡ alias_cell_text source sources (by rows) e.right)
      ⊎ (¬ ((e : Equal) → e ∈ es → alias_cell_text source sources (by rows) e.left ≡ alias_cell_text source sources (by rows) e.right))
  agree_in rows [] = inl (λ e m. elim m [ ])
  agree_in rows (q ∷ es) = elim (same_list cases_eq (alias_cell_text source sources (by rows) q.left) (alias_cell_text source sources (by rows) q.right)) [
    | inr n ↦ inr (λ h. n (h q (here refl)))
    | inl p ↦ elim (agree_in rows es) [ inr n ↦ inr (λ h. n (λ e m. h e (there m))) | inl k ↦ inl (both p k) ]
  ]
    where
      both : alias_cell_text source sources (by rows) q.left ≡ alias_cell_text source sources (by rows) q.right → ((e : Equal) → e ∈ es → alias_cell_text source sources (by rows) e.left ≡ alias_cell_text source sources (by rows) e.right)
          → (e : Equal) → e ∈ (q ∷ es) → alias_cell_text source sources (by rows) e.left ≡ alias_cell_text source sources (by rows) e.right
      both p k e (here d) = subst (λ (z : Equal). alias_cell_text source sources (by rows) z.left ≡ alias_cell_text source sources (by rows) z.right) d p
      both p k e (there m) = k e m

  tuple_if : (rows : List Tuple) → ((e : Equal) → e ∈ equal → alias_cell_text source sources (by rows) e.left ≡ alias_cell_text source sources (by rows) e.right)
      ⊎ (¬ ((e : Equal) → e ∈ equal → alias_cell_text source sources (by rows) e.left ≡ alias_cell_text source sources (by rows) e.right)) → List Tuple
  tuple_if rows (inl g) = map (selected source call sources (by rows)) select ∷ []
  tuple_if rows (inr n) = []

  tables : List (List Tuple)
  tables = map (λ (name : Text). rows_in I (table_named source name)) sources

  some : List Tuple
  some = flat_map (λ (rows : List Tuple). tuple_if rows (agree_in rows equal)) (choices tables)

  table_at : (a : ℕ) → a < length sources → get_or tables a [] ≡ rows_in I (table_of_alias source sources a)
  unfolding tables
  table_at a h = get_or-map (λ (name : Text). rows_in I (table_named source name)) sources a [] [] h

  tables_long : length tables ≡ length sources
  unfolding tables
  tables_long = length-map sources (λ (name : Text). rows_in I (table_named source name))

  from_some : (t : Tuple) → t ∈ some → IsSelected source call I select sources equal t
  unfolding some tuple_if
  from_some t m = let w = from_flat_map (λ (rows : List Tuple). tuple_if rows (agree_in rows equal)) (choices tables) m in go w.0 w.1 (agree_in w.0 equal) w.2
    where
      go : (rows : List Tuple) → rows ∈ choices tables → (o : ((e : Equal) → e ∈ equal → alias_cell_text source sources (by rows) e.left ≡ alias_cell_text source sources (by rows) e.right)
          ⊎ (¬ ((e : Equal) → e ∈ equal → alias_cell_text source sources (by rows) e.left ≡ alias_cell_text source sources (by rows) e.right))) → t ∈ tuple_if rows o → IsSelected source call I select sources equal t
      go rows k (inl g) (here e) = (
        by rows,
        record {
          of_source = λ a h. from_rows I (table_of_alias source sources a) (by rows a) (rw (← table_at a h) (from_choices tables rows k a (rw tables_long h)));
          agree = g;
        },
        sym e,
      )
      go rows k (inl g) (there q) = elim q [ ]
      go rows k (inr n) q = elim q [ ]

  -- cells below the aliases have the texts of the list
  same_cell : (rows : ℕ → Tuple) (c : CellRef) → CellFits source sources c → alias_cell_text source sources (by (front rows (length sources))) c ≡ alias_cell_text source sources rows c
  same_cell rows c f = ap (λ (r : Tuple). slice_index_or r (column_named source (table_of_alias source sources c.alias) c.column) []) (front_at rows (length sources) c.alias f.alias)

  same_select : (rows : ℕ → Tuple) (s : Select) → SelectFits source list sources s → selected source call sources (by (front rows (length sources))) s ≡ selected source call sources rows s
  same_select rows (Cell c) f = same_cell rows c f
  same_select rows (Call name args) f = ap (call name) (map_same (alias_cell_text source sources (by (front rows (length sources)))) (alias_cell_text source sources rows) args (λ c m. same_cell rows c (f.1 c m)))

  in_some : (t : Tuple) → IsSelected source call I select sources equal t → t ∈ some
  unfolding some tuple_if
  in_some t (rows, g, e) =
      let listed : List Tuple = front rows (length sources) in
      let member : listed ∈ choices tables = in_choices tables listed (front_long rows (length sources) ∙ sym tables_long) (λ a h.
      let k : a < length sources = rw (← tables_long) h in
      rw (front_at rows (length sources) a k, table_at a k) (in_rows I (table_of_alias source sources a) (rows a) (g.of_source a k))) in
      let agrees : (q : Equal) → q ∈ equal → alias_cell_text source sources (by listed) q.left ≡ alias_cell_text source sources (by listed) q.right =
      (λ q m. same_cell rows q.left (equals q m).0 ∙ (g.agree q m ∙ sym (same_cell rows q.right (equals q m).1))) in
      let same : map (selected source call sources (by listed)) select ≡ t =
      map_same (selected source call sources (by listed)) (selected source call sources rows) select (λ s m. same_select rows s (selects s m)) ∙ sym e in
      in_flat_map (λ (r : List Tuple). tuple_if r (agree_in r equal)) member (subst (λ (z : Tuple). z ∈ tuple_if listed (agree_in listed equal)) same (go (agree_in listed equal) agrees))
    where
      go : (o : ((q : Equal) → q ∈ equal → alias_cell_text source sources (by (front rows (length sources))) q.left ≡ alias_cell_text source sources (by (front rows (length sources))) q.right)
          ⊎ (¬ ((q : Equal) → q ∈ equal → alias_cell_text source sources (by (front rows (length sources))) q.left ≡ alias_cell_text source sources (by (front rows (length sources))) q.right)))
          → ((q : Equal) → q ∈ equal → alias_cell_text source sources (by (front rows (length sources))) q.left ≡ alias_cell_text source sources (by (front rows (length sources))) q.right)
          → map (selected source call sources (by (front rows (length sources)))) select ∈ tuple_if (front rows (length sources)) o
      go (inl h) k = here refl
      go (inr n) k = absurd (n k)

  -- a match step has a match table
  pub has_table : (tuples : List Tuple) × IsMatchTable source call I select sources equal tuples
  has_table = (
    in_order tuple_cmp tuple_total tuple_exact some,
    record {
      ascend = in_order_ascends tuple_cmp tuple_total tuple_exact some;
      exact = λ t. (
        (λ m. from_some t (from_in_order tuple_cmp tuple_total tuple_exact t some m)),
        (λ w. in_in_order tuple_cmp tuple_total tuple_exact t some (in_some t w)),
      );
    },
  )

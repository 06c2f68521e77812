-- Facts with their values in another order: they move where the facts move.
use Rattle.std.proofs.Common.{◌≡◌, ◌↔◌, ◌∙◌, ℕ, suc, ◌+◌, ◌<◌, List, [], ◌∷◌, ◌++◌, refl, sym, ap, subst, arith, length, get_or}
use Rattle.std.specs.Prelude.{map, slice_index, IsPermutation}
use Rattle.std.specs.List.{range_with_len}
use Rattle.std.proofs.lemmas.List.{get_or-map, get_or_default, length-map, map-append}
use Rattle.std.proofs.lemmas.List.FromFn.{length-range_with_len}
use Rattle.std.proofs.lemmas.List.Sorted.{Contains-permutation, IsPermutation-sym, length_permutation}
use Rattle.dx_base.specs.Members.{◌∈◌, ◌⊆◌, ◌≈◌, here, there, Each}
use Rattle.dx_base.proofs.Members.{contains_from_in, from_map, in_at, in_from_contains, in_map, map_agrees, same_trans}
use Rattle.dx_base.proofs.Ranges.{from_range, range_more, to_range}
use Rattle.dx_model.specs.declared.facts.Fact.{Fact}
use Rattle.dx_model.specs.declared.values.NullId.{NullId}
use Rattle.dx_model.specs.declared.values.Value.{Value}
use Rattle.dx_model.specs.declared.values.Value.TheVariants.{Const}
use Rattle.dx_model.specs.Instances.{Moves, fact_moved, moved}
use Rattle.dx_model.specs.Tables.{cell, values_in}
use Rattle.dx_instance.specs.Cells.{NumberTable}
use Rattle.dx_instance.specs.Numbers.{value_of}
use Rattle.dx_instance.specs.Shown.{NumbersBelow, NumbersFit, PartsFit, NumberRowsFit, numbers_of_table, shown, shown_row, shown_tables}
use Rattle.dx_instance.specs.Stored.{IsSorting, TableRows, facts, rows_of, table_at, widths, HasTableIn}
use Rattle.dx_instance.proofs.StoredFacts.{fact_from_row, fact_table, row_from_fact, sorting_facts}
use Rattle.dx_judge.specs.Open.{CanMove}
use Rattle.dx_judge.specs.Turned.{AreOrders, CanTurn, IsTurned, fact_turned, order_at}
use Rattle.dx_judge.specs.Turning.{OrdersColumns, TablesTurned, IsColumnOrder, row_turned}

-- ---- one row

-- rows that are equal in each column are one
rows_one : (a b : List Value) → length a ≡ length b → ((c : ℕ) → c < length a → cell a c ≡ cell b c) → a ≡ b
rows_one [] [] e h = refl
rows_one [] (y ∷ b) e h = absurd (omega (arith, e))
rows_one (x ∷ a) [] e h = absurd (omega (arith, e))
rows_one (x ∷ a) (y ∷ b) e h =
    let first : x ≡ y = h 0 (omega arith) in
    let rest : a ≡ b = rows_one a b (omega (arith, e)) (λ c k. h (suc c) (omega (arith, k))) in
    ap (λ (v : Value). v ∷ a) first ∙ ap (λ (vs : List Value). y ∷ vs) rest

-- an order that has each column tells rows apart
turned_one : (order : List ℕ) (a b : List Value) → length a ≡ length b → ((c : ℕ) → c < length a → c ∈ order) → values_in order a ≡ values_in order b → a ≡ b
turned_one order a b e all same = rows_one a b e (λ c h. map_agrees (cell a) (cell b) same (all c h))

cell_moved : (g : NullId → Value) (row : List Value) (c : ℕ) → c < length row → cell (map (moved g) row) c ≡ moved g (cell row c)
cell_moved g row c h = get_or-map (moved g) row c (Const []) (Const []) h

turned_moved : (g : NullId → Value) (order : List ℕ) (row : List Value) → Each order (λ c. c < length row)
    → values_in order (map (moved g) row) ≡ map (moved g) (values_in order row)
turned_moved g [] row within = refl
turned_moved g (c ∷ order) row within =
    let first = cell_moved g row c (within c (here refl)) in
    let rest = turned_moved g order row (λ d m. within d (there m)) in
    (λ i. first i ∷ rest i)

-- what stands in a turned row stands in the row
pub from_turned : (order : List ℕ) (row : List Value) (v : Value) → Each order (λ c. c < length row) → v ∈ values_in order row → v ∈ row
from_turned order row v within m =
    let c = from_map (cell row) order m in
    subst (λ (w : Value). w ∈ row) c.2 (in_at row c.0 (Const []) (within c.0 c.1))

-- ---- facts

module _ (I : List TableRows) (orders : List (List ℕ)) (J : List TableRows) (turns : IsTurned I orders J)
    (wide : Each I (λ (u : TableRows). Each u.rows (λ (r : List Value). length r ≡ u.width))) where
  -- what fits can be turned
  pub can_turn : (f : Fact) → HasTableIn I f → CanTurn orders f
  can_turn f fits = record {
    table = let m = turns.orders_are.many in let h = fits.table in omega (arith, m, h);
    columns = λ c m. subst (λ (n : ℕ). c < n) (sym fits.width) ((turns.orders_are.exactly f.table c fits.table).0 m);
  }

  pub turned_fits : (f : Fact) → HasTableIn I f → HasTableIn J (fact_turned orders f)
  turned_fits f fits = record {
    table = let m = turns.many in let h = fits.table in omega (arith, m, h);
    width = length-map (order_at orders f.table) (cell f.row) ∙ sym (turns.wide f.table fits.table);
  }

  all_columns : (f : Fact) → HasTableIn I f → (c : ℕ) → c < length f.row → c ∈ order_at orders f.table
  all_columns f fits c h = (turns.orders_are.exactly f.table c fits.table).1 (subst (λ (n : ℕ). c < n) fits.width h)

  fits_there : (f : Fact) → f ∈ facts I → HasTableIn I f
  fits_there f m =
      let h = fact_table I f m in
      record { table = h; width = wide (table_at I f.table) (in_at I f.table (record { width = 0; rows = [] }) h) f.row (row_from_fact I f m) }

  fact_moves : (g : NullId → Value) (f : Fact) → HasTableIn I f → fact_moved g (fact_turned orders f) ≡ fact_turned orders (fact_moved g f)
  fact_moves g f fits =
      let same = sym (turned_moved g (order_at orders f.table) f.row (can_turn f fits).columns) in
      (λ i. record { table = f.table; row = same i })

  pub turned_exactly : (F : List Fact) → Each F (HasTableIn I) → CanMove (map (fact_turned orders) F) (facts J) ↔ CanMove F (facts I)
  turned_exactly F fits = (
    (λ w. (w.0, λ f m. back w.0 f (fits f m) (w.1 (fact_turned orders f) (in_map (fact_turned orders) m)))),
    (λ w. (w.0, λ e m. to w.0 (w.1) e m)),
  )
    where
      back : (g : NullId → Value) (f : Fact) → HasTableIn I f → fact_moved g (fact_turned orders f) ∈ facts J → fact_moved g f ∈ facts I
      back g f fit m =
          let a = from_map (fact_turned orders) (facts I) (turns.facts_are.0 (fact_moved g (fact_turned orders f)) m) in
          let same : fact_turned orders a.0 ≡ fact_turned orders (fact_moved g f) = a.2 ∙ fact_moves g f fit in
          let table : a.0.table ≡ f.table = ap (λ (x : Fact). x.table) same in
          let there = fits_there a.0 a.1 in
          let long : length a.0.row ≡ length (map (moved g) f.row) =
          there.width ∙ (ap (λ (t : ℕ). (table_at I t).width) table ∙ (sym fit.width ∙ sym (length-map f.row (moved g)))) in
          let rows : values_in (order_at orders a.0.table) a.0.row ≡ values_in (order_at orders a.0.table) (map (moved g) f.row) =
          ap (λ (x : Fact). x.row) same ∙ ap (λ (t : ℕ). values_in (order_at orders t) (map (moved g) f.row)) (sym table) in
          let row : a.0.row ≡ map (moved g) f.row = turned_one (order_at orders a.0.table) a.0.row (map (moved g) f.row) long (all_columns a.0 there) rows in
          subst (λ (x : Fact). x ∈ facts I) (λ i. record { table = table i; row = row i }) a.1

      to : (g : NullId → Value) → Moves g F (facts I) → (e : Fact) → e ∈ map (fact_turned orders) F → fact_moved g e ∈ facts J
      to g move e m =
          let f = from_map (fact_turned orders) F m in
          let there : fact_turned orders (fact_moved g f.0) ∈ facts J = turns.facts_are.1 (fact_turned orders (fact_moved g f.0)) (in_map (fact_turned orders) (move f.0 f.1)) in
          subst (λ (x : Fact). fact_moved g x ∈ facts J) f.2 (subst (λ (x : Fact). x ∈ facts J) (sym (fact_moves g f.0 (fits f.0 f.1))) there)

-- ---- orders of columns

-- the numbers of ranked columns
abbrev pub columns_in : List (ℕ × ℕ) → List ℕ
columns_in ranked = map (λ (p : ℕ × ℕ). p.1) ranked

-- one column more is ranked
pub ranked_more : (ranked : List (ℕ × ℕ)) (n x : ℕ) → columns_in ranked ≡ range_with_len 0 n → columns_in (ranked ++ (x, n) ∷ []) ≡ range_with_len 0 (n + 1)
ranked_more ranked n x e =
    let z : n ≡ 0 + n = omega arith in
    map-append (λ (p : ℕ × ℕ). p.1) ranked ((x, n) ∷ []) ∙ (ap (λ (ns : List ℕ). ns ++ n ∷ []) e ∙ (ap (λ (k : ℕ). range_with_len 0 n ++ k ∷ []) z ∙ sym (range_more 0 n)))

-- all columns of a table, ranked and put in another order
pub is_order : (n : ℕ) (old new : List (ℕ × ℕ)) (order : List ℕ) → columns_in old ≡ range_with_len 0 n → IsPermutation old new
    → order ≡ columns_in new → IsColumnOrder n order
is_order n old new order all p is = record {
  long = ap length is ∙ (length-map new (λ (q : ℕ × ℕ). q.1) ∙ (length_permutation old new p ∙ (sym (length-map old (λ (q : ℕ × ℕ). q.1)) ∙ (ap length all ∙ length-range_with_len 0 n))));
  exactly = λ c. (
    (λ m.
        let q = from_map (λ (q : ℕ × ℕ). q.1) new (subst (λ (xs : List ℕ). c ∈ xs) is m) in
        let there = member new old (IsPermutation-sym old new p) q.0 q.1 in
        let h = (from_range 0 n c (subst (λ (xs : List ℕ). c ∈ xs) all (subst (λ (k : ℕ). k ∈ columns_in old) q.2 (in_map (λ (r : ℕ × ℕ). r.1) there)))) in
        let below = h.1 in omega (arith, below)),
    (λ h.
        let q = from_map (λ (q : ℕ × ℕ). q.1) old (subst (λ (xs : List ℕ). c ∈ xs) (sym all) (to_range 0 n c (omega arith) (omega (arith, h)))) in
        let there = member old new p q.0 q.1 in
        subst (λ (xs : List ℕ). c ∈ xs) (sym is) (subst (λ (k : ℕ). k ∈ columns_in new) q.2 (in_map (λ (r : ℕ × ℕ). r.1) there))),
  );
}
  where
    member : (xs ys : List (ℕ × ℕ)) → IsPermutation xs ys → (x : ℕ × ℕ) → x ∈ xs → x ∈ ys
    member xs ys q x m = in_from_contains ys x (Contains-permutation xs ys x q (contains_from_in m))

-- ---- rows of numbers

-- the row that turned numbers show
shown_turned : (S : List Value) (order row : List ℕ) → Each order (λ c. c < length row) → shown_row S (row_turned order row) ≡ values_in order (shown_row S row)
shown_turned S [] row within = refl
shown_turned S (c ∷ order) row within =
    let h = within c (here refl) in
    let first : value_of S (slice_index row c) ≡ cell (shown_row S row) c = sym (get_or-map (value_of S) row c 0 (Const []) h) in
    let rest = shown_turned S order row (λ d m. within d (there m)) in
    (λ i. first i ∷ rest i)

abbrev no_numbers : NumberTable
no_numbers = record { width = 0; rows = [] }

module _ (S : List Value) (ts us : List NumberTable) (orders : List (List ℕ)) (fit : PartsFit S ts) (are : OrdersColumns ts orders)
    (turned : TablesTurned orders ts us) where
  abbrev I : List TableRows
  I = shown_tables S ts

  abbrev J : List TableRows
  J = shown_tables S us

  fits_at : (t : ℕ) → t < length ts → NumbersFit (length S) (numbers_of_table ts t)
  fits_at t h = fit.each (numbers_of_table ts t) (in_at ts t no_numbers h)

  as_many : length us ≡ length ts
  as_many = turned.many

  table_shown : (qs : List NumberTable) (t : ℕ) → t < length qs → table_at (shown_tables S qs) t ≡ shown S (numbers_of_table qs t)
  table_shown qs t h = get_or-map (shown S) qs t no_numbers (record { width = 0; rows = [] }) h

  many_shown : (qs : List NumberTable) → length (shown_tables S qs) ≡ length qs
  many_shown qs = length-map qs (shown S)

  orders_fit : AreOrders I orders
  orders_fit = record {
    many = are.many ∙ sym (many_shown ts);
    exactly = λ t c h.
        let k : t < length ts = let l = many_shown ts in omega (arith, h, l) in
        let w : (table_at I t).width ≡ (numbers_of_table ts t).width = ap (λ (u : TableRows). u.width) (table_shown ts t k) in
        let e = (are.each t k).exactly c in
        ((λ m. subst (λ (n : ℕ). c < n) (sym w) (e.0 m)), (λ l. e.1 (subst (λ (n : ℕ). c < n) w l)));
  }

  -- a row of numbers has each of the columns
  within_row : (t : ℕ) (row : List ℕ) → t < length ts → row ∈ (numbers_of_table ts t).rows → Each (order_at orders t) (λ c. c < length row)
  within_row t row h m c k =
      let w = (fits_at t h).each row m in
      let b = ((are.each t h).exactly c).0 k in
      omega (arith, w, b)

  rows_are : (t : ℕ) → t < length ts → rows_of J t ≡ map (values_in (order_at orders t)) (rows_of I t)
  rows_are t h =
      let k : t < length us = let l = as_many in omega (arith, h, l) in
      ap (λ (u : TableRows). u.rows) (table_shown us t k)
      ∙ (ap (map (shown_row S)) ((turned.each t h).rows)
      ∙ (each_row (numbers_of_table ts t).rows (λ r m. within_row t r h m)
      ∙ ap (map (values_in (order_at orders t))) (sym (ap (λ (u : TableRows). u.rows) (table_shown ts t h)))))
    where
      each_row : (rows : List (List ℕ)) → ((r : List ℕ) → r ∈ rows → Each (order_at orders t) (λ c. c < length r))
          → map (shown_row S) (map (row_turned (order_at orders t)) rows) ≡ map (values_in (order_at orders t)) (map (shown_row S) rows)
      each_row [] w = refl
      each_row (r ∷ rows) w =
          let first = shown_turned S (order_at orders t) r (w r (here refl)) in
          let rest = each_row rows (λ x m. w x (there m)) in
          (λ i. first i ∷ rest i)

  facts_turned : facts J ≈ map (fact_turned orders) (facts I)
  facts_turned = (to, back)
    where
      table_in : (t : ℕ) → t < length J → t < length ts
      table_in t h = let a = many_shown us in let b = as_many in omega (arith, h, a, b)

      to : facts J ⊆ map (fact_turned orders) (facts I)
      to f m =
          let h = table_in f.table (fact_table J f m) in
          let r = from_map (values_in (order_at orders f.table)) (rows_of I f.table)
          (subst (λ (rs : List (List Value)). f.row ∈ rs) (rows_are f.table h) (row_from_fact J f m)) in
          let old : Fact = record { table = f.table; row = r.0 } in
          let e : fact_turned orders old ≡ f = (λ i. record { table = f.table; row = r.2 i }) in
          subst (λ (x : Fact). x ∈ map (fact_turned orders) (facts I)) e (in_map (fact_turned orders) (fact_from_row I f.table r.0 r.1))

      back : map (fact_turned orders) (facts I) ⊆ facts J
      back f m =
          let a = from_map (fact_turned orders) (facts I) m in
          let h : a.0.table < length ts = let l = many_shown ts in let b = fact_table I a.0 a.1 in omega (arith, b, l) in
          let row : values_in (order_at orders a.0.table) a.0.row ∈ rows_of J a.0.table =
          subst (λ (rs : List (List Value)). values_in (order_at orders a.0.table) a.0.row ∈ rs) (sym (rows_are a.0.table h))
          (in_map (values_in (order_at orders a.0.table)) (row_from_fact I a.0 a.1)) in
          subst (λ (x : Fact). x ∈ facts J) a.2 (fact_from_row J a.0.table (values_in (order_at orders a.0.table) a.0.row) row)

  -- what is made of the turned rows is the instance, turned
  pub is_turned : (P K : List TableRows) → I ≡ P → IsSorting J K → IsTurned P orders K
  is_turned P K same sorted = subst (λ (Q : List TableRows). IsTurned Q orders K) same (record {
    orders_are = orders_fit;
    facts_are = same_trans (sorting_facts J K sorted) facts_turned;
    many = let a = widths_many sorted.widths_stay in let b = many_shown us in let c = many_shown ts in let d = as_many in omega (arith, a, b, c, d);
    wide = λ t h. wide_at t h;
  })
    where
      widths_many : widths K ≡ widths J → length K ≡ length J
      widths_many e = sym (length-map K (λ (u : TableRows). u.width)) ∙ (ap length e ∙ length-map J (λ (u : TableRows). u.width))

      wide_at : (t : ℕ) → t < length I → (table_at K t).width ≡ length (order_at orders t)
      wide_at t h =
          let k : t < length ts = let l = many_shown ts in omega (arith, h, l) in
          let u : t < length us = let l = as_many in omega (arith, k, l) in
          let j : t < length J = let l = many_shown us in omega (arith, u, l) in
          let i : t < length K = let l = widths_many sorted.widths_stay in omega (arith, j, l) in
          let none : TableRows = record { width = 0; rows = [] } in
          sym (get_or-map (λ (x : TableRows). x.width) K t none 0 i)
          ∙ (ap (λ (ws : List ℕ). get_or ws t 0) sorted.widths_stay
          ∙ (get_or-map (λ (x : TableRows). x.width) J t none 0 j
          ∙ (ap (λ (x : TableRows). x.width) (table_shown us t u) ∙ (turned.each t k).width)))

  -- the turned rows can be stored
  pub turned_rows_fit : (t : NumberTable) → t ∈ us → NumberRowsFit (length S) t
  turned_rows_fit t m =
      let k = contains_from_in m in
      let h : k.0 < length ts = let l = as_many in let b = k.1 in omega (arith, b, l) in
      let is : numbers_of_table us k.0 ≡ t = get_or_default us k.0 no_numbers t k.1 ∙ k.2 in
      subst (NumberRowsFit (length S)) is (record {
        columns =
            let w = (turned.each k.0 h).width in
            let l = (are.each k.0 h).long in
            let c = (fits_at k.0 h).columns in omega (arith, w, l, c);
        within = λ r i. below k.0 h r (subst (λ (rs : List (List ℕ)). r ∈ rs) (turned.each k.0 h).rows i);
      })
    where
      below : (q : ℕ) → q < length ts → (r : List ℕ) → r ∈ map (row_turned (order_at orders q)) (numbers_of_table ts q).rows → NumbersBelow (length S) r
      below q h r m x n =
          let old = from_map (row_turned (order_at orders q)) (numbers_of_table ts q).rows m in
          let c = from_map (slice_index old.0) (order_at orders q) (subst (λ (rs : List ℕ). x ∈ rs) (sym old.2) n) in
          let inside = within_row q old.0 h old.1 c.0 c.1 in
          subst (λ (y : ℕ). y < length S) c.2 ((fits_at q h).within old.0 old.1 (slice_index old.0 c.0) (in_at old.0 c.0 0 inside))

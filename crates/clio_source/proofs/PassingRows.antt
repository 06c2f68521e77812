-- The rows of an instance that pass.
use Rattle.std.proofs.Common.{◌≡◌, ◌∙◌, ℕ, zero, suc, ◌+◌, ◌<◌, ◌≤◌, ◌-◌, ◌^◌, Bool, true, false, List, [], ◌∷◌, ◌++◌, refl, sym, ap, subst}
use Rattle.std.proofs.Common.{arith, length, get_or, take, map, inl, inr, Result, Ok, Err}
use Rattle.std.specs.Prelude.{◌==◌, IfOk, Some, cond, filter, slice_get}
use Rattle.std.specs.List.{list_all}
use Rattle.std.specs.declared.alloc.AllocError.{AllocError}
use Rattle.std.proofs.lemmas.Bool.{cases_eq, eqb-true}
use Rattle.std.proofs.lemmas.List.{append-nil, get_or-map, get_or_append_left, get_or_push, length-append, length-map, length_push, get_or_default, take_all}
use Rattle.std.proofs.lemmas.List.Elements.{filter_more}
use Rattle.std.proofs.lemmas.Grind.{same_number_lists}
use Rattle.std.proofs.lemmas.Option.{slice_get_read}
use Rattle.dx_base.specs.Members.{◌∈◌, Each}
use Rattle.dx_base.proofs.Members.{contains_from_in, from_map, in_at, in_map, item_in, same_equal}
use Rattle.dx_base.proofs.Tests.{from_filter, to_filter}
use Rattle.dx_model.specs.declared.values.NullId.{NullId}
use Rattle.dx_model.specs.declared.values.Value.{Value}
use Rattle.dx_model.specs.declared.values.Value.TheVariants.{Const, Null}
use Rattle.dx_model.specs.declared.facts.Fact.{Fact}
use Rattle.dx_instance.specs.Cells.{NumberTable, numbers_at, with_numbers}
use Rattle.dx_instance.specs.Numbers.{value_of}
use Rattle.dx_instance.specs.Shown.{NumbersBelow, NumbersFit, PartsFit, NumberRowsFit, numbers_of_table, shown, shown_row, shown_tables}
use Rattle.dx_instance.specs.Stored.{IsSorting, TableRows, facts, rows_of, widths}
use Rattle.dx_instance.proofs.ShownFacts.{is_shown}
use Rattle.dx_instance.proofs.StoredFacts.{fact_from_row, fact_table, row_from_fact, sorting_facts}
use Rattle.dx_lines.specs.declared.line.Condition.{Condition}
use Rattle.dx_used.specs.Passing.{Passes, fact_passes, passing, value_passes}
use Rattle.clio_source.specs.Kept.{IsPassing, row_passes, rows_kept}

abbrev no_numbers : NumberTable
no_numbers = record { width = 0; rows = [] }

-- ---- the value in a column

pub number_there : (n : ℕ) (row : List ℕ) (i x : ℕ) → NumbersBelow n row → i < length row → x ≡ get_or row i x → x < n
number_there n row i x below h e = below x (item_in row i x h e)

shown_there : (S : List Value) (row : List ℕ) (i x : ℕ) → i < length row → x ≡ get_or row i x → slice_get (shown_row S row) i ≡ Some (value_of S x)
shown_there S row i x h e =
    slice_get_read (shown_row S row) (length row) i (value_of S x) (sym (length-map row (value_of S))) h
    (sym (get_or-map (value_of S) row i x (value_of S x) h ∙ ap (value_of S) (sym e)))

passes_at : (passes : Passes) (code : ℕ) (S : List Value) (row : List ℕ) (i x : ℕ) (v : Value) → i < length row → x ≡ get_or row i x → v ≡ value_of S x
    → value_passes passes code (Some v) ≡ value_passes passes code (slice_get (shown_row S row) i)
passes_at passes code S row i x v h e is = ap (value_passes passes code) (ap Some is ∙ sym (shown_there S row i x h e))

-- what a constant there passes, and a null
pub constant_passes : (passes : Passes) (code : ℕ) (S : List Value) (row : List ℕ) (i x : ℕ) (v : Value) (text : List ℕ) → i < length row → x ≡ get_or row i x → v ≡ value_of S x → v ≡ Const text
    → passes code text ≡ value_passes passes code (slice_get (shown_row S row) i)
constant_passes passes code S row i x v text h e is const =
    ap (λ (w : Value). value_passes passes code (Some w)) (sym const) ∙ passes_at passes code S row i x v h e is

pub null_passes : (passes : Passes) (code : ℕ) (S : List Value) (row : List ℕ) (i x : ℕ) (v : Value) (n : NullId) → i < length row → x ≡ get_or row i x → v ≡ value_of S x → v ≡ Null n
    → false ≡ value_passes passes code (slice_get (shown_row S row) i)
null_passes passes code S row i x v n h e is null =
    ap (λ (w : Value). value_passes passes code (Some w)) (sym null) ∙ passes_at passes code S row i x v h e is

-- what a test answers, said otherwise
pub answers_same : (r : Result Bool AllocError) (a b : Bool) → a ≡ b → IfOk r (λ c. c ≡ a) → IfOk r (λ c. c ≡ b)
answers_same (Ok c) a b e h = h ∙ e
answers_same (Err x) a b e h = tt

-- ---- no conditions

all_pass : (passes : Passes) (fs : List Fact) → passing passes [] fs ≡ fs
all_pass passes [] = refl
all_pass passes (f ∷ fs) = ap (λ (gs : List Fact). f ∷ gs) (all_pass passes fs)

no_items : (cs : List Condition) → length cs ≡ 0 → cs ≡ []
no_items [] e = refl
no_items (c ∷ cs) e = absurd (omega (arith, e))

pub nothing_asked : (passes : Passes) (conditions : List Condition) (I : List TableRows) → (length conditions == 0) ≡ true → IsPassing passes conditions I I
nothing_asked passes conditions I e =
    let none : conditions ≡ [] = no_items conditions (eqb-true (length conditions) 0 e) in
    record {
      widths_stay = refl;
      exact = same_equal (sym (ap (λ cs. passing passes cs (facts I)) none ∙ all_pass passes (facts I)));
    }

-- ---- one table

-- the rows that pass among the first i
pub record AreKeptTo (p : List ℕ → Bool) (old : NumberTable) (i : ℕ) (new : NumberTable) : Type 0 where
  pub is : new ≡ record { width = old.width; rows = filter p (take i old.rows) }
  pub few : length new.rows ≤ i

module _ (p : List ℕ → Bool) (old : NumberTable) where
  pub kept_start : (w : ℕ) (new : NumberTable) → w ≡ old.width → new ≡ record { width = w; rows = [] } → AreKeptTo p old 0 new
  kept_start w new e d = rw d (record { is = (λ i. record { width = e i; rows = [] }); few = omega arith })

  module _ (i : ℕ) (new : NumberTable) (row : List ℕ) (h : i < length old.rows) (at : row ≡ numbers_at old.rows i) (k : AreKeptTo p old i new) where
    next_is : (b : Bool) → p row ≡ b → filter p (take (i + 1) old.rows) ≡ new.rows ++ cond b (row ∷ []) []
    next_is b e =
        filter_more p old.rows i [] h
        ∙ ap (λ (r : List ℕ). filter p (take i old.rows) ++ cond (p r) (r ∷ []) []) (sym at)
        ∙ ap (λ (c : Bool). filter p (take i old.rows) ++ cond c (row ∷ []) []) e
        ∙ ap (λ (rs : List (List ℕ)). rs ++ cond b (row ∷ []) []) (sym (ap (λ (t : NumberTable). t.rows) k.is))

    pub kept_more : (more : NumberTable) → p row ≡ true → more ≡ with_numbers new row → AreKeptTo p old (i + 1) more
    kept_more more e d = rw d (record {
      is = λ j. record { width = ap (λ (t : NumberTable). t.width) k.is j; rows = sym (next_is true e) j };
      few = omega (arith, length-append new.rows (row ∷ []), k.few);
    })

    pub kept_less : p row ≡ false → AreKeptTo p old (i + 1) new
    kept_less e = record {
      is = λ j. record { width = ap (λ (t : NumberTable). t.width) k.is j; rows = sym (next_is false e ∙ append-nil new.rows) j };
      few = omega (arith, k.few);
    }

  pub kept_end : (i : ℕ) (new : NumberTable) → length old.rows ≤ i → AreKeptTo p old i new → new ≡ rows_kept p old
  kept_end i new h k = k.is ∙ (λ j. record { width = old.width; rows = filter p (take_all i old.rows h j) })

  pub as_wide : (i : ℕ) (new : NumberTable) → AreKeptTo p old i new → new.width ≡ old.width
  as_wide i new k = ap (λ (t : NumberTable). t.width) k.is

-- ---- all tables

-- the first n tables
pub record AreTablesKept (p : ℕ → List ℕ → Bool) (all : List NumberTable) (n : ℕ) (new : List NumberTable) : Type 0 where
  pub many : length new ≡ n
  pub each : (t : ℕ) → t < n → numbers_of_table new t ≡ rows_kept (p t) (numbers_of_table all t)

module _ (p : ℕ → List ℕ → Bool) (all : List NumberTable) where
  pub tables_start : (new : List NumberTable) → new ≡ [] → AreTablesKept p all 0 new
  tables_start new e = rw e (record { many = refl; each = λ t h. absurd (omega arith) })

  pub tables_more : (n : ℕ) (old new : List NumberTable) (rows : NumberTable) → new ≡ old ++ rows ∷ []
      → rows ≡ rows_kept (p n) (numbers_of_table all n) → AreTablesKept p all n old → AreTablesKept p all (n + 1) new
  tables_more n old new rows e r k = rw e (record {
    many = length_push old rows ∙ ap (λ i. i + 1) k.many;
    each = λ t h. elim (cases_eq t n) [
      | inl q ↦ rw (q, get_or_push old rows no_numbers n k.many) r
      | inr d ↦ rw (get_or_append_left old (rows ∷ []) no_numbers t (omega (arith, h, k.many))) (k.each t (omega arith))
    ];
  })

  pub all_kept : (n : ℕ) (new : List NumberTable) (end : ℕ) → end ≡ length all → n ≤ end → end ≤ n → AreTablesKept p all n new
      → AreTablesKept p all (length all) new
  all_kept n new end e h l k =
      let is : n ≡ length all = omega (arith, e, h, l) in
      rw (← is) k

-- ---- the instance

module _ (passes : Passes) (conditions : List Condition) (S : List Value) (I : List TableRows) (all new : List NumberTable) (view : shown_tables S all ≡ I)
    (parts : PartsFit S all) (k : AreTablesKept (row_passes passes conditions S) all (length all) new) where
  tables_many : length all ≡ length I
  tables_many = sym (length-map all (shown S)) ∙ ap length view

  old_fits : (t : ℕ) → t < length all → NumbersFit (length S) (numbers_of_table all t)
  old_fits t h = parts.each (numbers_of_table all t) (in_at all t no_numbers h)

  pub new_fit : Each new (NumberRowsFit (length S))
  new_fit u m =
      let c = contains_from_in m in
      let h : c.0 < length all = omega (arith, c.1, k.many) in
      let e : numbers_of_table new c.0 ≡ u = get_or_default new c.0 no_numbers u c.1 ∙ c.2 in
      let f = old_fits c.0 h in
      let fits : NumberRowsFit (length S) (rows_kept (row_passes passes conditions S c.0) (numbers_of_table all c.0)) = record {
        columns = f.columns;
        within = λ row i. f.within row (from_filter (row_passes passes conditions S c.0) (numbers_of_table all c.0).rows i).0;
      } in
      subst (NumberRowsFit (length S)) (sym (k.each c.0 h) ∙ e) fits

  pub new_few : length new < 2 ^ 32 - 1
  new_few = omega (arith, parts.few, k.many)

  -- the rows that a table of the new ones shows
  new_shown : (t : ℕ) → t < length all → rows_of (shown_tables S new) t ≡ map (shown_row S) (filter (row_passes passes conditions S t) (numbers_of_table all t).rows)
  new_shown t h =
      let n : t < length new = omega (arith, h, k.many) in
      ap (λ (u : TableRows). u.rows) (is_shown S new t (numbers_of_table new t) n (get_or_default new t no_numbers (numbers_of_table new t) n))
      ∙ ap (λ (u : NumberTable). map (shown_row S) u.rows) (k.each t h)

  -- and those that a table of the old ones shows
  old_shown : (t : ℕ) → t < length all → rows_of I t ≡ map (shown_row S) (numbers_of_table all t).rows
  old_shown t h =
      ap (λ (J : List TableRows). rows_of J t) (sym view)
      ∙ ap (λ (u : TableRows). u.rows) (is_shown S all t (numbers_of_table all t) h (get_or_default all t no_numbers (numbers_of_table all t) h))

  abbrev test : Fact → Bool
  test f = list_all (fact_passes passes f) conditions

  from_new : (f : Fact) → f ∈ facts (shown_tables S new) → f ∈ passing passes conditions (facts I)
  from_new f m =
      let g : f.table < length all = omega (arith, fact_table (shown_tables S new) f m, length-map new (shown S), k.many) in
      let p = row_passes passes conditions S f.table in
      let rows = (numbers_of_table all f.table).rows in
      let q = from_map (shown_row S) (filter p rows) (subst (λ (rs : List (List Value)). f.row ∈ rs) (new_shown f.table g) (row_from_fact (shown_tables S new) f m)) in
      let w = from_filter p rows q.1 in
      let there_is : f.row ∈ rows_of I f.table = subst (λ (rs : List (List Value)). f.row ∈ rs) (sym (old_shown f.table g))
      (subst (λ (r : List Value). r ∈ map (shown_row S) rows) q.2 (in_map (shown_row S) w.0)) in
      let passed : list_all (fact_passes passes f) conditions ≡ true = subst (λ (r : List Value). list_all (fact_passes passes (record { table = f.table; row = r })) conditions ≡ true) q.2 w.1 in
      to_filter test (facts I) (fact_from_row I f.table f.row there_is) passed

  to_new : (f : Fact) → f ∈ passing passes conditions (facts I) → f ∈ facts (shown_tables S new)
  to_new f m =
      let v = from_filter test (facts I) m in
      let g : f.table < length all = omega (arith, fact_table I f v.0, tables_many) in
      let p = row_passes passes conditions S f.table in
      let rows = (numbers_of_table all f.table).rows in
      let q = from_map (shown_row S) rows (subst (λ (rs : List (List Value)). f.row ∈ rs) (old_shown f.table g) (row_from_fact I f v.0)) in
      let passed : p q.0 ≡ true = subst (λ (r : List Value). list_all (fact_passes passes (record { table = f.table; row = r })) conditions ≡ true) (sym q.2) v.1 in
      let there_is : f.row ∈ rows_of (shown_tables S new) f.table = subst (λ (rs : List (List Value)). f.row ∈ rs) (sym (new_shown f.table g))
      (subst (λ (r : List Value). r ∈ map (shown_row S) (filter p rows)) q.2 (in_map (shown_row S) (to_filter p rows q.1 passed))) in
      fact_from_row (shown_tables S new) f.table f.row there_is

  new_widths : (K : List TableRows) → IsSorting (shown_tables S new) K → widths K ≡ widths I
  new_widths K s = s.widths_stay ∙ (same_number_lists (widths (shown_tables S new)) (widths (shown_tables S all)) many each ∙ ap widths view)
    where
      wide : (ts : List NumberTable) (t : ℕ) → get_or (widths (shown_tables S ts)) t 0 ≡ (numbers_of_table ts t).width
      wide [] t = refl
      wide (u ∷ ts) zero = refl
      wide (u ∷ ts) (suc t) = wide ts t

      long : (ts : List NumberTable) → length (widths (shown_tables S ts)) ≡ length ts
      long [] = refl
      long (u ∷ ts) = ap suc (long ts)

      many : length (widths (shown_tables S new)) ≡ length (widths (shown_tables S all))
      many = long new ∙ (k.many ∙ sym (long all))

      each : (t : ℕ) → t < length (widths (shown_tables S new)) → get_or (widths (shown_tables S new)) t 0 ≡ get_or
          (widths (shown_tables S all)) t 0
      each t h = wide new t ∙ (ap (λ (u : NumberTable). u.width) (k.each t (omega (arith, h, long new, k.many))) ∙ sym (wide all t))

  pub new_passing : (K : List TableRows) → IsSorting (shown_tables S new) K → IsPassing passes conditions I K
  new_passing K s =
      let same = sorting_facts (shown_tables S new) K s in
      record {
        widths_stay = new_widths K s;
        exact = ((λ f m. from_new f (same.0 f m)), (λ f m. same.1 f (to_new f m)));
      }

-- what an answer has, and so what follows from it
pub told : {P Q : List TableRows → Type 0} (r : Result (List TableRows) AllocError) → ((K : List TableRows) → P K → Q K) → IfOk r P → IfOk r Q
told (Ok K) f p = f K p
told (Err e) f p = tt

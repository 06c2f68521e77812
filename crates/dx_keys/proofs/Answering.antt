-- What the chase of an instance answers, from what a chase over its numbers gives.
use Rattle.std.proofs.Common.{◌≡◌, ◌∙◌, ℕ, suc, ◌<◌, Option, None, Some, List, [], ◌∷◌, inl, inr, refl, sym, ap, subst, length, get_or, map, arith}
use Rattle.std.specs.Prelude.{MatchOption}
use Rattle.std.specs.Ordering.{ordering_reverse}
use Rattle.std.specs.declared.cmp.Ordering.{Ordering}
use Rattle.std.specs.declared.cmp.Ordering.TheVariants.{Less, Equal, Greater}
use Rattle.std.proofs.lemmas.Cmp.{lists_total}
use Rattle.std.proofs.lemmas.List.{get_or-map, length-map}
use Rattle.dx_base.specs.Members.{◌∈◌, Each, here, there}
use Rattle.dx_base.proofs.Members.{from_map, in_at, in_map}
use Rattle.dx_model.specs.declared.values.Value.{Value}
use Rattle.dx_model.specs.declared.values.Value.TheVariants.{Const, Null}
use Rattle.dx_model.specs.declared.facts.Fact.{Fact}
use Rattle.dx_model.specs.declared.facts.NullPair.{NullPair}
use Rattle.dx_model.specs.Tables.{Determination, DeterminationsFit, FactFits, IsInstance, Table, cell, table_of, determination_at, fact_of_row}
use Rattle.dx_model.specs.Instances.{given, image, moved}
use Rattle.dx_model.specs.Values.{row_cmp, value_cmp}
use Rattle.dx_model.specs.Chase.{after, IsClashAt}
use Rattle.dx_model.proofs.ByMembers.{keys_by_members}
use Rattle.dx_model.proofs.Closed.{image_fits}
use Rattle.dx_model.proofs.Orders.{slice_exact, value_exact, value_total}
use Rattle.dx_schema.specs.Forest.{Forest}
use Rattle.dx_schema.specs.Tables.{model_tables}
use Rattle.dx_schema.proofs.Whole.{widths_agree}
use Rattle.dx_instance.specs.Cells.{NumberTable as TableOfNumbers}
use Rattle.dx_instance.specs.Images.{IsImage}
use Rattle.dx_instance.specs.NullMaps.{ByNull, becomes, pairs_of}
use Rattle.dx_instance.specs.Shown.{PartsFit, numbers_of_table, renumbered, shown, shown_row, shown_tables}
use Rattle.dx_instance.specs.Stored.{IsSorting, TableRows, facts, rows_of, widths}
use Rattle.dx_instance.proofs.AfterFacts.{pairs_give}
use Rattle.dx_instance.proofs.LawFacts.{facts_fit}
use Rattle.dx_instance.proofs.SortFacts.{instance_maps}
use Rattle.dx_instance.proofs.StoredFacts.{fact_from_row, fact_table, row_from_fact}
use Rattle.dx_chase.specs.declared.demands.ClashAt.{ClashAt}
use Rattle.dx_chase.specs.Tables.{ChaseTable}
use Rattle.dx_chase.specs.declared.rows.RowsChased.{RowsChased}
use Rattle.dx_chase.specs.Boards.{firsts}
use Rattle.dx_chase.specs.Joins.{IsNumberChase as IsChasedByNumber, AllFit, IsClashOfDemands as IsClashByNumber, nth, demand_at}
use Rattle.dx_chase.specs.Rows.{TablesAreBelow, DemandsOfRows, ColumnsFit, InRows, determination_columns, number_row, number_table}
use Rattle.dx_keys.specs.declared.answers.Clash.{Clash}
use Rattle.dx_keys.specs.declared.numbering.Numbering.{Numbering}
use Rattle.dx_keys.specs.Answers.{IsChased, IsClash}
use Rattle.dx_keys.specs.Numbers.{NumberRoots, TablesWithin, AreValues, CanRead, IsClashByValues, IsNumberedInstance, determination_of, null_map_of, row_read}
use Rattle.dx_keys.proofs.Demanding.{AreTablesOf, IsRowChase, IsRowClash, IsRowMap, determination_in, fact_of}
use Rattle.dx_keys.proofs.Whole.{row_chase}
use Rattle.dx_keys.proofs.EndsAnswered.{clash_turned}

-- a member stands at a place
place_of : (xs : List (List ℕ)) (x : List ℕ) → x ∈ xs → (r : ℕ) × (r < length xs) × (get_or xs r [] ≡ x)
place_of [] x m = elim m [ ]
place_of (y ∷ xs) x (here e) = (0, omega arith, e)
place_of (y ∷ xs) x (there m) = let r = place_of xs x m in (suc r.0, omega (arith, r.1), r.2)

-- what holds at the end, by how it ended
fits_of : (P : Type 0) (Q : ClashAt → Type 0) (o : Option ClashAt) → o ≡ None → MatchOption o P Q → P
fits_of P Q o e m = subst (λ (z : Option ClashAt). MatchOption z P Q) e m

clash_of : (P : Type 0) (Q : ClashAt → Type 0) (o : Option ClashAt) (p : ClashAt) → o ≡ Some p → MatchOption o P Q → Q p
clash_of P Q o p e m = subst (λ (z : Option ClashAt). MatchOption z P Q) e m

-- ---- clashes

clash_moved : (schema : List Table) (A B : List Fact) (a x b y : Fact) (d f : Determination) (c g : ℕ) → A ≡ B → a ≡ x → b ≡ y → d ≡ f → c ≡ g → IsClashAt schema A a b d c → IsClashAt schema B x y f g
clash_moved schema A B a x b y d f c g p q r s t C = rw (← p, ← q, ← r, ← s, ← t) C

pub row_turned : (x y : List Value) → row_cmp x y ≡ Greater → ¬ (row_cmp y x ≡ Greater)
row_turned x y e g = differ (sym g ∙ ((lists_total value_total).antisymm y x ∙ ap ordering_reverse e))
  where
    differ : Greater ≡ Less → ⊥
    differ q = cc

less_of : (x y : List Value) → ¬ (row_cmp x y ≡ Greater) → ¬ (x ≡ y) → row_cmp x y ≡ Less
less_of x y g d = by (row_cmp x y) refl
  where
    by : (o : Ordering) → row_cmp x y ≡ o → row_cmp x y ≡ Less
    by Less e = e
    by Equal e = absurd (d (slice_exact value_cmp value_exact x y e))
    by Greater e = absurd (g e)

-- ---- tables of numbers

module _ (schema : List Table) (I : List TableRows) (S : List Value) (ts : List TableOfNumbers) (tables : List ChaseTable) (W : widths I ≡ map (λ (t : Table). t.width) schema)
    (L : Each I (λ (t : TableRows). Each t.rows (λ (row : List Value). length row ≡ t.width))) (E : shown_tables S ts ≡ I) (P : PartsFit S ts) (T : TablesWithin schema ts tables) where
  fits : IsInstance schema (facts I)
  fits = facts_fit schema I W L

  rows_are : (t : ℕ) → t < length tables → rows_of I t ≡ map (shown_row S) (number_table tables t).rows
  rows_are t h =
      ap (λ (J : List TableRows). rows_of J t) (sym E)
      ∙ (ap (λ (u : TableRows). u.rows) (get_or-map (shown S) ts t _ _ (let m = T.many in omega arith)) ∙ ap (map (shown_row S)) (sym (T.rows_are t h)))

  pub are_tables : AreTablesOf schema S (facts I) tables
  are_tables = record {
    determinations = λ t h. sym (T.determined t h);
    rows = λ t r h k. fact_from_row I t _ (subst (λ (rs : List (List Value)). shown_row S (number_row tables t r) ∈ rs) (sym (rows_are t h)) (in_map (shown_row S) (in_at (number_table tables t).rows r [] k)));
    facts = λ a m.
        let h : a.table < length tables = (let k = fact_table I a m in let e = T.many in let l = ap length E in let n = length-map ts (shown S) in omega arith) in
        let f = from_map (shown_row S) (number_table tables a.table).rows (rw (rows_are a.table h) at (row_from_fact I a m)) in
        let p = place_of (number_table tables a.table).rows f.0 f.1 in
        let e : map (cell S) (number_row tables a.table p.0) ≡ a.row = ap (shown_row S) p.2 ∙ f.2 in
        (p.0, h, p.1, λ i. record { table = a.table; row = e i });
  }

  module _ (Dt : DeterminationsFit schema) where
    column_fits : (t c r : ℕ) → InRows tables t c r → (determination_of (determination_columns tables t c) ∈ (table_of schema t).determinations) × (length (number_row tables t r) ≡ (table_of schema t).width) × (table_of schema t ∈ schema)
    column_fits t c r Q =
        let F : FactFits schema (fact_of S t (number_row tables t r)) = fits _ (are_tables.rows t r Q.table Q.row) in (
          subst (λ (ds : List Determination). determination_of (determination_columns tables t c) ∈ ds) (T.determined t Q.table) (in_map determination_of (in_at (number_table tables t).determinations c _ Q.determination)),
          sym (length-map (number_row tables t r) (cell S)) ∙ F.width,
          in_at schema t _ F.table,
        )

    pub columns_fit : ColumnsFit tables
    columns_fit = record {
      left = λ t c r Q k m. let w = column_fits t c r Q in let h = (Dt _ w.2 _ w.0).0 k m in let e = w.1 in omega arith;
      right = λ t c r Q k m. let w = column_fits t c r Q in let h = (Dt _ w.2 _ w.0).1 k m in let e = w.1 in omega arith;
    }

  pub are_below : TablesAreBelow (length S) tables
  are_below t r h k v m =
      let e = T.rows_are t h in
      let l : t < length ts = (let q = T.many in omega arith) in
      let w = (P.each (numbers_of_table ts t) (in_at ts t _ l)).within in
      let z = subst (λ (rs : List (List ℕ)). number_row tables t r ∈ rs) e (in_at (number_table tables t).rows r [] k) in
      w (number_row tables t r) z v m

  -- ---- the chase of them

  module _ (consts : ℕ) (c : RowsChased) (V : AreValues consts S) (Dt : DeterminationsFit schema) (R : DemandsOfRows tables c.demands) (X : IsChasedByNumber (firsts (length S)) consts c.demands c.chased) where
    chased : IsRowChase schema S (facts I) tables c
    chased = row_chase schema S consts (facts I) tables c fits V (columns_fit Dt) are_below are_tables R X

    module _ (none : c.chased.clash ≡ None) (m : ByNull) (K : List TableRows) (G : pairs_of m ≡ null_map_of S c.chased.roots) (Z : IsSorting (shown_tables S (map (renumbered c.chased.roots) ts)) K) where
      is_map : IsRowMap schema S (facts I) c
      is_map = fits_of (IsRowMap schema S (facts I) c) (IsRowClash schema S (facts I) tables c) c.chased.clash none chased.ends

      moved_by : (v : Value) → moved (becomes m) v ≡ moved (given (null_map_of S c.chased.roots)) v
      moved_by (Const t) = refl
      moved_by (Null n) = sym (pairs_give m n) ∙ ap (λ (ps : List NullPair). given ps n) G

      is_image : IsImage m I K
      is_image = instance_maps m S S c.chased.roots ts I K E
          (record { many = chased.roots_are.many; within = chased.roots_are.within; at = λ n h. sym (moved_by (cell S n) ∙ is_map.gives n h) }) P Z

      pub is_chased : IsChased schema I (record { instance = K; map = m })
      is_chased = record {
        forced = rw G is_map.forced.forced;
        imaged = is_image;
        keyed = record {
          fits = λ f k. image_fits schema (facts I) (given (pairs_of m)) fits f (is_image.is.1 f k);
          keys = keys_by_members schema (facts K) (image (pairs_of m) (facts I)) is_image.is.1 (rw G is_map.forced.keys);
        };
      }

    module _ (p : ClashAt) (some : c.chased.clash ≡ Some p) where
      by_number : IsClashByNumber consts c.demands c.chased.roots p
      by_number = clash_of (AllFit c.demands c.chased.roots) (IsClashByNumber consts c.demands c.chased.roots) c.chased.clash p some X.ends

      pub can_read : CanRead S tables c p
      can_read = record {
        below = are_below;
        roots_are = chased.roots_are;
        steps_in = chased.steps_in;
        demands_in = R.from;
        one_in = by_number.asks.alike.one;
        other_in = by_number.asks.alike.other;
        column_in = by_number.asks.inside;
      }

      module _ (k : Clash) (Z : IsClashByValues S tables c p k) where
        is_clash : IsRowClash schema S (facts I) tables c p
        is_clash = clash_of (IsRowMap schema S (facts I) c) (IsRowClash schema S (facts I) tables c) c.chased.clash p some chased.ends

        in_rows : InRows tables (demand_at c.demands p.one).table (demand_at c.demands p.one).determination (demand_at c.demands p.one).row
        in_rows = (R.from _ (in_at c.demands p.one _ by_number.asks.alike.one)).inside

        keys_are : (table_of schema k.table).determinations ≡ map determination_of (number_table tables (demand_at c.demands p.one).table).determinations
        keys_are = ap (λ t. (table_of schema t).determinations) Z.table_is ∙ sym (T.determined _ in_rows.table)

        determination_is : determination_in tables (demand_at c.demands p.one) ≡ determination_at schema k.table k.key
        determination_is =
            sym (ap (λ (ds : List Determination). get_or ds k.key (record { left = []; right = [] })) keys_are
            ∙ (ap (λ n. get_or (map determination_of (number_table tables (demand_at c.demands p.one).table).determinations) n (record { left = []; right = [] })) Z.key_is
            ∙ get_or-map determination_of (number_table tables (demand_at c.demands p.one).table).determinations (demand_at c.demands p.one).determination _ _ in_rows.determination))

        column_is : nth (determination_in tables (demand_at c.demands p.one)).right p.column ≡ k.column
        column_is = sym (Z.column_is ∙ (ap (λ t. nth (determination_columns tables t k.key).right p.column) Z.table_is ∙ ap (λ n. nth (determination_columns tables (demand_at c.demands p.one).table n).right p.column) Z.key_is))

        in_order : IsClashAt schema (after k.steps (facts I)) (fact_of_row k.table (row_read S tables c.chased.roots (demand_at c.demands p.one)))
            (fact_of_row k.table (row_read S tables c.chased.roots (demand_at c.demands p.other))) (determination_at schema k.table k.key) k.column
        in_order = clash_moved schema _ _ _ _ _ _ _ _ _ _ (ap (λ (ss : List NullPair). after ss (facts I)) (sym Z.steps_are))
            (ap (λ t. fact_of_row t (row_read S tables c.chased.roots (demand_at c.demands p.one))) (sym Z.table_is))
            (ap (λ t. fact_of_row t (row_read S tables c.chased.roots (demand_at c.demands p.other))) (sym (Z.table_is ∙ is_clash.clash.break.table))) determination_is column_is is_clash.clash

        as_read : IsClashAt schema (after k.steps (facts I)) (fact_of_row k.table k.left) (fact_of_row k.table k.right) (determination_at schema k.table k.key) k.column
        as_read = elim Z.rows_are [
          | inl q ↦ clash_moved schema _ _ _ _ _ _ _ _ _ _ refl (ap (fact_of_row k.table) (sym q.0)) (ap (fact_of_row k.table) (sym q.1)) refl refl in_order
          | inr q ↦ clash_moved schema _ _ _ _ _ _ _ _ _ _ refl (ap (fact_of_row k.table) (sym q.0)) (ap (fact_of_row k.table) (sym q.1)) refl refl (clash_turned schema _ _ _ _ _ in_order)
        ]

        pub is_answer : IsClash schema (facts I) k
        is_answer = record {
          steps = rw Z.steps_are chased.steps;
          key = (let l = ap length keys_are in let n = length-map (number_table tables (demand_at c.demands p.one).table).determinations determination_of in let h = in_rows.determination in let e = Z.key_is in omega arith);
          clash = as_read;
          lesser = less_of k.left k.right Z.in_order (λ e. as_read.break.differ (ap (λ (row : List Value). cell row k.column) e));
          none = is_clash.none;
        }

-- ---- what stands when the rows are chased, and after it

pub record Done (n : Numbering) (rows : List ChaseTable) (c : RowsChased) : Type 0 where
  pub demands : DemandsOfRows rows c.demands
  pub ended : IsChasedByNumber (firsts (length n.symbols)) n.constants c.demands c.chased

module _ (f : Forest) (I : List TableRows) (n : Numbering) (rows : List ChaseTable) (N : IsNumberedInstance f I n rows) where
  by_schema : widths I ≡ map (λ (t : Table). t.width) (model_tables f)
  by_schema = N.widths_are ∙ widths_agree f

  pub numbers_fit : ColumnsFit rows
  numbers_fit = columns_fit (model_tables f) I n.symbols n.tables.items rows by_schema N.wide N.numbering.is_shown N.numbering.parts N.listed N.determined

  pub numbers_below : TablesAreBelow (length n.symbols) rows
  numbers_below = are_below (model_tables f) I n.symbols n.tables.items rows by_schema N.wide N.numbering.is_shown N.numbering.parts N.listed

  module _ (c : RowsChased) (D : Done n rows c) where
    pub roots_are_read : NumberRoots n.symbols c.chased.roots
    roots_are_read =
        (chased (model_tables f) I n.symbols n.tables.items rows by_schema N.wide N.numbering.is_shown N.numbering.parts N.listed n.constants c N.numbering.ordered N.determined D.demands D.ended).roots_are

    pub map_answers : c.chased.clash ≡ None → (m : ByNull) (K : List TableRows) → pairs_of m ≡ null_map_of n.symbols c.chased.roots
        → IsSorting (shown_tables n.symbols (map (renumbered c.chased.roots) n.tables.items)) K → IsChased (model_tables f) I (record { instance = K; map = m })
    map_answers = is_chased (model_tables f) I n.symbols n.tables.items rows by_schema N.wide N.numbering.is_shown N.numbering.parts N.listed n.constants c N.numbering.ordered N.determined D.demands D.ended

    pub clash_can_be_read : (p : ClashAt) → c.chased.clash ≡ Some p → CanRead n.symbols rows c p
    clash_can_be_read = can_read (model_tables f) I n.symbols n.tables.items rows by_schema N.wide N.numbering.is_shown N.numbering.parts N.listed n.constants c N.numbering.ordered N.determined D.demands D.ended

    pub clash_answers : (p : ClashAt) → c.chased.clash ≡ Some p → (k : Clash) → IsClashByValues n.symbols rows c p k → IsClash (model_tables f) (facts I) k
    clash_answers = is_answer (model_tables f) I n.symbols n.tables.items rows by_schema N.wide N.numbering.is_shown N.numbering.parts N.listed n.constants c N.numbering.ordered N.determined D.demands D.ended

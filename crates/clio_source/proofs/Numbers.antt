-- Tables of numbers, and the facts that they show.
use Rattle.std.proofs.Common.{◌≡◌, ℕ, zero, suc, ◌+◌, ◌-◌, ◌^◌, ◌<◌, ◌≤◌, List, [], ◌∷◌, ◌++◌, length, map, set, take, get_or, refl, sym, ◌∙◌, ap, subst, arith, inl, inr, append_assoc}
use Rattle.std.proofs.lemmas.Bool.{cases_eq}
use Rattle.std.proofs.lemmas.List.{append-nil, get_or-map, get_or-set_other, get_or-set_same, length-append, length-map, map-append, map-set, take_all, take_more}
use Rattle.dx_base.specs.Members.{◌∈◌, ◌⊆◌, ◌≈◌, here, there, Each}
use Rattle.dx_base.proofs.Members.{from_append, in_at, in_left, in_right, same_append, same_equal, same_members, same_trans}
use Rattle.dx_model.specs.declared.values.Value.{Value}
use Rattle.dx_model.specs.declared.facts.Fact.{Fact}
use Rattle.dx_instance.specs.Cells.{NumberTable, with_numbers}
use Rattle.dx_instance.specs.Numbers.{Extends}
use Rattle.dx_instance.specs.Shown.{NumbersBelow, NumberRowsFit, Shows, numbers_of_table, shown, shown_row, shown_tables}
use Rattle.dx_instance.specs.Stored.{AddsRow, TableRows, facts, facts_from, rows_of, widths}
use Rattle.dx_instance.proofs.ShownFacts.{grown_below, grown_rows, grown_fitting, from_set, table_read}
use Rattle.dx_instance.proofs.StoredFacts.{fact_from_row, row_from_fact}
use Rattle.clio_source.specs.Source.{as_facts}
use Rattle.clio_source.specs.Fitting.{AddsFacts, CanTake, rows_shown}

-- ---- more symbols change no row

pub still_fit : (S T : List Value) (t : NumberTable) → Extends S T → NumberRowsFit (length S) t → NumberRowsFit (length T) t
still_fit S T t x b = record { columns = b.columns; within = λ r m. grown_below S T r x (b.within r m) }

-- ---- the facts of tables

facts_both : (n : ℕ) (A B : List TableRows) → facts_from n (A ++ B) ≡ facts_from n A ++ facts_from (n + length A) B
facts_both n [] B = let e : n ≡ n + 0 = omega arith in ap (λ k. facts_from k B) e
facts_both n (t ∷ A) B =
    let e : suc n + length A ≡ n + suc (length A) = omega arith in
    let here_are : List Fact = as_facts n t.rows in
    ap (λ (fs : List Fact). here_are ++ fs) (facts_both (suc n) A B ∙ ap (λ k. facts_from (suc n) A ++ facts_from k B) e)
    ∙ sym (append_assoc here_are (facts_from (suc n) A) (facts_from (n + suc (length A)) B))

shown_both : (S : List Value) (ts us : List NumberTable) → facts (shown_tables S (ts ++ us)) ≡ facts (shown_tables S ts) ++ facts_from (length ts) (shown_tables S us)
shown_both S ts us =
    ap facts (map-append (shown S) ts us) ∙ facts_both 0 (shown_tables S ts) (shown_tables S us)
    ∙ (let e : 0 + length (shown_tables S ts) ≡ length ts = omega (arith, length-map ts (shown S)) in ap (λ k. facts (shown_tables S ts) ++ facts_from k (shown_tables S us)) e)

-- those of one table more
pub facts_of_one : (S T : List Value) (ts now : List NumberTable) (t : NumberTable) (n : ℕ) → Extends S T → Each ts (NumberRowsFit (length S)) → now ≡ ts ++ t ∷ [] → length ts ≡ n
    → facts (shown_tables T now) ≡ facts (shown_tables S ts) ++ as_facts n (rows_shown T t)
facts_of_one S T ts now t n x b e many =
    ap (λ us. facts (shown_tables T us)) e ∙ shown_both T ts (t ∷ [])
    ∙ ap (λ (I : List TableRows). facts I ++ facts_from (length ts) (shown_tables T (t ∷ []))) (grown_fitting S T ts x b)
    ∙ ap (λ k. facts (shown_tables S ts) ++ (as_facts k (rows_shown T t) ++ [])) many
    ∙ ap (λ fs. facts (shown_tables S ts) ++ fs) (append-nil (as_facts n (rows_shown T t)))

-- empty tables have none
facts_of_empty : (S : List Value) (n : ℕ) (ts : List NumberTable) → Each ts (λ t. t.rows ≡ []) → facts_from n (shown_tables S ts) ≡ []
facts_of_empty S n [] h = refl
facts_of_empty S n (t ∷ ts) h =
    ap (λ (rows : List (List ℕ)). as_facts n (map (shown_row S) rows) ++ facts_from (suc n) (shown_tables S ts)) (h t (here refl)) ∙ facts_of_empty S (suc n) ts (λ u m. h u (there m))

pub facts_with_empty : (S : List Value) (ts more : List NumberTable) → Each more (λ t. t.rows ≡ []) → facts (shown_tables S (ts ++ more)) ≡ facts (shown_tables S ts)
facts_with_empty S ts more h = shown_both S ts more ∙ ap (λ fs. facts (shown_tables S ts) ++ fs) (facts_of_empty S (length ts) more h) ∙ append-nil (facts (shown_tables S ts))

-- one row more is one fact more
facts_of_row : (I J : List TableRows) (j : ℕ) (row : List Value) → AddsRow I J j row → facts J ≈ (facts I ++ record { table = j; row = row } ∷ [])
facts_of_row I J j row a = (to, back)
  where
    at : (x : Fact) → x.row ∈ rows_of I x.table → x ∈ (facts I ++ record { table = j; row = row } ∷ [])
    at x m = in_left (record { table = j; row = row } ∷ []) (fact_from_row I x.table x.row m)

    last : (x : Fact) → x.table ≡ j → x.row ∈ (row ∷ []) → record { table = j; row = row } ≡ x
    last x e (here is) = (λ i. record { table = sym e i; row = is i })
    last x e (there m) = elim m [ ]

    to : facts J ⊆ (facts I ++ record { table = j; row = row } ∷ [])
    to x m =
        let r = row_from_fact J x m in
        elim (cases_eq x.table j) [
          | inl e ↦ elim (from_append (rows_of I j) (subst (λ rs. x.row ∈ rs) a.here (subst (λ k. x.row ∈ rows_of J k) e r))) [
            | inl old ↦ at x (subst (λ k. x.row ∈ rows_of I k) (sym e) old)
            | inr new ↦ in_right (facts I) (here (last x e new))
          ]
          | inr other ↦ at x (subst (λ rs. x.row ∈ rs) (a.others x.table other) r)
        ]

    kept : (x : Fact) → x.row ∈ rows_of I x.table → x.row ∈ rows_of J x.table
    kept x m = elim (cases_eq x.table j) [
      | inl e ↦ subst (λ k. x.row ∈ rows_of J k) (sym e) (subst (λ rs. x.row ∈ rs) (sym a.here) (in_left (row ∷ []) (subst (λ k. x.row ∈ rows_of I k) e m)))
      | inr other ↦ subst (λ rs. x.row ∈ rs) (sym (a.others x.table other)) m
    ]

    added : (x : Fact) → x ∈ (record { table = j; row = row } ∷ []) → x ∈ facts J
    added x (here e) = subst (λ (y : Fact). y ∈ facts J) e (fact_from_row J j row (subst (λ rs. row ∈ rs) (sym a.here) (in_right (rows_of I j) (here refl))))
    added x (there m) = elim m [ ]

    back : (facts I ++ record { table = j; row = row } ∷ []) ⊆ facts J
    back x m = elim (from_append (facts I) m) [
      | inl old ↦ fact_from_row J x.table x.row (kept x (row_from_fact I x old))
      | inr new ↦ added x new
    ]

-- ---- a row of numbers more

abbrev no_rows : TableRows
no_rows = record { width = 0; rows = [] }

widths_set : (I : List TableRows) (j : ℕ) (t : TableRows) → j < length I → t.width ≡ (get_or I j t).width → widths (set I j t) ≡ widths I
widths_set [] j t h e = absurd (omega arith)
widths_set (u ∷ I) zero t h e = ap (λ (w : ℕ). w ∷ widths I) e
widths_set (u ∷ I) (suc j) t h e = ap (λ (ws : List ℕ). u.width ∷ ws) (widths_set I j t (omega arith) e)

pub adds_numbers : (S T : List Value) (ts now : List NumberTable) (j : ℕ) (t : NumberTable) (numbers : List ℕ) (row : List Value) → Extends S T → Each ts (NumberRowsFit (length S)) → j < length ts → t ≡ get_or ts j t
    → now ≡ set ts j (with_numbers t numbers) → shown_row T numbers ≡ row → AddsRow (shown_tables S ts) (shown_tables T now) j row
adds_numbers S T ts now j t numbers row x b lt at is shows =
    subst (λ (J : List TableRows). AddsRow (shown_tables S ts) J j row) (sym whole) (record {
      widths_stay = widths_set (shown_tables S ts) j new within width;
      here = ap (λ (u : TableRows). u.rows) (get_or-set_same (shown_tables S ts) j new no_rows within) ∙ rows_are;
      others = λ u d. ap (λ (v : TableRows). v.rows) (get_or-set_other (shown_tables S ts) j u new no_rows d);
    })
  where
    new : TableRows
    new = shown T (with_numbers t numbers)

    within : j < length (shown_tables S ts)
    within = omega (arith, lt, length-map ts (shown S))

    old_is : (d : TableRows) → get_or (shown_tables S ts) j d ≡ shown S t
    old_is d = get_or-map (shown S) ts j t d lt ∙ ap (shown S) (sym at)

    width : t.width ≡ (get_or (shown_tables S ts) j (shown T (with_numbers t numbers))).width
    width = sym (ap (λ (u : TableRows). u.width) (old_is (shown T (with_numbers t numbers))))

    kept : map (shown_row T) t.rows ≡ map (shown_row S) t.rows
    kept = grown_rows S T t.rows x (b t (subst (λ (u : NumberTable). u ∈ ts) (sym at) (in_at ts j t lt))).within

    rows_are : map (shown_row T) (t.rows ++ numbers ∷ []) ≡ rows_of (shown_tables S ts) j ++ row ∷ []
    rows_are =
        map-append (shown_row T) t.rows (numbers ∷ []) ∙ ap (λ (rs : List (List Value)). rs ++ shown_row T numbers ∷ []) kept
        ∙ ap (λ (r : List Value). map (shown_row S) t.rows ++ r ∷ []) shows ∙ ap (λ (rs : List (List Value)). rs ++ row ∷ []) (sym (ap (λ (u : TableRows). u.rows) (old_is no_rows)))

    whole : shown_tables T now ≡ set (shown_tables S ts) j new
    whole = ap (shown_tables T) is ∙ map-set (shown T) ts j (with_numbers t numbers) ∙ ap (λ (I : List TableRows). set I j (shown T (with_numbers t numbers))) (grown_fitting S T ts x b)

-- ---- facts one after the other

abbrev width_of : NumberTable → ℕ
width_of t = t.width

abbrev pub no_numbers : NumberTable
no_numbers = record { width = 0; rows = [] }

-- the first k facts are rows of their tables
pub record ArePut (S T : List Value) (ts now : List NumberTable) (first : ℕ) (said : List Fact) (k : ℕ) : Type 0 where
  pub shown : facts (shown_tables T now) ≈ (facts (shown_tables S ts) ++ take k said)
  pub widths : map width_of now ≡ map width_of ts
  pub below : Each now (NumberRowsFit (length T))
  pub few : (t : ℕ) → first ≤ t → length (numbers_of_table now t).rows ≤ k

pub none_put : (S : List Value) (ts : List NumberTable) (first : ℕ) (said : List Fact) → CanTake ts first said → Each ts (NumberRowsFit (length S)) → ArePut S S ts ts first said 0
none_put S ts first said c b = record {
  shown = same_equal (sym (append-nil (facts (shown_tables S ts))));
  widths = refl;
  below = b;
  few = λ t le. omega (arith, ap length (c.empty t le));
}

many_same : (ts now : List NumberTable) → map width_of now ≡ map width_of ts → length now ≡ length ts
many_same ts now e = sym (length-map now width_of) ∙ ap length e ∙ length-map ts width_of

width_at : (ts : List NumberTable) (j : ℕ) → j < length ts → get_or (map width_of ts) j 0 ≡ (numbers_of_table ts j).width
width_at ts j lt = get_or-map width_of ts j no_numbers 0 lt

-- what is asked of the next fact
pub record IsNext (now : List NumberTable) (fact : Fact) : Type 0 where
  pub table : fact.table < length now
  pub width : length fact.row ≡ (numbers_of_table now fact.table).width
  pub room : length (numbers_of_table now fact.table).rows < 2 ^ 32 - 1

pub table_there : (S T : List Value) (ts now : List NumberTable) (first : ℕ) (said : List Fact) (k : ℕ) (fact : Fact) → ArePut S T ts now first said k → CanTake ts first said → k < length said → fact ≡ get_or said k fact
    → (first ≤ fact.table) × (fact.table < length now)
table_there S T ts now first said k fact p c lt at =
    let m : fact ∈ said = subst (λ (x : Fact). x ∈ said) (sym at) (in_at said k fact lt) in
    let w = c.within fact m in
    (omega (arith, w), omega (arith, w, many_same ts now p.widths))

pub is_next : (S T : List Value) (ts now : List NumberTable) (first : ℕ) (said : List Fact) (k : ℕ) (fact : Fact) → ArePut S T ts now first said k → CanTake ts first said
    → k < length said → fact ≡ get_or said k fact → length said < 2 ^ 32 - 1 → IsNext now fact
is_next S T ts now first said k fact p c lt at few =
    let m : fact ∈ said = subst (λ (x : Fact). x ∈ said) (sym at) (in_at said k fact lt) in
    let w = table_there S T ts now first said k fact p c lt at in
    let old : fact.table < length ts = omega (arith, w, many_same ts now p.widths) in
    let rows = p.few fact.table w.0 in record {
      table = w.1;
      width = c.wide fact m ∙ sym (width_at ts fact.table old) ∙ ap (λ ws. get_or ws fact.table 0) (sym p.widths) ∙ width_at now fact.table w.1;
      room = omega (arith, few, lt, rows);
    }

widths_put : (ts : List NumberTable) (j : ℕ) (t u : NumberTable) → t ≡ get_or ts j t → j < length ts → u.width ≡ t.width → map width_of (set ts j u) ≡ map width_of ts
widths_put [] j t u at lt e = absurd (omega arith)
widths_put (x ∷ ts) zero t u at lt e = ap (λ w. w ∷ map width_of ts) (e ∙ ap width_of at)
widths_put (x ∷ ts) (suc j) t u at lt e = ap (λ ws. x.width ∷ ws) (widths_put ts j t u at (omega arith) e)

pub one_put : (S T U : List Value) (ts now after : List NumberTable) (first : ℕ) (said : List Fact) (k : ℕ) (fact : Fact) (t : NumberTable) (numbers : List ℕ) → ArePut S T ts now first said k → CanTake ts first said
    → k < length said → fact ≡ get_or said k fact → t ≡ get_or now fact.table t → Extends T U → Shows U numbers fact.row → after ≡ set now fact.table (with_numbers t numbers) → ArePut S U ts after first said (k + 1)
one_put S T U ts now after first said k fact t numbers p c lt at read grows shows is =
    subst (λ us. ArePut S U ts us first said (k + 1)) (sym is) (record { shown = shown_are; widths = widths_put now fact.table t (with_numbers t numbers) read there_is refl ∙ p.widths; below = below; few = few })
  where
    there_is : fact.table < length now
    there_is = (table_there S T ts now first said k fact p c lt at).1

    row_more : AddsRow (shown_tables T now) (shown_tables U (set now fact.table (with_numbers t numbers))) fact.table fact.row
    row_more = adds_numbers T U now (set now fact.table (with_numbers t numbers)) fact.table t numbers fact.row grows p.below there_is read refl shows.is

    shown_are : facts (shown_tables U (set now fact.table (with_numbers t numbers))) ≈ (facts (shown_tables S ts) ++ take (k + 1) said)
    shown_are =
        same_trans (facts_of_row (shown_tables T now) (shown_tables U (set now fact.table (with_numbers t numbers))) fact.table fact.row row_more)
        (same_trans (same_append p.shown (same_members (fact ∷ [])))
        (same_equal (append_assoc (facts (shown_tables S ts)) (take k said) (fact ∷ []) ∙ ap (λ fs. facts (shown_tables S ts) ++ fs) (ap (λ x. take k said ++ x ∷ []) at ∙ sym (take_more said k fact lt)))))

    there_fits : NumberRowsFit (length T) t
    there_fits = p.below t (subst (λ (u : NumberTable). u ∈ now) (sym read) (in_at now fact.table t there_is))

    last : (r : List ℕ) → r ∈ (numbers ∷ []) → NumbersBelow (length U) r
    last r (here e) = subst (NumbersBelow (length U)) e shows.within
    last r (there m) = elim m [ ]

    rows_fit : (r : List ℕ) → r ∈ (t.rows ++ numbers ∷ []) → NumbersBelow (length U) r
    rows_fit r m = elim (from_append t.rows m) [ inl old ↦ grown_below T U r grows (there_fits.within r old) | inr new ↦ last r new ]

    below : Each (set now fact.table (with_numbers t numbers)) (NumberRowsFit (length U))
    below u m = elim (from_set now fact.table (with_numbers t numbers) u m) [
      | inl e ↦ subst (NumberRowsFit (length U)) e (record { columns = there_fits.columns; within = rows_fit })
      | inr old ↦ still_fit T U u grows (p.below u old)
    ]

    few : (j : ℕ) → first ≤ j → length (numbers_of_table (set now fact.table (with_numbers t numbers)) j).rows ≤ k + 1
    few j le = elim (cases_eq j fact.table) [
      | inl e ↦
          let x = get_or-set_same now fact.table (with_numbers t numbers) no_numbers there_is in
          let n = ap (λ i. length (numbers_of_table (set now fact.table (with_numbers t numbers)) i).rows) e ∙ ap (λ (u : NumberTable). length u.rows) x ∙ length-append t.rows (numbers ∷ []) in
          let o = p.few fact.table (table_there S T ts now first said k fact p c lt at).0 in
          omega (arith, n, o, ap (λ (u : NumberTable). length u.rows) (table_read now fact.table t there_is read))
      | inr other ↦
          let n = ap (λ (u : NumberTable). length u.rows) (get_or-set_other now fact.table j (with_numbers t numbers) no_numbers other) in
          let o = p.few j le in
          omega (arith, n, o)
    ]

pub all_put : (S T : List Value) (ts now : List NumberTable) (first : ℕ) (said : List Fact) (k : ℕ) → ArePut S T ts now first said k → length said ≤ k → AddsFacts S T ts now said
all_put S T ts now first said k p past = record {
  shown = same_trans p.shown (same_equal (ap (λ fs. facts (shown_tables S ts) ++ fs) (take_all k said past)));
  widths = p.widths;
  below = p.below;
}

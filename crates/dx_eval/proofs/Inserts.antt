-- What insert steps make, place by place, step by step and rule by rule.
use Rattle.std.proofs.Common.{◌≡◌, ◌↔◌, ℕ, zero, suc, ◌+◌, ◌<◌, ◌≤◌, eqb, Bool, List, [], ◌∷◌, ◌++◌, length, get_or, take, refl, sym, ◌∙◌, ap, subst, inl, inr, arith}
use Rattle.std.specs.Prelude.{IsTrue, map, flat_map, slice_index, slice_index_or, Result, Ok, Err, IfOk}
use Rattle.std.specs.declared.alloc.AllocError.{AllocError}
use Rattle.std.proofs.lemmas.Bool.{cases_lt, cases_Bool, eqb-true, eq-eqb}
use Rattle.std.proofs.lemmas.List.{append-nil, get_or-map, length-map, take_more, take_all, map_push}
use Rattle.std.proofs.lemmas.Simd.{map-map}
use Rattle.std.proofs.lemmas.List.Concat.{flat_map-append}
use Rattle.dx_base.specs.Members.{◌∈◌, here, there, Each}
use Rattle.dx_base.proofs.Loops.{each_item}
use Rattle.dx_base.proofs.Members.{from_append, from_flat_map, from_map, in_at, in_flat_map, in_map}
use Rattle.dx_model.specs.declared.facts.Fact.{Fact}
use Rattle.dx_model.specs.declared.values.Value.{Value}
use Rattle.dx_model.specs.declared.values.Value.TheVariants.{Const, Null}
use Rattle.dx_model.specs.Values.{Tuple, Rows}
use Rattle.dx_base.specs.Texts.{Text}
use Rattle.dx_instance.specs.Cells.{NumberTable, numbers_at}
use Rattle.dx_instance.specs.Numbers.{Extends, value_of}
use Rattle.dx_instance.specs.Shown.{NumbersBelow, shown_row}
use Rattle.dx_instance.specs.Stored.{IsSorting, TableRows, facts, table_at, widths}
use Rattle.dx_instance.proofs.StoredFacts.{fact_from_row, row_from_fact}
use Rattle.dx_joins.specs.Shown.{AllTexts, texts_of}
use Rattle.dx_schema.specs.Forest.{Forest}
use Rattle.dx_schema.specs.Names.{TableNames, table_names_of, names_of_table}
use Rattle.dx_schema.specs.Tables.{TableOf, schema_widths, tables_of}
use Rattle.dx_instance.proofs.ShownFacts.{longer, grown_row}
use Rattle.dx_joins.proofs.Growing.{texts_stay, texts_grow}
use Rattle.dx_script.specs.declared.form.Out.{Out}
use Rattle.dx_script.specs.declared.form.Out.TheVariants.{Column, Literal, Skolem}
use Rattle.dx_script.specs.declared.form.Unless.{Unless}
use Rattle.dx_script.specs.declared.form.Step.{Step}
use Rattle.dx_script.specs.declared.form.Step.TheVariants.{Create, MatchRows, KeepRows, InsertRows}
use Rattle.dx_script.specs.Names.{table_named, table_numbered}
use Rattle.dx_script.proofs.Made.{named_count}
use Rattle.dx_script.specs.Meaning.{IsInserted, IsInKeepTable, in_column, inserted, match_table}
use Rattle.dx_model.specs.Covers.{tuple_at}
use Rattle.dx_tgd.specs.Gained.{GainsFacts}
use Rattle.dx_tgd.specs.Planned.{StandsAs}
use Rattle.dx_tgd.specs.Texts.{tuples_in}
use Rattle.dx_tgd.proofs.Ascending.{row_there}
use Rattle.dx_tgd.proofs.Gaining.{gains_more, gains_next, gains_nothing}
use Rattle.dx_tgd.proofs.Steps.{tuples_grown}
use Rattle.dx_eval.specs.Keeping.{Stay}
use Rattle.dx_eval.specs.Inserting.{IsInsertedBelow, OutStands, inserted_fact, facts_by, inserted_facts, placed_fact}
use Rattle.dx_eval.specs.Variables.{width_named}
use Rattle.dx_eval.proofs.Partners.{column_is, constant_is}

-- ---- numbers

-- the number in a column stands for the text there
pub column_stands : (S : List Value) (row : List ℕ) (c n : ℕ) → AllTexts S row → c < length row → n ≡ slice_index row c → StandsAs S n (Const (in_column (texts_of S row) c))
column_stands S row c n t h e =
    let k = t (slice_index row c) (in_at row c 0 h) in
    let v = (constant_is (value_of S (slice_index row c)) (in_column (texts_of S row) c) k.1).1 (sym (column_is S row c h)) in
    rw e (record { within = k.0; value = v })

pub all_texts_there : (S T : List Value) (rows : List (List ℕ)) → Extends S T → Each rows (AllTexts S) → Each rows (AllTexts T)
all_texts_there S T rows e t r m = texts_grow S T r e (t r m)

-- one number more in the buffer
pub filled_more : (S T U : List Value) (row buffer new : List ℕ) (r k : ℕ) (cells : List Out) (i n : ℕ) (out : Out) → i < length cells → out ≡ get_or cells i out → Extends S T → Extends T U → AllTexts S row
    → NumbersBelow (length T) buffer → shown_row T buffer ≡ map (inserted r k (texts_of S row)) (take i cells) → StandsAs U n (inserted r k (texts_of T row) out) → new ≡ buffer ++ n ∷ []
    → NumbersBelow (length U) new × (shown_row U new ≡ map (inserted r k (texts_of S row)) (take (i + 1) cells))
filled_more S T U row buffer new r k cells i n out h is st tu texts below shown stands e =
    let all : take (i + 1) cells ≡ take i cells ++ out ∷ [] = take_more cells i out h ∙ ap (λ z. take i cells ++ z ∷ []) (sym is) in
    let same : texts_of T row ≡ texts_of S row = texts_stay S T row st texts in
    let value : value_of U n ≡ inserted r k (texts_of S row) out = stands.value ∙ ap (λ z. inserted r k z out) same in
    let w = stands.within in
    let l = longer T U tu in
    rw (e, all) (
      (λ x m. elim (from_append buffer m) [ inl q ↦ let b = below x q in omega (arith, b, l) | inr q ↦ last w x q ]),
      map_push (value_of U) buffer n ∙ (ap (λ z. z ++ value_of U n ∷ []) (grown_row T U buffer tu below ∙ shown) ∙ (ap (λ z. map (inserted r k (texts_of S row)) (take i cells) ++ z ∷ []) value ∙ sym (map_push (inserted r k (texts_of S row)) (take i cells) out))),
    )
  where
    last : n < length U → (x : ℕ) → x ∈ (n ∷ []) → x < length U
    last w x (here q) = rw (← q) w
    last w x (there m) = elim m [ ]

-- ---- what is gained

-- what one step more makes
pub gains_step : {I J K : List TableRows} (g : Step → List Fact) (steps : List Step) (i : ℕ) (s : Step) → i < length steps → s ≡ get_or steps i s → GainsFacts I J (flat_map g (take i steps)) → GainsFacts J K (g s) → GainsFacts I K (flat_map g (take (i + 1) steps))
gains_step {I} {J} {K} g steps i s h e a b =
    let all : flat_map g (take (i + 1) steps) ≡ flat_map g (take i steps) ++ g s =
    ap (flat_map g) (take_more steps i s h ∙ ap (λ z. take i steps ++ z ∷ []) (sym e)) ∙ (flat_map-append g (take i steps) (s ∷ []) ∙ ap (λ z. flat_map g (take i steps) ++ z) (append-nil (g s))) in
    rw all (gains_more (flat_map g (take i steps)) (g s) a b)

-- a step that makes nothing
pub gains_same : {I J : List TableRows} (g : Step → List Fact) (steps : List Step) (i : ℕ) (s : Step) → i < length steps → s ≡ get_or steps i s → g s ≡ [] → GainsFacts I J (flat_map g (take i steps)) → GainsFacts I J (flat_map g (take (i + 1) steps))
gains_same {I} {J} g steps i s h e n a = gains_step g steps i s h e a (rw n (gains_nothing J))

-- a step of another kind, or of another rule
pub other_facts : (target : List TableNames) (r : ℕ) (tuples : List Tuple) (places : List ℕ) (s : Step) → ((table : Text) (kept : Bool) (cells : List Out) → ¬ (s ≡ InsertRows table r kept cells)) → inserted_facts target r tuples places s ≡ []
other_facts target r tuples places (Create table columns) n = refl
other_facts target r tuples places (MatchRows q a b c) n = refl
other_facts target r tuples places (KeepRows q unless) n = refl
other_facts target r tuples places (InsertRows table q kept cells) n = elim (cases_Bool (eqb q r)) [
  | inl t ↦ absurd (n table kept cells (ap (λ z. InsertRows table z kept cells) (eqb-true q r t)))
  | inr f ↦ rw f refl
]

pub own_facts : (target : List TableNames) (r : ℕ) (tuples : List Tuple) (places : List ℕ) (s : Step) (table : Text) (kept : Bool) (cells : List Out) → s ≡ InsertRows table r kept cells → inserted_facts target r tuples places s ≡ map (inserted_fact target table r tuples cells) places
own_facts target r tuples places s table kept cells e = rw (e, eq-eqb r r refl) refl

-- ---- rules

module _ (target : List TableNames) (steps : List Step) (tables : Rows) where
  below_none : (I : List TableRows) → facts I ≡ [] → (f : Fact) → (f ∈ facts I) ↔ IsInsertedBelow target steps tables 0 f
  below_none I e f = ((λ m. elim (rw e at m) [ ]), (λ w. absurd (let l = w.low in omega arith)))

  -- the facts of one rule
  from_facts : (r : ℕ) (places : List ℕ) (f : Fact) → Stay steps tables r places → f ∈ facts_by target steps r (match_table tables r) places → (w : IsInserted target steps tables f) × (w.rule ≡ r)
  from_facts r places f stay m = let w = from_flat_map (inserted_facts target r (match_table tables r) places) steps m in go w.0 w.1 w.2
    where
      made : (table : Text) (kept : Bool) (cells : List Out) → InsertRows table r kept cells ∈ steps → f ∈ map (inserted_fact target table r (match_table tables r) cells) places → (w : IsInserted target steps tables f) × (w.rule ≡ r)
      made table kept cells k n =
          let p = from_map (inserted_fact target table r (match_table tables r) cells) places n in
          let q = (stay p.0).0 p.1 in
          (record { table = table; rule = r; kept = kept; cells = cells; step = k; place = p.0; within = q.0; stays = λ t. q.1; is = p.2 }, refl)

      go : (s : Step) → s ∈ steps → f ∈ inserted_facts target r (match_table tables r) places s → (w : IsInserted target steps tables f) × (w.rule ≡ r)
      go (Create table columns) k n = elim n [ ]
      go (MatchRows q a b c) k n = elim n [ ]
      go (KeepRows q unless) k n = elim n [ ]
      go (InsertRows table q kept cells) k n = elim (cases_Bool (eqb q r)) [
        | inl t ↦ made table kept cells (subst (λ z. InsertRows table z kept cells ∈ steps) (eqb-true q r t) k) (rw t at n)
        | inr e ↦ elim (rw e at n) [ ]
      ]

  to_facts : (r : ℕ) (places : List ℕ) (f : Fact) → ((table : Text) (q : ℕ) (kept : Bool) (cells : List Out) (unless : List Unless) → InsertRows table q kept cells ∈ steps → KeepRows q unless ∈ steps → IsTrue kept)
      → Stay steps tables r places → (w : IsInserted target steps tables f) → w.rule ≡ r → f ∈ facts_by target steps r (match_table tables r) places
  to_facts r places f reads stay w e =
      let k : InsertRows w.table r w.kept w.cells ∈ steps = subst (λ z. InsertRows w.table z w.kept w.cells ∈ steps) e w.step in
      let kept : IsInKeepTable steps tables r (tuple_at tables r w.place) = (λ unless m. (subst (λ z. IsInKeepTable steps tables z (tuple_at tables z w.place)) e (w.stays (reads w.table r w.kept w.cells unless k m))) unless m) in
      let place : w.place ∈ places = (stay w.place).1 (subst (λ z. w.place < length (match_table tables z)) e w.within, kept) in
      let is : inserted_fact target w.table r (match_table tables r) w.cells w.place ≡ f =
      subst (λ z. ◌≡◌ {A = Fact} (record { table = table_named target w.table; row = map (inserted z w.place (tuple_at tables z w.place)) w.cells }) f) e w.is in
      in_flat_map (inserted_facts target r (match_table tables r) places) k (rw (eq-eqb r r refl) (subst (λ z. z ∈ map (inserted_fact target w.table r (match_table tables r) w.cells) places) is (in_map (inserted_fact target w.table r (match_table tables r) w.cells) place)))

  -- one rule more
  pub rule_more : (r : ℕ) (places : List ℕ) (J K : List TableRows) → ((table : Text) (q : ℕ) (kept : Bool) (cells : List Out) (unless : List Unless) → InsertRows table q kept cells ∈ steps → KeepRows q unless ∈ steps → IsTrue kept)
      → Stay steps tables r places → GainsFacts J K (facts_by target steps r (match_table tables r) places) → ((f : Fact) → (f ∈ facts J) ↔ IsInsertedBelow target steps tables r f) → (f : Fact) → (f ∈ facts K) ↔ IsInsertedBelow target steps tables (r + 1) f
  rule_more r places J K reads stay g old f = (
    (λ m. elim (g.only f m) [
      | inl l ↦ let w = (old f).0 l in record { step = w.step; low = let k = w.low in omega (arith, k) }
      | inr n ↦ let w = from_facts r places f stay n in let e = w.1 in record { step = w.0; low = omega (arith, e) }
    ]),
    (λ w. elim (cases_lt (w.step).rule r) [
      | inl l ↦ g.kept f ((old f).1 (record { step = w.step; low = l }))
      | inr h ↦ let k = w.low in g.there f (to_facts r places f reads stay w.step (omega (arith, k, h)))
    ]),
  )

  -- all rules
  pub all_rules : (n : ℕ) (I : List TableRows) → length tables ≤ n → ((f : Fact) → (f ∈ facts I) ↔ IsInsertedBelow target steps tables n f) → (f : Fact) → (f ∈ facts I) ↔ IsInserted target steps tables f
  all_rules n I h k f = (
    (λ m. ((k f).0 m).step),
    (λ w. (k f).1 (record { step = w; low = let l = inside tables w.rule w.place w.within in omega (arith, l, h) })),
  )
    where
      inside : (ts : Rows) (r p : ℕ) → p < length (match_table ts r) → r < length ts
      inside [] r p l = absurd (omega (arith, l))
      inside (t ∷ ts) zero p l = omega arith
      inside (t ∷ ts) (suc r) p l = let i = inside ts r p l in omega (arith, i)

pub none_below : (target : List TableNames) (steps : List Step) (tables : Rows) (I : List TableRows) → facts I ≡ [] → (f : Fact) → (f ∈ facts I) ↔ IsInsertedBelow target steps tables 0 f
none_below target steps tables I e f = below_none target steps tables I e f

-- the same facts in order
pub sorted_facts : (I J : List TableRows) → IsSorting I J → (f : Fact) → (f ∈ facts J) ↔ (f ∈ facts I)
sorted_facts I J s f = (
  (λ m. fact_from_row I f.table f.row (s.only f.table f.row (row_from_fact J f m))),
  (λ m. fact_from_row J f.table f.row (s.kept f.table f.row (row_from_fact I f m))),
)

-- ---- what stands in a column

pub column_in : (w r k c : ℕ) (t : Tuple) (out : Out) → out ≡ Column c → OutStands w out → (c < w) × (Const (in_column t c) ≡ inserted r k t out)
column_in w r k c t out e s = (subst (OutStands w) e s, ap (inserted r k t) (sym e))

pub literal_in : (r k : ℕ) (t : Tuple) (out : Out) (text copy : Text) → out ≡ Literal text → copy ≡ text → Const copy ≡ inserted r k t out
literal_in r k t out text copy e c = ap Const c ∙ ap (inserted r k t) (sym e)

pub null_in : (r k v : ℕ) (t : Tuple) (out : Out) → out ≡ Skolem v → Null (record { rule = r; var = v; row = k }) ≡ inserted r k t out
null_in r k v t out e = ap (inserted r k t) (sym e)

pub column_number_stands : (S : List Value) (row : List ℕ) (r k c : ℕ) (out : Out) → out ≡ Column c → OutStands (length row) out → AllTexts S row → StandsAs S (slice_index row c) (inserted r k (texts_of S row) out)
column_number_stands S row r k c out e s t =
    let p = column_in (length row) r k c (texts_of S row) out e s in
    subst (StandsAs S (slice_index row c)) p.1 (column_stands S row c (slice_index row c) t p.0 refl)

pub stands_is : (result : Result ℕ AllocError) (S : List Value) (v w : Value) → v ≡ w → IfOk result (λ n. n < length S) → IfOk result (λ n. value_of S n ≡ v) → IfOk result (λ n. StandsAs S n w)
stands_is (Ok n) S v w e a b = record { within = a; value = b ∙ e }
stands_is (Err x) S v w e a b = tt

-- ---- a row at a place

pub gains_at : {I J K : List TableRows} (S T U : List Value) (rows : List (List ℕ)) (row numbers : List ℕ) (table r k i : ℕ) (places : List ℕ) (cells : List Out)
    → i < length places → k ≡ get_or places i k → k < length rows → row ≡ numbers_at rows k → Extends S T → Each rows (AllTexts S) → shown_row U numbers ≡ map (inserted r k (texts_of T row)) cells
    → GainsFacts I J (map (placed_fact table r (map (texts_of S) rows) cells) (take i places)) → GainsFacts J K (record { table = table; row = shown_row U numbers } ∷ []) → GainsFacts I K (map (placed_fact table r (map (texts_of S) rows) cells) (take (i + 1) places))
gains_at {I} {J} {K} S T U rows row numbers table r k i places cells h ke low is grows texts shown old new =
    let mine : AllTexts S row = row_there S rows k row texts low is in
    let tuple : texts_of T row ≡ slice_index_or (map (texts_of S) rows) k [] = texts_stay S T row grows mine ∙ (ap (texts_of S) is ∙ sym (get_or-map (texts_of S) rows k [] [] low)) in
    let values : shown_row U numbers ≡ map (inserted r k (slice_index_or (map (texts_of S) rows) k [])) cells = shown ∙ ap (λ (t : Tuple). map (inserted r k t) cells) tuple in
    gains_next (placed_fact table r (map (texts_of S) rows) cells) places i k h ke old (subst (λ (vs : List Value). GainsFacts J K (record { table = table; row = vs } ∷ [])) values new)

pub place_low : (places : List ℕ) (i k n : ℕ) → i < length places → k ≡ get_or places i k → Each places (λ j. j < n) → k < n
place_low places i k n h e f = each_item (λ (j : ℕ). j < n) places i k h e f

pub long_tables : (I J : List TableRows) → widths J ≡ widths I → length J ≡ length I
long_tables I J w = sym (length-map J (λ (t : TableRows). t.width)) ∙ (ap length w ∙ length-map I (λ (t : TableRows). t.width))

pub long_shown : (U : List Value) (numbers : List ℕ) (f : Out → Value) (cells : List Out) → shown_row U numbers ≡ map f cells → length numbers ≡ length cells
long_shown U numbers f cells e = sym (length-map numbers (value_of U)) ∙ (ap length e ∙ length-map cells f)

pub wide_as : (I J : List TableRows) (t : ℕ) → widths J ≡ widths I → t < length J → slice_index (widths I) t ≡ (table_at J t).width
wide_as I J t w h = ap (λ (z : List ℕ). slice_index z t) (sym w) ∙ get_or-map (λ (u : TableRows). u.width) J t (record { width = 0; rows = [] }) 0 h

-- ---- a step of a rule

pub gains_insert : {I J K : List TableRows} (target : List TableNames) (steps : List Step) (i : ℕ) (s : Step) (name : Text) (table r : ℕ) (kept : Bool) (cells : List Out) (S T : List Value) (rows : List (List ℕ)) (places : List ℕ)
    → i < length steps → s ≡ get_or steps i s → s ≡ InsertRows name r kept cells → table ≡ table_named target name → Extends S T → Each rows (AllTexts S)
    → GainsFacts I J (facts_by target (take i steps) r (map (texts_of S) rows) places) → GainsFacts J K (map (placed_fact table r (map (texts_of T) rows) cells) places)
    → GainsFacts I K (facts_by target (take (i + 1) steps) r (map (texts_of S) rows) places)
gains_insert {I} {J} {K} target steps i s name table r kept cells S T rows places h is variant te grows texts old new =
    let named : GainsFacts J K (map (placed_fact (table_named target name) r (map (texts_of T) rows) cells) places) = subst (λ (z : ℕ). GainsFacts J K (map (placed_fact z r (map (texts_of T) rows) cells) places)) te new in
    let same : GainsFacts J K (map (inserted_fact target name r (map (texts_of S) rows) cells) places) =
    subst (λ (ts : List Tuple). GainsFacts J K (map (inserted_fact target name r ts cells) places)) (tuples_grown S T rows grows texts) named in
    let own = own_facts target r (map (texts_of S) rows) places s name kept cells variant in
    gains_step (inserted_facts target r (map (texts_of S) rows) places) steps i s h is old (subst (λ (fs : List Fact). GainsFacts J K fs) (sym own) same)

pub all_gained : {I J : List TableRows} (g : Step → List Fact) (steps : List Step) (i : ℕ) → length steps ≤ i → GainsFacts I J (flat_map g (take i steps)) → GainsFacts I J (flat_map g steps)
all_gained {I} {J} g steps i h a = subst (λ (z : List Step). GainsFacts I J (flat_map g z)) (take_all i steps h) a

pub all_placed : {I J : List TableRows} (f : ℕ → Fact) (places : List ℕ) (i : ℕ) → length places ≤ i → GainsFacts I J (map f (take i places)) → GainsFacts I J (map f places)
all_placed {I} {J} f places i h a = subst (λ (z : List ℕ). GainsFacts I J (map f z)) (take_all i places h) a

pub insert_of_another : (s : Step) (name : Text) (q r : ℕ) (kept : Bool) (cells : List Out) → s ≡ InsertRows name q kept cells → ¬ (q ≡ r) → (t : Text) (k : Bool) (cs : List Out) → ¬ (s ≡ InsertRows t r k cs)
insert_of_another s name q r kept cells e n t k cs d = n (same (sym e ∙ d))
  where
    same : InsertRows name q kept cells ≡ InsertRows t r k cs → q ≡ r
    same g = cc

pub step_in : (steps : List Step) (i : ℕ) (s t : Step) → i < length steps → s ≡ get_or steps i s → s ≡ t → t ∈ steps
step_in steps i s t h is e = subst (λ (z : Step). z ∈ steps) (sym is ∙ e) (in_at steps i s h)

-- ---- the columns of a table

pub widths_named : (f : Forest) → schema_widths f ≡ map (λ (n : TableNames). length n.columns) (table_names_of f)
widths_named f = sym (map-map (λ (n : TableNames). length n.columns) names_of_table (tables_of f))

pub wide_columns : (f : Forest) (t : ℕ) → t < length (tables_of f) → slice_index (schema_widths f) t ≡ length (table_numbered (table_names_of f) t).columns
wide_columns f t h =
    let n = named_count f in
    ap (λ (z : List ℕ). slice_index z t) (widths_named f) ∙ get_or-map (λ (n : TableNames). length n.columns) (table_names_of f) t (record { name = []; columns = [] }) 0 (omega (arith, n, h))

-- ---- all rules

pub tuples_all_grown : (S T : List Value) (ts : List NumberTable) → Extends S T → Each ts (λ (t : NumberTable). Each t.rows (AllTexts S)) → tuples_in T ts ≡ tuples_in S ts
tuples_all_grown S T [] e f = refl
tuples_all_grown S T (t ∷ ts) e f =
    let first = tuples_grown S T t.rows e (f t (here refl)) in
    let rest = tuples_all_grown S T ts e (λ u m. f u (there m)) in
    cc (first, rest)

pub all_there : (S T : List Value) (ts : List NumberTable) → Extends S T → Each ts (λ (t : NumberTable). Each t.rows (AllTexts S)) → Each ts (λ (t : NumberTable). Each t.rows (AllTexts T))
all_there S T ts e f t m = all_texts_there S T t.rows e (f t m)

pub tuples_of_rule : (S : List Value) (ts : List NumberTable) (r : ℕ) (t : NumberTable) → r < length ts → t ≡ get_or ts r t → match_table (tuples_in S ts) r ≡ map (texts_of S) t.rows
tuples_of_rule S ts r t h is = get_or-map (λ (u : NumberTable). map (texts_of S) u.rows) ts r t [] h ∙ ap (λ (u : NumberTable). map (texts_of S) u.rows) (sym is)

pub places_low : (S : List Value) (ts : List NumberTable) (steps : List Step) (r : ℕ) (t : NumberTable) (places : List ℕ) → r < length ts → t ≡ get_or ts r t → Stay steps (tuples_in S ts) r places → Each places (λ k. k < length t.rows)
places_low S ts steps r t places h is stay k m =
    let a = ((stay k).0 m).0 in
    let e = ap length (tuples_of_rule S ts r t h is) ∙ length-map t.rows (texts_of S) in
    omega (arith, a, e)

-- one rule more, whose tuples are read when the symbols have grown
pub rule_more_grown : (target : List TableNames) (steps : List Step) (S T : List Value) (ts : List NumberTable) (r : ℕ) (t : NumberTable) (places : List ℕ) (J K : List TableRows)
    → ((table : Text) (q : ℕ) (kept : Bool) (cells : List Out) (unless : List Unless) → InsertRows table q kept cells ∈ steps → KeepRows q unless ∈ steps → IsTrue kept)
    → Extends S T → Each ts (λ (u : NumberTable). Each u.rows (AllTexts S)) → r < length ts → t ≡ get_or ts r t → Stay steps (tuples_in T ts) r places
    → GainsFacts J K (facts_by target steps r (map (texts_of T) t.rows) places) → ((f : Fact) → (f ∈ facts J) ↔ IsInsertedBelow target steps (tuples_in S ts) r f)
    → (f : Fact) → (f ∈ facts K) ↔ IsInsertedBelow target steps (tuples_in S ts) (r + 1) f
rule_more_grown target steps S T ts r t places J K reads grows texts h is stay gained old =
    let same = tuples_all_grown S T ts grows texts in
    let stays : Stay steps (tuples_in S ts) r places = subst (λ (z : Rows). Stay steps z r places) same stay in
    let tuples : map (texts_of T) t.rows ≡ match_table (tuples_in S ts) r = sym (tuples_of_rule T ts r t h is) ∙ ap (λ (z : Rows). match_table z r) same in
    let gains : GainsFacts J K (facts_by target steps r (match_table (tuples_in S ts) r) places) = subst (λ (z : List Tuple). GainsFacts J K (facts_by target steps r z places)) tuples gained in
    rule_more target steps (tuples_in S ts) r places J K reads stays gains old

pub all_inserted : (target : List TableNames) (steps : List Step) (S : List Value) (ts : List NumberTable) (n : ℕ) (I : List TableRows) → length ts ≤ n
    → ((f : Fact) → (f ∈ facts I) ↔ IsInsertedBelow target steps (tuples_in S ts) n f) → (f : Fact) → (f ∈ facts I) ↔ IsInserted target steps (tuples_in S ts) f
all_inserted target steps S ts n I h f =
    let l = length-map ts (λ (t : NumberTable). map (texts_of S) t.rows) in
    all_rules target steps (tuples_in S ts) n I (omega (arith, h, l)) f

-- ---- a table of the target

pub table_low : (f : Forest) (I : List TableRows) (t : ℕ) → widths I ≡ schema_widths f → t < length (tables_of f) → t < length I
table_low f I t w h =
    let a = length-map I (λ (u : TableRows). u.width) in
    let b = length-map (tables_of f) (λ (u : TableOf). length u.columns) in
    let e = ap length w in
    omega (arith, a, b, e, h)

pub cells_wide : (f : Forest) (I : List TableRows) (name : Text) (t : ℕ) (cells items : List Out) → widths I ≡ schema_widths f → t < length (tables_of f) → t ≡ table_named (table_names_of f) name
    → length cells ≡ width_named (table_names_of f) name → items ≡ cells → length items ≡ slice_index (widths I) t
cells_wide f I name t cells items w h te many same =
    ap length same ∙ (many ∙ (ap (λ (z : ℕ). length (table_numbered (table_names_of f) z).columns) (sym te) ∙ (sym (wide_columns f t h) ∙ ap (λ (ws : List ℕ). slice_index ws t) (sym w))))

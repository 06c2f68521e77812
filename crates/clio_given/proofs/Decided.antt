-- Files say one given target, or are refused for one reason, and never both.
use Rattle.std.proofs.Common.{◌≡◌, ◌∙◌, ◌⊎◌, ℕ, zero, suc, ◌-◌, ◌^◌, ◌<◌, List, [], ◌∷◌, ◌++◌, inl, inr, refl, sym, ap, subst, arith, length, take, Some, Ok, Err, true, false}
use Rattle.std.specs.Prelude.{Bool, if◌then◌else◌, nat_lt, slice_get}
use Rattle.std.specs.List.{AllZip, range_with_len}
use Rattle.std.proofs.lemmas.Bool.{cases_Bool, cases_eq, cases_lt, eqb-true, false≢true}
use Rattle.dx_base.specs.Members.{◌∈◌, here, there, Each}
use Rattle.dx_base.proofs.Members.{from_append, from_map}
use Rattle.dx_base.proofs.Ranges.{from_range}
use Rattle.dx_model.specs.declared.facts.Fact.{Fact}
use Rattle.dx_model.specs.declared.values.Value.{Value}
use Rattle.dx_model.specs.declared.values.Value.TheVariants.{Const, Null}
use Rattle.dx_model.specs.Values.{row_cmp}
use Rattle.dx_model.proofs.Ascending.{one_ascending}
use Rattle.dx_model.proofs.Decided.{same_list}
use Rattle.dx_instance.specs.Stored.{TableRows, rows_of}
use Rattle.dx_instance.specs.ValueText.{ValueFits, null_text, question_mark, starts_with_question_mark, value_text_of}
use Rattle.dx_instance.proofs.Placed.{row_total}
use Rattle.dx_instance.proofs.StoredFacts.{same_tables}
use Rattle.dx_instance.proofs.TextFacts.{texts_differ}
use Rattle.dx_instance.proofs.NoTexts.{plain_text, marked_text}
use Rattle.dx_schema.specs.Forest.{Forest}
use Rattle.dx_schema.specs.Tables.{schema_table, tables_of}
use Rattle.dx_csv.specs.Table.{table_records}
use Rattle.dx_csv.proofs.Decided.{table_or_fault}
use Rattle.dx_csv.proofs.OneReading.{fault-is-one, faults-exclude, table-is-one}
use Rattle.dx_stages.specs.Worlds.{World}
use Rattle.dx_stages.specs.Stages.{Stage, computing, each, next, notions, over}
use Rattle.dx_stages.specs.Laws.{IsDecided, PassesOne}
use Rattle.dx_stages.proofs.Decided.{Any, by_decided, by_one, computing_decided, computing_one, each_decided, each_one, next_decided, next_one, notions_decided, over_decided, over_one, weaker}
use Rattle.clio_source.specs.declared.fault.RowsFault.{RowsFault}
use Rattle.clio_source.specs.declared.fault.RowsFault.TheVariants.{Csv, Value as NoValue}
use Rattle.clio_source.specs.declared.fault.SourceRefusal.{SourceRefusal}
use Rattle.clio_source.specs.declared.fault.SourceRefusal.TheVariants as refusals
use Rattle.clio_source.specs.Source.{IsStored, ReadState, as_facts, fact_cells, fetching}
use Rattle.clio_source.proofs.Decided.{some_stored, row_of_both, fetching_decided, fetching_one}
use Rattle.clio_source.proofs.Passed.{AreOf}
use Rattle.clio_given.specs.Given.{ValuesOfFields, IsGivenRowsFault, IsGivenFault, IsFirstNoRow, IsNoRow, IsValueOf, SayRows, SaysGivenRows, TargetRequest, given_files_stages, given_name, given_loading, none_read, given_reading, given_storing, too_many_given_cells, with_given_facts}
use Rattle.clio_given.specs.Laws.{GivenOrRefused, OneGiven}

abbrev Same : SourceRefusal → SourceRefusal → Type 0
Same d e = d ≡ e

-- ---- a text is a value's, or not

-- one of the first n numbers has P, or none
below_or : (P : ℕ → Type 0) → ((k : ℕ) → P k ⊎ (¬ (P k))) → (n : ℕ) → ((k : ℕ) × (k < n) × P k) ⊎ ((k : ℕ) → k < n → ¬ (P k))
below_or P decide zero = inr (λ k h. absurd (omega (arith, h)))
below_or P decide (suc n) = elim (decide n) [
  | inl p ↦ inl (n, omega arith, p)
  | inr q ↦ elim (below_or P decide n) [
    | inl w ↦ let h = w.1 in inl (w.0, omega (arith, h), w.2)
    | inr all ↦ inr (λ k h. elim (cases_lt k n) [ inl l ↦ all k l | inr l ↦ let e : n ≡ k = omega (arith, h, l) in subst (λ (x : ℕ). ¬ (P x)) e q ])
  ]
]

-- a null with numbers below n has the text, or none
abbrev IsText : List ℕ → ℕ → ℕ → ℕ → Type 0
IsText text a b c = null_text (record { rule = a; var = b; row = c }) ≡ text

null_or : (text : List ℕ) (n : ℕ) → ((a b c : ℕ) × (a < n) × (b < n) × (c < n) × IsText text a b c) ⊎ ((a b c : ℕ) → a < n → b < n → c < n → ¬ (IsText text a b c))
null_or text n = elim (below_or (λ a. (b : ℕ) × (b < n) × ((c : ℕ) × (c < n) × IsText text a b c)) rules n) [
  | inl w ↦ inl (w.0, w.2.0, w.2.2.0, w.1, w.2.1, w.2.2.1, w.2.2.2)
  | inr none ↦ inr (λ a b c ha hb hc e. none a ha (b, hb, (c, hc, e)))
]
  where
    rows : (a b c : ℕ) → IsText text a b c ⊎ (¬ (IsText text a b c))
    rows a b c = same_list cases_eq (null_text (record { rule = a; var = b; row = c })) text

    vars : (a b : ℕ) → ((b < n) × ((c : ℕ) × (c < n) × IsText text a b c)) ⊎ (¬ ((b < n) × ((c : ℕ) × (c < n) × IsText text a b c)))
    vars a b = elim (cases_lt b n) [
      | inr l ↦ inr (λ w. let h = w.0 in omega (arith, h, l))
      | inl l ↦ elim (below_or (IsText text a b) (rows a b) n) [
        | inl w ↦ inl (l, w)
        | inr none ↦ inr (λ w. none w.1.0 w.1.1 w.1.2)
      ]
    ]

    rules : (a : ℕ) → ((b : ℕ) × (b < n) × ((c : ℕ) × (c < n) × IsText text a b c)) ⊎ (¬ ((b : ℕ) × (b < n) × ((c : ℕ) × (c < n) × IsText text a b c)))
    rules a = elim (below_or (λ b. (b < n) × ((c : ℕ) × (c < n) × IsText text a b c)) (vars a) n) [
      | inl w ↦ inl (w.0, w.2.0, w.2.1)
      | inr none ↦ inr (λ w. none w.0 w.1 (w.1, w.2))
    ]

abbrev IsTextOf : List ℕ → Value → Type 0
IsTextOf text v = ValueFits v × (value_text_of v ≡ text)

-- after one `?` comes no other: it is a null's, or no value's
once_or : (n : ℕ) → n ≡ 2 ^ 32 → (rest : List ℕ) → starts_with_question_mark rest ≡ false
    → ((v : Value) × IsTextOf (question_mark ∷ rest) v) ⊎ ((v : Value) → ¬ (IsTextOf (question_mark ∷ rest) v))
once_or n is rest once = elim (null_or (question_mark ∷ rest) n) [
  | inl w ↦ inl (
    Null (record { rule = w.0; var = w.1; row = w.2 }),
    (
      record {
        rule = subst (λ (k : ℕ). w.0 < k) is w.3;
        var = subst (λ (k : ℕ). w.1 < k) is w.4;
        row = subst (λ (k : ℕ). w.2 < k) is w.5;
      },
      w.6,
    ),
  )
  | inr none ↦ inr (λ v w. no_value none v w.0 w.1)
]
  where
    tail : (t : List ℕ) → question_mark ∷ t ≡ question_mark ∷ rest → t ≡ rest
    tail t e = cc

    no_value : ((a b c : ℕ) → a < n → b < n → c < n → ¬ (IsText (question_mark ∷ rest) a b c)) → (v : Value) → ValueFits v
        → value_text_of v ≡ question_mark ∷ rest → ⊥
    no_value none (Null m) fits e =
        none m.rule m.var m.row (subst (λ (k : ℕ). m.rule < k) (sym is) fits.rule) (subst (λ (k : ℕ). m.var < k) (sym is) fits.var)
        (subst (λ (k : ℕ). m.row < k) (sym is) fits.row) e
    no_value none (Const t) fits e = elim (cases_Bool (starts_with_question_mark t)) [
      | inl y ↦
          let same : t ≡ rest = tail t (sym (marked_text t y) ∙ e) in
          false≢true (sym once ∙ (sym (ap starts_with_question_mark same) ∙ y))
      | inr k ↦
          let same : t ≡ question_mark ∷ rest = sym (plain_text t k) ∙ e in
          false≢true (sym k ∙ ap starts_with_question_mark same)
    ]

text_or : (text : List ℕ) → ((v : Value) × IsTextOf text v) ⊎ ((v : Value) → ¬ (IsTextOf text v))
text_or [] = inl (Const [], (tt, refl))
text_or (b ∷ rest) = elim (cases_Bool (starts_with_question_mark (b ∷ rest))) [
  | inr n ↦ inl (Const (b ∷ rest), (tt, plain_text (b ∷ rest) n))
  | inl y ↦
      let first : b ≡ question_mark = eqb-true b question_mark y in
      let same : question_mark ∷ rest ≡ b ∷ rest = ap (λ (x : ℕ). x ∷ rest) (sym first) in
      subst (λ (t : List ℕ). ((v : Value) × IsTextOf t v) ⊎ ((v : Value) → ¬ (IsTextOf t v))) same (elim (cases_Bool (starts_with_question_mark rest)) [
        | inl two ↦ inl (Const rest, (tt, marked_text rest two))
        | inr once ↦ once_or (2 ^ 32) refl rest once
      ])
]

-- ---- fields, rows, tables

field_or : (field : Value) → ((v : Value) × IsValueOf field v) ⊎ ((v : Value) → ¬ (IsValueOf field v))
field_or (Null n) = inr (λ v w. apart v w.1)
  where
    apart : (v : Value) → Null n ≡ Const (value_text_of v) → ⊥
    apart v e = cc
field_or (Const t) = elim (text_or t) [
  | inl w ↦ inl (w.0, (w.1.0, ap (λ (s : List ℕ). Const s) (sym w.1.1)))
  | inr none ↦ inr (λ v w. none v (w.0, same v w.1))
]
  where
    same : (v : Value) → Const t ≡ Const (value_text_of v) → value_text_of v ≡ t
    same v e = cc

row_or : (fields : List Value) → ((row : List Value) × AllZip IsValueOf fields row) ⊎ IsNoRow fields
row_or [] = inl ([], tt)
row_or (x ∷ fields) = elim (field_or x) [
  | inr none ↦ inr (λ row z. first none row z)
  | inl v ↦ elim (row_or fields) [
    | inl w ↦ inl (v.0 ∷ w.0, (v.1, w.1))
    | inr none ↦ inr (λ row z. behind none row z)
  ]
]
  where
    first : ((v : Value) → ¬ (IsValueOf x v)) → (row : List Value) → AllZip IsValueOf (x ∷ fields) row → ⊥
    first none [] z = z
    first none (v ∷ row) z = none v z.0

    behind : IsNoRow fields → (row : List Value) → AllZip IsValueOf (x ∷ fields) row → ⊥
    behind none [] z = z
    behind none (v ∷ row) z = none row z.1

rows_or : (fields : List (List Value)) → ((rows : List (List Value)) × ValuesOfFields fields rows) ⊎ ((r : ℕ) × IsFirstNoRow fields r)
rows_or [] = inl ([], tt)
rows_or (x ∷ fields) = elim (row_or x) [
  | inr none ↦ inr (1, record { place = 0; number = refl; row = x; is = refl; no_row = none; before = λ y m. elim m [ ] })
  | inl w ↦ elim (rows_or fields) [
    | inl all ↦ inl (w.0 ∷ all.0, (w.1, all.1))
    | inr n ↦ inr (
      suc n.0,
      record {
        place = suc n.1.place;
        number = ap suc n.1.number;
        row = n.1.row;
        is = n.1.is;
        no_row = n.1.no_row;
        before = λ y m. before w n.1.place n.1.before y m;
      },
    )
  ]
]
  where
    before : ((row : List Value) × AllZip IsValueOf x row) → (k : ℕ) → Each (take k fields) (λ (y : List Value). ¬ (IsNoRow y)) → (y : List Value) → y ∈ (x ∷ take k fields) → ¬ (IsNoRow y)
    before w k all y (here e) = subst (λ (u : List Value). ¬ (IsNoRow u)) e (λ n. n w.0 w.1)
    before w k all y (there m) = all y m

-- ---- one of each

value_one : (field v w : Value) → IsValueOf field v → IsValueOf field w → v ≡ w
value_one field v w p q = texts_differ v w p.0 q.0 (same (sym p.1 ∙ q.1))
  where
    same : Const (value_text_of v) ≡ Const (value_text_of w) → value_text_of v ≡ value_text_of w
    same e = cc

zip_one : {X Y : Type 0} (R : X → Y → Type 0) → ((x : X) (y z : Y) → R x y → R x z → y ≡ z) → (xs : List X) (ys zs : List Y) → AllZip R xs ys → AllZip R xs zs → ys ≡ zs
zip_one R one [] [] [] p q = refl
zip_one R one [] [] (z ∷ zs) p q = absurd q
zip_one R one [] (y ∷ ys) zs p q = absurd p
zip_one R one (x ∷ xs) [] zs p q = absurd p
zip_one R one (x ∷ xs) (y ∷ ys) [] p q = absurd q
zip_one R one (x ∷ xs) (y ∷ ys) (z ∷ zs) p q =
    let first = one x y z p.0 q.0 in
    let rest = zip_one R one xs ys zs p.1 q.1 in
    (λ i. first i ∷ rest i)

values_one : (fields a b : List (List Value)) → ValuesOfFields fields a → ValuesOfFields fields b → a ≡ b
values_one fields a b p q = zip_one (AllZip IsValueOf) (λ x y z. zip_one IsValueOf value_one x y z) fields a b p q

some_eq : {X : Type 0} (x y : X) → Some x ≡ Some y → x ≡ y
some_eq x y e = cc

-- the row at a place is one of the first rows
in_take : {X : Type 0} (xs : List X) (i k : ℕ) (x : X) → slice_get xs i ≡ Some x → i < k → x ∈ take k xs
in_take [] i k x e h = absurd (cc)
in_take (y ∷ xs) i zero x e h = absurd (omega (arith, h))
in_take (y ∷ xs) zero (suc k) x e h = here (some_eq y x e)
in_take (y ∷ xs) (suc i) (suc k) x e h = there (in_take xs i k x e (omega (arith, h)))

place_one : (rows : List (List Value)) (r s : ℕ) → IsFirstNoRow rows r → IsFirstNoRow rows s → r ≡ s
place_one rows r s p q = elim (cases_lt p.place q.place) [
  | inl l ↦ absurd (q.before p.row (in_take rows p.place q.place p.row p.is l) p.no_row)
  | inr l ↦ elim (cases_lt q.place p.place) [
    | inl k ↦ absurd (p.before q.row (in_take rows q.place p.place q.row q.is k) q.no_row)
    | inr k ↦ let e : p.place ≡ q.place = omega (arith, l, k) in p.number ∙ (ap suc e ∙ sym q.number)
  ]
]

-- a row of values is at each place
zip_at : {X Y : Type 0} (R : X → Y → Type 0) (xs : List X) (ys : List Y) (i : ℕ) (x : X) → AllZip R xs ys → slice_get xs i ≡ Some x → (y : Y) × R x y
zip_at R [] ys i x z e = absurd (cc)
zip_at R (u ∷ xs) [] i x z e = absurd z
zip_at {X} {Y} R (u ∷ xs) (y ∷ ys) zero x z e = (y, subst (λ (w : X). R w y) (some_eq u x e) z.0)
zip_at R (u ∷ xs) (y ∷ ys) (suc i) x z e = zip_at R xs ys i x z.1 e

never_rows : (fields rows : List (List Value)) (r : ℕ) → ValuesOfFields fields rows → ¬ (IsFirstNoRow fields r)
never_rows fields rows r z n = let w = zip_at (AllZip IsValueOf) fields rows n.place n.row z n.is in n.no_row w.0 w.1

-- ---- what the bytes of a file say

module _ (f : Forest) (table : ℕ) (bytes : List ℕ) where
  abbrev records : List (List (List ℕ))
  records = table_records bytes

  abbrev columns : List (List ℕ)
  columns = (schema_table f table).columns

  said_one : (a b : List (List Value)) → SayRows f table bytes a → SayRows f table bytes b → a ≡ b
  said_one a b x y =
      let same : x.0 ≡ y.0 = table-is-one records columns x.0 y.0 x.1 y.1 in
      values_one y.0 a b (subst (λ (fields : List (List Value)). ValuesOfFields fields a) same x.2) y.2

  fault_one : (d e : RowsFault) → IsGivenRowsFault f table bytes d → IsGivenRowsFault f table bytes e → d ≡ e
  fault_one d e (inl x) (inl y) = x.2 ∙ (ap Csv (fault-is-one records columns x.0 y.0 x.1 y.1) ∙ sym y.2)
  fault_one d e (inl x) (inr y) = absurd (faults-exclude records columns y.1.0 x.0 y.1.1 x.1)
  fault_one d e (inr x) (inl y) = absurd (faults-exclude records columns x.1.0 y.0 x.1.1 y.1)
  fault_one d e (inr x) (inr y) =
      let same : x.1.0 ≡ y.1.0 = table-is-one records columns x.1.0 y.1.0 x.1.1 y.1.1 in
      x.2 ∙ (ap NoValue (place_one y.1.0 x.0 y.0 (subst (λ (rows : List (List Value)). IsFirstNoRow rows x.0) same x.1.2) y.1.2) ∙ sym y.2)

  never_both : (rows : List (List Value)) (e : RowsFault) → SayRows f table bytes rows → ¬ (IsGivenRowsFault f table bytes e)
  never_both rows e x (inl y) = faults-exclude records columns x.0 y.0 x.1 y.1
  never_both rows e x (inr y) =
      let same : y.1.0 ≡ x.0 = table-is-one records columns y.1.0 x.0 y.1.1 x.1 in
      never_rows x.0 rows y.0 x.2 (subst (λ (fields : List (List Value)). IsFirstNoRow fields y.0) same y.1.2)

  either_one : ((rows : List (List Value)) × SayRows f table bytes rows) ⊎ ((e : RowsFault) × IsGivenRowsFault f table bytes e)
  either_one = elim (table_or_fault records columns) [
    | inr k ↦ inr (Csv k.0, inl (k.0, k.1, refl))
    | inl t ↦ elim (rows_or t.0) [
      | inl w ↦ inl (w.0, (t.0, t.1, w.1))
      | inr n ↦ inr (NoValue n.0, inr (n.0, (t.0, t.1, n.1), refl))
    ]
  ]

-- ---- one table

module _ (f : Forest) (table : ℕ) where
  says_one : PassesOne (notions (IsGivenFault f table) (SaysGivenRows f table))
  says_one c p q s x y =
      x.2 ∙ (ap (λ (rows : List (List Value)). (record { facts = p.0.facts; bytes_left = p.0.bytes_left - length p.1; cells_left = p.0.cells_left }, as_facts table rows))
      (said_one f table p.1 x.0 y.0 x.1 y.1) ∙ sym y.2)

  says_decided : IsDecided Same Any (notions (IsGivenFault f table) (SaysGivenRows f table))
  says_decided = notions_decided Same Any (IsGivenFault f table) (SaysGivenRows f table) one never either
    where
      one : (p : ReadState × List ℕ) (d e : SourceRefusal) → Unit {0} → IsGivenFault f table p d → IsGivenFault f table p e → d ≡ e
      one p d e g x y = x.2 ∙ (ap (λ (k : RowsFault). refusals.Rows (given_name (schema_table f table).name) k) (fault_one f table p.1 x.0 y.0 x.1 y.1) ∙ sym y.2)

      never : (p : ReadState × List ℕ) (q : ReadState × List Fact) (e : SourceRefusal) → Unit {0} → SaysGivenRows f table p q → ¬ (IsGivenFault f table p e)
      never p q e g x y = never_both f table p.1 x.0 y.0 x.1 y.1

      either : (p : ReadState × List ℕ) → Unit {0} → ((q : ReadState × List Fact) × SaysGivenRows f table p q) ⊎ ((e : SourceRefusal) × IsGivenFault f table p e)
      either p g = elim (either_one f table p.1) [
        | inl s ↦ inl (_, (s.0, s.1, refl))
        | inr k ↦ inr (_, (k.0, k.1, refl))
      ]

  loading_one : PassesOne (given_loading f table)
  loading_one = next_one (notions (IsGivenFault f table) (SaysGivenRows f table)) (computing (with_given_facts f)) says_one (computing_one (with_given_facts f))

  loading_decided : IsDecided Same Any (given_loading f table)
  loading_decided =
      next_decided Same Any Any (notions (IsGivenFault f table) (SaysGivenRows f table)) (computing (with_given_facts f)) says_one (λ c a b g p. tt) says_decided
      (computing_decided Same Any (with_given_facts f) (λ e. refl))

  abbrev name : List ℕ
  name = given_name (schema_table f table).name

  reading_one : PassesOne (given_reading f table)
  reading_one = next_one (fetching name) (given_loading f table) (fetching_one name) loading_one

  reading_decided : IsDecided Same Any (given_reading f table)
  reading_decided =
      next_decided Same Any Any (fetching name) (given_loading f table) (fetching_one name) (λ c a b g p. tt) (fetching_decided name) loading_decided

-- ---- what was read is of the schema's tables

pub counted : (f : Forest) (q : ReadState × List Fact) (s : ReadState) → with_given_facts f q ≡ Ok s → s.facts ≡ q.0.facts ++ q.1
counted f q s is = of (nat_lt q.0.cells_left (fact_cells f q.1)) is
  where
    of : (b : Bool) → (if b then Err too_many_given_cells else Ok (record { facts = q.0.facts ++ q.1; bytes_left = q.0.bytes_left; cells_left = q.0.cells_left - fact_cells f q.1 })) ≡ Ok s
        → s.facts ≡ q.0.facts ++ q.1
    of true e = cc
    of false e =
        let same : record { facts = q.0.facts ++ q.1; bytes_left = q.0.bytes_left; cells_left = q.0.cells_left - fact_cells f q.1 } ≡ s = cc in
        sym (ap (λ (v : ReadState). v.facts) same)

one_of : (f : Forest) (table : ℕ) (c : World) (r s : ReadState) → table < length (tables_of f) → AreOf f r.facts → (given_reading f table).passes c r s → AreOf f s.facts
one_of f table c r s within of (p, (bytes, found, p_is), (q, (rows, says, q_is), s_is)) =
    let before : q.0.facts ≡ r.facts = ap (λ (v : ReadState × List Fact). v.0.facts) q_is ∙ ap (λ (v : ReadState × List ℕ). v.0.facts) p_is in
    let after : s.facts ≡ r.facts ++ as_facts table rows =
    counted f q s s_is ∙ (ap (λ (fs : List Fact). fs ++ q.1) before ∙ ap (λ (v : ReadState × List Fact). r.facts ++ v.1) q_is) in
    λ x m. elim (from_append r.facts (subst (λ (fs : List Fact). x ∈ fs) after m)) [ inl old ↦ of x old | inr new ↦ added rows x new ]
  where
    added : (rows : List (List Value)) → AreOf f (as_facts table rows)
    added rows x m =
        let k = from_map (λ (row : List Value). let u : Fact = record { table = table; row = row } in u) rows m in
        subst (λ (n : ℕ). n < length (tables_of f)) (ap (λ (y : Fact). y.table) k.2) within

all_of : (f : Forest) (us : List ℕ) (c : World) (r s : ReadState) → Each us (λ u. u < length (tables_of f)) → AreOf f r.facts → (each (given_reading f) us).passes c r s → AreOf f s.facts
all_of f [] c r s are of p = subst (AreOf f) (sym (ap (λ (v : ReadState). v.facts) p)) of
all_of f (u ∷ us) c r s are of (b, one, rest) = all_of f us c b s (λ v m. are v (there m)) (one_of f u c r b (are u (here refl)) of one) rest

-- ---- the instance

abbrev IsOf : Forest → ReadState → Type 0
IsOf f r = AreOf f r.facts

storing_one : (f : Forest) → PassesOne (given_storing f)
storing_one f c r I J p q =
    same_tables I J (p.widths_are ∙ sym q.widths_are) (λ t.
    one_ascending row_cmp row_total (rows_of I t) (rows_of J t) (p.ascend t) (q.ascend t) (row_of_both f r.facts I J p q t) (row_of_both f r.facts J I q p t))

storing_decided : (f : Forest) → IsDecided Same (IsOf f) (given_storing f)
storing_decided f =
    notions_decided Same (IsOf f) (λ r e. ⊥) (λ r I. IsStored f r.facts I) (λ r d e g x y. absurd x) (λ r I e g x y. y)
    (λ r g. inl (some_stored f r.facts g))

-- ---- all files

module _ (w : TargetRequest) where
  abbrev numbers : List ℕ
  numbers = range_with_len 0 (length (tables_of w.schema))

  abbrev IsStart : ReadState → Type 0
  IsStart r = r ≡ none_read w.bytes_left

  files_one : PassesOne (given_files_stages w.schema)
  files_one = each_one (given_reading w.schema) numbers (reading_one w.schema)

  whole_one : PassesOne (next (given_files_stages w.schema) (given_storing w.schema))
  whole_one = next_one (given_files_stages w.schema) (given_storing w.schema) files_one (storing_one w.schema)

  files_lead : (c : World) (r s : ReadState) → IsStart r → (given_files_stages w.schema).passes c r s → IsOf w.schema s
  files_lead c r s start p =
      all_of w.schema numbers c r s (λ u m. let h = (from_range 0 (length (tables_of w.schema)) u m).1 in omega (arith, h))
      (subst (λ (v : ReadState). AreOf w.schema v.facts) (sym start) (λ x m. elim m [ ])) p

  whole_decided : IsDecided Same IsStart (next (given_files_stages w.schema) (given_storing w.schema))
  whole_decided =
      next_decided Same IsStart (IsOf w.schema) (given_files_stages w.schema) (given_storing w.schema) files_one files_lead
      (weaker Same Any IsStart (given_files_stages w.schema) (λ a g. tt)
      (each_decided Same Any (given_reading w.schema) numbers (reading_one w.schema) (λ x c a b g p. tt) (reading_decided w.schema)))
      (storing_decided w.schema)

abbrev staged : TargetRequest → Stage SourceRefusal TargetRequest (List TableRows)
staged w = over (λ (_ : TargetRequest). none_read w.bytes_left) (next (given_files_stages w.schema) (given_storing w.schema))

pub given_one : OneGiven
given_one = by_one staged (λ w. over_one (λ (_ : TargetRequest). none_read w.bytes_left) (next (given_files_stages w.schema) (given_storing w.schema)) (whole_one w))

pub given_decided : GivenOrRefused
given_decided = by_decided Same Any staged (λ w g.
    over_decided Same Any (λ (r : ReadState). r ≡ none_read w.bytes_left) (λ (_ : TargetRequest). none_read w.bytes_left) (next (given_files_stages w.schema) (given_storing w.schema)) (λ a g. refl) (whole_decided w))

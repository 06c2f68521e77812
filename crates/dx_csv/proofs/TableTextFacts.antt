-- The text of a table, and what it is read as.
use Rattle.std.proofs.Common.{◌≡◌, ◌∙◌, ◌<◌, ◌≤◌, ◌+◌, ◌++◌, ◌∷◌, ◌==◌, get_or, ℕ, zero, suc, List, [], Bool, true, false, refl, sym, ap, arith, length, map, take, append_assoc, append-nil, None, inl, inr}
use Rattle.std.specs.Prelude.{if◌then◌else◌, ◌&&◌, slice_index_or}
use Rattle.std.proofs.lemmas.Bool.{cases_Bool}
use Rattle.std.proofs.lemmas.List.{take_more, map-append, length-map, get_or-map}
use Rattle.csv.proofs.RoundTrip.{read-write}
use Rattle.csv.specs.Machine.{next_record}
use Rattle.csv.specs.Reading.{strip_bom, default_config, is_bom}
use Rattle.csv.specs.Writing.{default_writer, row_text, read_back, field_text, fields_text, is_blank, needs_quotes, quoted}
use Rattle.csv.specs.declared.parser.State.TheVariants as st
use Rattle.dx_base.specs.Members.{◌∈◌, here, there, Each}
use Rattle.dx_model.specs.declared.values.Value.{Value}
use Rattle.dx_model.specs.Values.{RowsAscend}
use Rattle.dx_instance.specs.Cells.{NumberTable, numbers_at}
use Rattle.dx_instance.specs.Numbers.{value_of}
use Rattle.dx_instance.specs.Shown.{numbers_of_table, shown, shown_row, shown_tables}
use Rattle.dx_instance.specs.Stored.{TableRows, IsSorting, rows_of, table_at, widths}
use Rattle.dx_instance.specs.ValueText.{value_text_of}
use Rattle.dx_csv.specs.Left.{left_from}
use Rattle.dx_csv.specs.Table.{table_records}
use Rattle.dx_csv.specs.Print.{HasNoMark, IsTableText, records_text, records_of_table}
use Rattle.dx_csv.proofs.LeftFacts.{left-next, left-none}

-- ---- the lines that were written read back
nothing : next_record default_config st.StartRecord [] [] [] ≡ None
unfolding next_record
nothing = refl

pub lines-read : (rows : List (List (List ℕ))) → left_from st.StartRecord (records_text rows) ≡ map read_back rows
lines-read [] = left-none st.StartRecord [] nothing
lines-read (row ∷ rows) =
    left-next st.StartRecord (row_text default_writer row ++ records_text rows) (read_back row, st.StartRecord, records_text rows) refl (read-write row (records_text rows))
    ∙ ap (λ (t : List (List (List ℕ))). read_back row ∷ t) (lines-read rows)

-- a line with a field is that line again
read_back-same : (row : List (List ℕ)) → 1 ≤ length row → read_back row ≡ row
read_back-same [] h = absurd (omega arith)
read_back-same (x ∷ xs) h = refl

read_back-rows : (n : ℕ) (rows : List (List Value)) → 1 ≤ n → Each rows (λ row. length row ≡ n) → map read_back (map (map value_text_of) rows) ≡ map (map value_text_of) rows
read_back-rows n [] h a = refl
read_back-rows n (row ∷ rows) h a =
    let e = length-map row value_text_of in
    let w = a row (here refl) in
    rw (read_back-same (map value_text_of row) (omega (arith, e, w, h)))
    (ap (λ (t : List (List (List ℕ))). map value_text_of row ∷ t) (read_back-rows n rows h (λ r m. a r (there m))))

-- ---- a text that does not begin with a byte order mark stays whole
strip-other : (a : ℕ) (xs : List ℕ) → (a == 239) ≡ false → strip_bom (a ∷ xs) ≡ a ∷ xs
unfolding strip_bom
strip-other a [] n = refl
strip-other a (b ∷ []) n = refl
strip-other a (b ∷ c ∷ xs) n = rw n refl

none-third : (p q r : Bool) → r ≡ false → (p && q && r) ≡ false
none-third true true r e = e
none-third true false r e = refl
none-third false q r e = refl

none-second : (p q r : Bool) → q ≡ false → (p && q && r) ≡ false
none-second true true r e = cc e
none-second true false r e = refl
none-second false q r e = refl

strip-second : (a b : ℕ) (xs : List ℕ) → (b == 187) ≡ false → strip_bom (a ∷ b ∷ xs) ≡ a ∷ b ∷ xs
unfolding strip_bom
strip-second a b [] n = refl
strip-second a b (c ∷ xs) n = rw (none-second (a == 239) (b == 187) (c == 191) n) refl

strip-third : (a b c : ℕ) (xs : List ℕ) → (c == 191) ≡ false → strip_bom (a ∷ b ∷ c ∷ xs) ≡ a ∷ b ∷ c ∷ xs
unfolding strip_bom
strip-third a b c xs n = rw (none-third (a == 239) (b == 187) (c == 191) n) refl

not-longer : (a b c : ℕ) (xs : List ℕ) → xs ≡ a ∷ b ∷ c ∷ xs → ⊥
not-longer a b c xs e = let n = ap length e in omega (arith, n)

strip-front : (first : List ℕ) (d : ℕ) (more : List ℕ) → (d == 239) ≡ false → (d == 187) ≡ false → (d == 191) ≡ false → strip_bom first ≡ first
    → strip_bom (first ++ d ∷ more) ≡ first ++ d ∷ more
unfolding strip_bom
strip-front [] d more n1 n2 n3 e = strip-other d more n1
strip-front (a ∷ []) d more n1 n2 n3 e = strip-second a d more n2
strip-front (a ∷ b ∷ []) d more n1 n2 n3 e = strip-third a b d more n3
strip-front (a ∷ b ∷ c ∷ xs) d more n1 n2 n3 e = elim (cases_Bool (is_bom a b c)) [
  | inl mark ↦ absurd (not-longer a b c xs (rw mark at e))
  | inr plain ↦ rw plain refl
]

-- the first byte after a record's first field
record Small (xs : List ℕ) : Type 0 where
  head : ℕ
  tail : List ℕ
  is : xs ≡ head ∷ tail
  not239 : (head == 239) ≡ false
  not187 : (head == 187) ≡ false
  not191 : (head == 191) ≡ false

blank-small : (b : Bool) (more : List ℕ) → Small (((if b then 34 ∷ 34 ∷ [] else []) ++ 10 ∷ []) ++ more)
blank-small true more = record { head = 34; tail = 34 ∷ 10 ∷ more; is = refl; not239 = refl; not187 = refl; not191 = refl }
blank-small false more = record { head = 10; tail = more; is = refl; not239 = refl; not187 = refl; not191 = refl }

strip-after : (first xs : List ℕ) → Small xs → strip_bom first ≡ first → strip_bom (first ++ xs) ≡ first ++ xs
strip-after first xs s e = rw s.is (strip-front first s.head s.tail s.not239 s.not187 s.not191 e)

-- a field keeps its place before what follows it
strip-field : (first xs : List ℕ) → Small xs → strip_bom first ≡ first → strip_bom (field_text default_writer first ++ xs) ≡ field_text default_writer first ++ xs
strip-field first xs s e = by (needs_quotes default_writer first)
  where
    by : (b : Bool) → strip_bom ((if b then quoted default_writer first else first) ++ xs) ≡ (if b then quoted default_writer first else first) ++ xs
    by true = strip-other 34 _ refl
    by false = strip-after first xs s e

regroup : (f t more : List ℕ) → ((f ++ []) ++ t) ++ more ≡ f ++ (t ++ more)
regroup f t more = simp (append_assoc, append-nil)

regroup-more : (f : List ℕ) (d : ℕ) (g t more : List ℕ) → ((f ++ (d ∷ g)) ++ t) ++ more ≡ f ++ (d ∷ ((g ++ t) ++ more))
regroup-more f d g t more = simp append_assoc

row-small : (first : List ℕ) (fields : List (List ℕ)) (more : List ℕ)
    → (xs : List ℕ) × (row_text default_writer (first ∷ fields) ++ more ≡ field_text default_writer first ++ xs) × Small xs
unfolding is_blank fields_text
row-small first [] more = (_, regroup (field_text default_writer first) _ more, blank-small (length (field_text default_writer first) == 0) more)
row-small first (x ∷ fields) more = (
  _,
  regroup-more (field_text default_writer first) 44 (field_text default_writer x ++ fields_text default_writer fields) (10 ∷ []) more,
  record { head = 44; tail = _; is = refl; not239 = refl; not187 = refl; not191 = refl },
)

pub strip-lines : (columns : List (List ℕ)) (rest : List (List (List ℕ))) → 1 ≤ length columns → HasNoMark columns
    → strip_bom (records_text (columns ∷ rest)) ≡ records_text (columns ∷ rest)
strip-lines [] rest h m = absurd (omega arith)
strip-lines (first ∷ fields) rest h m =
    let (xs, e, s) = row-small first fields (records_text rest) in
    rw e (strip-field first xs s m)

-- a printed table reads back as its lines
table-read : (columns : List (List ℕ)) (rows : List (List Value)) → 1 ≤ length columns → HasNoMark columns → Each rows (λ row. length row ≡ length columns)
    → table_records (records_text (records_of_table columns rows)) ≡ records_of_table columns rows
table-read columns rows h m w =
    rw (strip-lines columns (map (map value_text_of) rows) h m)
    (lines-read (records_of_table columns rows)
    ∙ rw (read_back-same columns h) (ap (λ (t : List (List (List ℕ))). columns ∷ t) (read_back-rows (length columns) rows h w)))

-- records with a field each read back
read_back-all : (rows : List (List (List ℕ))) → Each rows (λ row. 1 ≤ length row) → map read_back rows ≡ rows
read_back-all [] a = refl
read_back-all (row ∷ rows) a =
    rw (read_back-same row (a row (here refl)))
    (ap (λ (t : List (List (List ℕ))). row ∷ t) (read_back-all rows (λ r m. a r (there m))))

pub printed-reads-back : (first : List (List ℕ)) (rest : List (List (List ℕ))) → HasNoMark first → Each (first ∷ rest) (λ row. 1 ≤ length row)
    → table_records (records_text (first ∷ rest)) ≡ first ∷ rest
printed-reads-back first rest m a =
    rw (strip-lines first rest (a first (here refl)) m) (lines-read (first ∷ rest) ∙ read_back-all (first ∷ rest) a)

-- ---- one row more
pub table-more : (columns : List (List ℕ)) (rows : List (List Value)) (i : ℕ) → i < length rows
    → records_of_table columns (take (i + 1) rows) ≡ records_of_table columns (take i rows) ++ map value_text_of (slice_index_or rows i []) ∷ []
table-more columns rows i h =
    ap (λ (t : List (List (List ℕ))). columns ∷ t) (
    ap (map (map value_text_of)) (take_more rows i [] h) ∙ map-append (map value_text_of) (take i rows) (slice_index_or rows i [] ∷ [])
    )

-- ---- rows of numbers

pub shown-more : (symbols : List Value) (row : List ℕ) (i : ℕ) → i < length row
    → map value_text_of (shown_row symbols (take (i + 1) row))
    ≡ map value_text_of (shown_row symbols (take i row)) ++ value_text_of (value_of symbols (get_or row i 0)) ∷ []
shown-more symbols row i h =
    let more = ap (shown_row symbols) (take_more row i 0 h) ∙ map-append (value_of symbols) (take i row) (get_or row i 0 ∷ []) in
    ap (map value_text_of) more ∙ map-append value_text_of (shown_row symbols (take i row)) (value_of symbols (get_or row i 0) ∷ [])

rows-shown : (symbols : List Value) (ts : List NumberTable) (t : ℕ)
    → rows_of (shown_tables symbols ts) t ≡ map (shown_row symbols) (numbers_of_table ts t).rows
rows-shown symbols [] t = refl
rows-shown symbols (x ∷ ts) zero = refl
rows-shown symbols (x ∷ ts) (suc t) = rows-shown symbols ts t

-- the rows of a table are those that its numbers show
pub rows-are : (symbols : List Value) (ts : List NumberTable) (tables : List TableRows) (t : ℕ) → shown_tables symbols ts ≡ tables
    → rows_of tables t ≡ map (shown_row symbols) (numbers_of_table ts t).rows
rows-are symbols ts tables t e = ap (λ (us : List TableRows). rows_of us t) (sym e) ∙ rows-shown symbols ts t

pub as-many-tables : (symbols : List Value) (ts : List NumberTable) (tables : List TableRows) → shown_tables symbols ts ≡ tables
    → length ts ≡ length tables
as-many-tables symbols ts tables e = sym (length-map ts (shown symbols)) ∙ ap (λ (us : List TableRows). length us) e

-- one row of numbers more
pub numbers-more : (columns : List (List ℕ)) (symbols : List Value) (rows : List (List Value)) (numbers : List (List ℕ)) (i : ℕ) (row : List ℕ)
    → rows ≡ map (shown_row symbols) numbers → i < length numbers → row ≡ numbers_at numbers i
    → records_of_table columns (take i rows) ++ map value_text_of (shown_row symbols row) ∷ [] ≡ records_of_table columns (take (i + 1) rows)
numbers-more columns symbols rows numbers i row e h is =
    let many : length rows ≡ length numbers = ap (λ (rs : List (List Value)). length rs) e ∙ length-map numbers (shown_row symbols) in
    let at : slice_index_or rows i [] ≡ shown_row symbols row =
    ap (λ (rs : List (List Value)). slice_index_or rs i []) e ∙ get_or-map (shown_row symbols) numbers i [] [] h
    ∙ ap (shown_row symbols) (sym is) in
    sym (table-more columns rows i (omega (arith, h, many)) ∙ ap (λ r. records_of_table columns (take i rows) ++ map value_text_of r ∷ []) at)

-- ---- a sorted instance
pub as-many : (old new : List TableRows) → IsSorting old new → length new ≡ length old
as-many old new s = sym (length-map new (λ (t : TableRows). t.width)) ∙ (ap (λ (ws : List ℕ). length ws) s.widths_stay ∙ length-map old (λ (t : TableRows). t.width))

first-width : (t u : TableRows) (ts us : List TableRows) → widths (t ∷ ts) ≡ widths (u ∷ us) → t.width ≡ u.width
first-width t u ts us e = cc e

rest-widths : (t u : TableRows) (ts us : List TableRows) → widths (t ∷ ts) ≡ widths (u ∷ us) → widths ts ≡ widths us
rest-widths t u ts us e = cc e

width-stays : (old new : List TableRows) (t : ℕ) → widths new ≡ widths old → (table_at new t).width ≡ (table_at old t).width
width-stays [] [] t e = refl
width-stays [] (n ∷ new) t e = cc e
width-stays (o ∷ old) [] t e = cc e
width-stays (o ∷ old) (n ∷ new) zero e = first-width n o new old e
width-stays (o ∷ old) (n ∷ new) (suc t) e = width-stays old new t (rest-widths n o new old e)

table-in : (tables : List TableRows) (t : ℕ) → t < length tables → table_at tables t ∈ tables
table-in [] t h = absurd (omega arith)
table-in (x ∷ xs) zero h = here refl
table-in (x ∷ xs) (suc t) h = there (table-in xs t (omega arith))

-- the rows of a table are as wide as it
pub rows-wide : (tables : List TableRows) (t : ℕ) → t < length tables → Each tables (λ u. Each u.rows (λ r. length r ≡ u.width))
    → Each (rows_of tables t) (λ r. length r ≡ (table_at tables t).width)
rows-wide tables t h each = each (table_at tables t) (table-in tables t h)

-- a table whose rows ascend
pub same-text : (columns : List (List ℕ)) (tables : List TableRows) (t : ℕ) (text : List ℕ)
    → t < length tables → length columns ≡ (table_at tables t).width → HasNoMark columns → RowsAscend (rows_of tables t)
    → Each tables (λ u. 1 ≤ u.width) → Each tables (λ u. Each u.rows (λ r. length r ≡ u.width))
    → text ≡ records_text (records_of_table columns (rows_of tables t)) → IsTableText columns (rows_of tables t) text
same-text columns tables t text h w m ascend wide each e =
    let some = wide (table_at tables t) (table-in tables t h) in
    record {
      sorted = rows_of tables t;
      ascend = ascend;
      kept = λ x k. k;
      only = λ x k. k;
      is = e;
      reads = rw e (table-read columns (rows_of tables t) (omega (arith, w, some)) m (λ r k. rows-wide tables t h each r k ∙ sym w));
    }

pub table-text : (columns : List (List ℕ)) (old new : List TableRows) (t : ℕ) (text : List ℕ)
    → t < length old → length columns ≡ (table_at old t).width → HasNoMark columns → IsSorting old new
    → Each new (λ u. 1 ≤ u.width) → Each new (λ u. Each u.rows (λ r. length r ≡ u.width))
    → text ≡ records_text (records_of_table columns (rows_of new t)) → IsTableText columns (rows_of old t) text
table-text columns old new t text h w m s wide each e =
    let many = as-many old new s in
    let inside = table-in new t (omega (arith, many)) in
    let same = w ∙ sym (width-stays old new t s.widths_stay) in
    let some = wide (table_at new t) inside in
    record {
      sorted = rows_of new t;
      ascend = s.ascend t;
      kept = s.kept t;
      only = s.only t;
      is = e;
      reads = rw e (table-read columns (rows_of new t) (omega (arith, same, some)) m (λ r k. each (table_at new t) inside r k ∙ sym same));
    }

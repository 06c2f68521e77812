-- The facts of an instance are its rows; what holds of each table holds where a table is read.
use Rattle.std.proofs.Common.{◌≡◌, ℕ, zero, suc, ◌+◌, ◌<◌, ◌≤◌, ◌-◌, ◌^◌, List, [], ◌∷◌, ◌++◌, ◌⊎◌, inl, inr, refl, sym, ◌∙◌, ap, subst, arith, length, get_or, set, map, take, Bool, true, false, Result, Ok, Err}
use Rattle.std.specs.Prelude.{IfOk, OnErr, MatchBool}
use Rattle.std.proofs.lemmas.List.{length-set, get_or-set_same, get_or-set_other, length-append, length-map, take_all, take_more, length-take-le, append-nil, append_assoc, get_or_default}
use Rattle.std.specs.declared.alloc.AllocError.{AllocError}
use Rattle.dx_model.specs.declared.values.Value.{Value}
use Rattle.dx_model.specs.declared.facts.Fact.{Fact}
use Rattle.dx_base.specs.Members.{◌∈◌, here, there, Each, ◌≈◌}
use Rattle.dx_base.proofs.Members.{in_map, from_map, in_left, in_right, from_append, in_at, distinct_more, same_sym}
use Rattle.dx_instance.specs.Stored.{TableRows, table_at, rows_of, widths, facts_from, facts, without_rows, AddsRow, FitsTable, FitsInstance, with_row, IsSorting}

abbrev no_table : TableRows
no_table = record { width = 0; rows = [] }

pub from_facts : (n : ℕ) (ts : List TableRows) (f : Fact) → f ∈ facts_from n ts → (k : ℕ) × (f.table ≡ n + k) × (k < length ts) × (f.row ∈ rows_of ts k)
from_facts n [] f m = elim m [ ]
from_facts n (t ∷ ts) f m = elim (from_append (map (λ (row : List Value). record { table = n; row = row }) t.rows) m) [
  | inl l ↦ let r = from_map (λ (row : List Value). record { table = n; row = row }) t.rows l in
      (0, omega (arith, sym (ap (λ (g : Fact). g.table) r.2)), omega arith, subst (λ (row : List Value). row ∈ t.rows) (ap (λ (g : Fact). g.row) r.2) r.1)
  | inr r ↦ let k = from_facts (suc n) ts f r in (suc k.0, omega (arith, k.1), omega (arith, k.2), k.3)
]

in_facts_from : (n : ℕ) (ts : List TableRows) (k : ℕ) (row : List Value) → row ∈ rows_of ts k → ◌∈◌ {X = Fact} (record { table = n + k; row = row }) (facts_from n ts)
in_facts_from n [] k row m = elim m [ ]
in_facts_from n (t ∷ ts) zero row m =
    let e : n + 0 ≡ n = omega arith in
    rw e (in_left _ (in_map (λ (r : List Value). record { table = n; row = r }) m))
in_facts_from n (t ∷ ts) (suc k) row m =
    let e : n + suc k ≡ suc n + k = omega arith in
    rw e (in_right _ (in_facts_from (suc n) ts k row m))

-- a fact is a row of its table
pub row_from_fact : (I : List TableRows) (f : Fact) → f ∈ facts I → f.row ∈ rows_of I f.table
row_from_fact I f m =
    let k = from_facts 0 I f m in
    let e : f.table ≡ k.0 = omega (arith, k.1) in
    rw e k.3

-- a row of a table is a fact
pub fact_from_row : (I : List TableRows) (t : ℕ) (row : List Value) → row ∈ rows_of I t → ◌∈◌ {X = Fact} (record { table = t; row = row }) (facts I)
fact_from_row I t row m =
    let e : 0 + t ≡ t = omega arith in
    subst (λ (n : ℕ). ◌∈◌ {X = Fact} (record { table = n; row = row }) (facts I)) e (in_facts_from 0 I t row m)

-- the table of a fact is one of the instance
pub fact_table : (I : List TableRows) (f : Fact) → f ∈ facts I → f.table < length I
fact_table I f m =
    let k = from_facts 0 I f m in
    omega (arith, k.1, k.2)

-- a table that was read is the one with its number
pub is_table : (I : List TableRows) (n : ℕ) (t : TableRows) → n < length I → t ≡ get_or I n t → t ≡ table_at I n
is_table I n t h e = e ∙ get_or_default I n t no_table h

pub fits_at : (I : List TableRows) (n : ℕ) → FitsInstance I → n < length I → FitsTable (table_at I n)
fits_at I n f h = f.each (table_at I n) (in_at I n no_table h)

pub fits_read : (I : List TableRows) (n : ℕ) (t : TableRows) → FitsInstance I → n < length I → t ≡ get_or I n t → FitsTable t
fits_read I n t f h e = rw (is_table I n t h e) (fits_at I n f h)

-- rows that were read are fewer than 2^32
pub rows_fit : (I : List TableRows) (n : ℕ) (t : TableRows) (rows : List (List Value)) → FitsInstance I → n < length I → t ≡ get_or I n t → rows ≡ t.rows → length rows < 2 ^ 32
rows_fit I n t rows f h e r = rw r (fits_read I n t f h e).few

-- a row that was read is as wide as its table
pub row_width : (I : List TableRows) (n p : ℕ) (t : TableRows) (rows : List (List Value)) (row value : List Value) → FitsInstance I → n < length I → t ≡ get_or I n t → rows ≡ t.rows
    → p < length (rows_of I n) → row ≡ get_or rows p row → value ≡ row → length value ≡ (table_at I n).width
row_width I n p t rows row value f h e r q g v =
    let is : t ≡ table_at I n = is_table I n t h e in
    let all : rows ≡ rows_of I n = r ∙ ap (λ (u : TableRows). u.rows) is in
    rw v ((fits_at I n f h).each row (rw g (rw all (in_at (rows_of I n) p row q))))

abbrev no_rows : ℕ → TableRows
no_rows w = record { width = w; rows = [] }

-- an instance without rows
pub fits_new : (ws : List ℕ) → Each ws (λ w. 1 ≤ w) → length ws < 2 ^ 32 - 1 → FitsInstance (without_rows ws)
fits_new ws some few = record { each = each; few = rw (length-map ws no_rows) few }
  where
    each : Each (without_rows ws) FitsTable
    each t m =
        let r = from_map no_rows ws m in
        rw (← r.2) (record { columns = some r.0 r.1; each = λ row n. elim n [ ]; distinct = tt; few = omega arith })

-- a table with a row more
fits_more : (t : TableRows) (row : List Value) → FitsTable t → length row ≡ t.width → length t.rows < 2 ^ 32 - 1 → ¬ (row ∈ t.rows) → FitsTable (with_row t row)
fits_more t row f w room n = record { columns = f.columns; each = each; distinct = distinct_more t.rows row f.distinct n; few = omega (arith, length-append t.rows (row ∷ [])) }
  where
    last : (r : List Value) → r ∈ (row ∷ []) → length r ≡ t.width
    last r (here e) = rw (← e) w
    last r (there m) = elim m [ ]

    each : Each (t.rows ++ row ∷ []) (λ (r : List Value). length r ≡ t.width)
    each r m = elim (from_append t.rows m) [ inl l ↦ f.each r l | inr k ↦ last r k ]

from_set : {X : Type 0} (xs : List X) (i : ℕ) (y x : X) → x ∈ set xs i y → (y ≡ x) ⊎ (x ∈ xs)
from_set [] i y x m = elim m [ ]
from_set (z ∷ zs) zero y x (here e) = inl e
from_set (z ∷ zs) zero y x (there m) = inr (there m)
from_set (z ∷ zs) (suc i) y x (here e) = inr (here e)
from_set (z ∷ zs) (suc i) y x (there m) = elim (from_set zs i y x m) [ inl e ↦ inl e | inr k ↦ inr (there k) ]

fits_set : (I : List TableRows) (n : ℕ) (t : TableRows) → FitsInstance I → FitsTable t → FitsInstance (set I n t)
fits_set I n t f g = record { each = each; few = rw (length-set I n t) f.few }
  where
    each : Each (set I n t) FitsTable
    each u m = elim (from_set I n t u m) [ inl e ↦ rw (← e) g | inr k ↦ f.each u k ]

set_same : (I : List TableRows) (n : ℕ) (t : TableRows) → t ≡ get_or I n t → n < length I → set I n t ≡ I
set_same [] n t e h = absurd (omega arith)
set_same (u ∷ I) zero t e h = ap (λ (v : TableRows). v ∷ I) e
set_same (u ∷ I) (suc n) t e h = ap (λ (J : List TableRows). u ∷ J) (set_same I n t e (omega arith))

widths_set : (I : List TableRows) (n : ℕ) (t : TableRows) → n < length I → t.width ≡ (table_at I n).width → widths (set I n t) ≡ widths I
widths_set [] n t h e = absurd (omega arith)
widths_set (u ∷ I) zero t h e = ap (λ (w : ℕ). w ∷ widths I) e
widths_set (u ∷ I) (suc n) t h e = ap (λ (ws : List ℕ). u.width ∷ ws) (widths_set I n t (omega arith) e)

set_adds : (I : List TableRows) (n : ℕ) (row : List Value) → n < length I → AddsRow I (set I n (with_row (table_at I n) row)) n row
set_adds I n row h =
    let t : TableRows = with_row (table_at I n) row in
    record {
      widths_stay = widths_set I n t h refl;
      here = ap (λ (u : TableRows). u.rows) (get_or-set_same I n t no_table h);
      others = λ u d. ap (λ (v : TableRows). v.rows) (get_or-set_other I n u t no_table d);
    }

-- after an answer whether the row is new, the instance has it or is as before
pub adds_row : (r : Result Bool AllocError) (I : List TableRows) (n : ℕ) (old new : TableRows) (row : List Value) → n < length I → old ≡ get_or I n old
    → IfOk r (λ b. MatchBool b (new ≡ with_row old row) (new ≡ old)) → IfOk r (λ b. MatchBool b (AddsRow I (set I n new) n row) (set I n new ≡ I))
adds_row (Ok true) I n old new row h e a =
    let is : new ≡ with_row (table_at I n) row = a ∙ ap (λ (t : TableRows). with_row t row) (is_table I n old h e) in
    rw is (set_adds I n row h)
adds_row (Ok false) I n old new row h e a = rw a (set_same I n old e h)
adds_row (Err x) I n old new row h e a = tt

pub fits_after : (r : Result Bool AllocError) (I : List TableRows) (n : ℕ) (old new : TableRows) (row : List Value) → FitsInstance I → n < length I → old ≡ get_or I n old
    → length row ≡ (table_at I n).width → length (rows_of I n) < 2 ^ 32 - 1
    → IfOk r (λ b. MatchBool b (¬ (row ∈ old.rows)) (row ∈ old.rows)) → IfOk r (λ b. MatchBool b (new ≡ with_row old row) (new ≡ old)) → OnErr r (new ≡ old) → FitsInstance (set I n new)
fits_after (Ok true) I n old new row f h e w room fresh a x =
    let is = is_table I n old h e in
    fits_set I n new f (rw (a, is) (fits_more (table_at I n) row (fits_at I n f h) w room (rw is at fresh)))
fits_after (Ok false) I n old new row f h e w room fresh a x = rw (a, set_same I n old e h) f
fits_after (Err y) I n old new row f h e w room fresh a x = rw (x, set_same I n old e h) f

-- tables that were made one by one
pub all_new : (ws items : List ℕ) (tables : List TableRows) (i : ℕ) → Each ws (λ w. 1 ≤ w) → length ws < 2 ^ 32 - 1 → items ≡ ws → length items ≤ i → tables ≡ without_rows (take i items) → FitsInstance tables
all_new ws items tables i some few e h t = rw (t, take_all i items h, e) (fits_new ws some few)

facts_push : (n : ℕ) (ts : List TableRows) (t : TableRows) → facts_from n (ts ++ t ∷ []) ≡ facts_from n ts ++ map (λ (row : List Value). let f : Fact = record { table = n + length ts; row = row } in f) t.rows
facts_push n [] t =
    let e : n ≡ n + 0 = omega arith in
    append-nil _ ∙ ap (λ (m : ℕ). map (λ (row : List Value). let f : Fact = record { table = m; row = row } in f) t.rows) e
facts_push n (u ∷ ts) t =
    let e : suc n + length ts ≡ n + length (u ∷ ts) = omega arith in
    let here = map (λ (row : List Value). let f : Fact = record { table = n; row = row } in f) u.rows in
    ap (λ (l : List Fact). here ++ l) (facts_push (suc n) ts t) ∙ sym (append_assoc here (facts_from (suc n) ts) _)
    ∙ ap (λ (m : ℕ). here ++ facts_from (suc n) ts ++ map (λ (row : List Value). let f : Fact = record { table = m; row = row } in f) t.rows) e

-- the facts of one table more
pub facts_more : (I : List TableRows) (t p : ℕ) (all : List Fact) → t < length I → length (rows_of I t) ≤ p
    → all ≡ facts_from 0 (take t I) ++ map (λ (row : List Value). let f : Fact = record { table = t; row = row } in f) (take p (rows_of I t)) → all ≡ facts_from 0 (take (t + 1) I)
facts_more I t p all h b e =
    let n : 0 + length (take t I) ≡ t = omega (arith, length-take-le t I (omega arith)) in
    let whole = ap (λ (m : ℕ). facts_from 0 (take t I) ++ map (λ (row : List Value). let f : Fact = record { table = m; row = row } in f) (rows_of I t)) n in
    e ∙ rw (take_all p (rows_of I t) b) (sym (ap (λ (ts : List TableRows). facts_from 0 ts) (take_more I t no_table h) ∙ facts_push 0 (take t I) (table_at I t) ∙ whole))

-- instances with the same widths and rows are one
pub same_tables : (I J : List TableRows) → widths I ≡ widths J → ((t : ℕ) → rows_of I t ≡ rows_of J t) → I ≡ J
same_tables [] [] w r = refl
same_tables [] (y ∷ ys) w r = absurd (cc)
same_tables (x ∷ xs) [] w r = absurd (cc)
same_tables (x ∷ xs) (y ∷ ys) w r =
    let first : x.width ≡ y.width = ap (λ (ns : List ℕ). get_or ns 0 0) w in
    let rows : x.rows ≡ y.rows = r 0 in
    let rest : xs ≡ ys = same_tables xs ys (tail_of _ _ _ _ w) (λ t. r (suc t)) in
    (λ i. record { width = first i; rows = rows i } ∷ rest i)
  where
    tail_of : (a b : ℕ) (xs ys : List ℕ) → (a ∷ xs) ≡ (b ∷ ys) → xs ≡ ys
    tail_of a b xs ys e = cc

-- an instance and its sorting have the same facts
pub sorted_facts : (I K : List TableRows) → IsSorting I K → facts I ≈ facts K
sorted_facts I K s = (
  (λ f m. fact_from_row K f.table f.row (s.kept f.table f.row (row_from_fact I f m))),
  (λ f m. fact_from_row I f.table f.row (s.only f.table f.row (row_from_fact K f m))),
)

-- the widths of tables without rows
pub widths_without : (ws : List ℕ) → widths (without_rows ws) ≡ ws
widths_without [] = refl
widths_without (w ∷ ws) = ap (λ (vs : List ℕ). w ∷ vs) (widths_without ws)

pub sorting_facts : (J K : List TableRows) → IsSorting J K → facts K ≈ facts J
sorting_facts J K s = same_sym (sorted_facts J K s)

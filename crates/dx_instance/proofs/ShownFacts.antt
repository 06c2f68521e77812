-- Tables of numbers and the rows that they show: with distinct symbols numbers are equal where values are, and with
-- ascending symbols less where values are.
use Rattle.std.proofs.Common.{◌≡◌, ◌∙◌, ◌+◌, ◌-◌, ◌<◌, ◌≤◌, ◌^◌, ◌++◌, ◌∷◌, ◌⊎◌, ℕ, zero, suc, List, [], Bool, true, false, refl, sym, ap, subst, arith, length, get_or, set, take, map, inl, inr, Result, Ok, Err}
use Rattle.std.specs.Prelude.{IfOk, OnErr, MatchBool}
use Rattle.std.specs.Ordering.{nat_cmp, ordering_then, ordering_reverse}
use Rattle.std.specs.Cmp.Lexicographic.{slice_cmp}
use Rattle.std.specs.declared.alloc.AllocError.{AllocError}
use Rattle.std.proofs.lemmas.Cmp.{nat_cmp_total}
use Rattle.std.proofs.lemmas.Bool.{cases_lt}
use Rattle.std.proofs.lemmas.List.{append_assoc, length-map, length-append, length-set, get_or-map, get_or_append_left, get_or_default, map-append, map-set, take_all, take_more, map_push}
use Rattle.dx_model.specs.declared.values.Value.{Value}
use Rattle.dx_model.specs.declared.values.Value.TheVariants.{Const}
use Rattle.dx_model.specs.Values.{value_cmp, row_cmp}
use Rattle.dx_model.proofs.Orders.{value_total}
use Rattle.dx_base.specs.Members.{◌∈◌, here, there, Each, Distinct}
use Rattle.dx_base.proofs.Members.{in_map, from_map, in_at, from_append, distinct_more}
use Rattle.dx_base.proofs.Ranges.{nat_self, nat_less}
use Rattle.dx_instance.specs.Stored.{TableRows, table_at, rows_of, without_rows, AddsRow, FitsTable, FitsInstance, with_row}
use Rattle.dx_instance.specs.Numbers.{ValuesDiffer, Extends, IsOrdering, ValuesAscend, value_of}
use Rattle.dx_instance.specs.Cells.{NumberTable, numbers_at, with_numbers}
use Rattle.dx_instance.specs.Shown.{NumbersBelow, NumberedInstance, NumbersFit, PartsFit, Shows, numbers_of_table, shown, shown_row, shown_tables, NumberRowsFit}
use Rattle.dx_instance.specs.Places.{row_at, value_at}
use Rattle.dx_instance.proofs.NumberFacts.{self_equal}
use Rattle.dx_instance.proofs.StoredFacts.{adds_row}

-- numbers are equal where their values are
pub number_same : (S : List Value) (x y : ℕ) → ValuesDiffer S → x < length S → y < length S → value_of S x ≡ value_of S y → x ≡ y
number_same S x y a h k e = elim (cases_lt x y) [
  | inl b ↦ absurd (a x y (Const []) b k e)
  | inr b ↦ elim (cases_lt y x) [ inl c ↦ absurd (a y x (Const []) c h (sym e)) | inr c ↦ omega arith ]
]

head_same : (u v : Value) (us vs : List Value) → ◌≡◌ {A = List Value} (u ∷ us) (v ∷ vs) → u ≡ v
head_same u v us vs e = cc e

tail_same : (u v : Value) (us vs : List Value) → ◌≡◌ {A = List Value} (u ∷ us) (v ∷ vs) → us ≡ vs
tail_same u v us vs e = cc e

pub row_same : (S : List Value) (a b : List ℕ) → ValuesDiffer S → NumbersBelow (length S) a → NumbersBelow (length S) b → shown_row S a ≡ shown_row S b → a ≡ b
row_same S [] [] p h k e = refl
row_same S [] (y ∷ b) p h k e = absurd (cc e)
row_same S (x ∷ a) [] p h k e = absurd (cc e)
row_same S (x ∷ a) (y ∷ b) p h k e =
    let first = number_same S x y p (h x (here refl)) (k y (here refl)) (head_same _ _ _ _ e) in
    let rest = row_same S a b p (λ z m. h z (there m)) (λ z m. k z (there m)) (tail_same _ _ _ _ e) in
    cc (first, rest)

-- numbers compare as their values
pub number_less : (S : List Value) (x y : ℕ) → ValuesAscend S → x < length S → y < length S → value_cmp (value_of S x) (value_of S y) ≡ nat_cmp x y
number_less S x y up h k = elim (cases_lt x y) [
  | inl b ↦ up x y (Const []) b k ∙ sym (nat_less x y b)
  | inr b ↦ elim (cases_lt y x) [
    | inl c ↦ value_total.antisymm (value_of S x) (value_of S y) ∙ ap ordering_reverse (up y x (Const []) c h) ∙ sym (nat_cmp_total.antisymm x y ∙ ap ordering_reverse (nat_less y x c))
    | inr c ↦ let q : y ≡ x = omega arith in rw q (self_equal (value_of S x) ∙ sym (nat_self x))
  ]
]

pub row_less : (S : List Value) (a b : List ℕ) → ValuesAscend S → NumbersBelow (length S) a → NumbersBelow (length S) b → row_cmp (shown_row S a) (shown_row S b) ≡ slice_cmp nat_cmp a b
row_less S [] [] up h k = refl
row_less S [] (y ∷ b) up h k = refl
row_less S (x ∷ a) [] up h k = refl
row_less S (x ∷ a) (y ∷ b) up h k =
    let first = number_less S x y up (h x (here refl)) (k y (here refl)) in
    let rest = row_less S a b up (λ z m. h z (there m)) (λ z m. k z (there m)) in
    (λ i. ordering_then (first i) (rest i))

-- a row is shown where its numbers stand
pub from_shown : (S : List Value) (rows : List (List ℕ)) (numbers : List ℕ) (row : List Value) → ValuesDiffer S → Each rows (NumbersBelow (length S)) → Shows S numbers row → row ∈ map (shown_row S) rows → numbers ∈ rows
from_shown S rows numbers row a w s m =
    let r = from_map (shown_row S) rows m in
    subst (λ (x : List ℕ). x ∈ rows) (row_same S r.0 numbers a (w r.0 r.1) s.within (r.2 ∙ sym s.is)) r.1

pub to_shown : (S : List Value) (rows : List (List ℕ)) (numbers : List ℕ) (row : List Value) → Shows S numbers row → numbers ∈ rows → row ∈ map (shown_row S) rows
to_shown S rows numbers row s m = subst (λ (r : List Value). r ∈ map (shown_row S) rows) s.is (in_map (shown_row S) m)

distinct_shown : (S : List Value) (rows : List (List ℕ)) → ValuesDiffer S → Each rows (NumbersBelow (length S)) → Distinct rows → Distinct (map (shown_row S) rows)
distinct_shown S [] a w d = tt
distinct_shown S (r ∷ rows) a w d =
    let s : Shows S r (shown_row S r) = record { is = refl; within = w r (here refl) } in
    ((λ m. d.0 (from_shown S rows r (shown_row S r) a (λ x m. w x (there m)) s m)), distinct_shown S rows a (λ x m. w x (there m)) d.1)

pub fits_shown : (S : List Value) (t : NumberTable) → ValuesDiffer S → NumbersFit (length S) t → FitsTable (shown S t)
fits_shown S t a f = record {
  columns = f.columns;
  each = λ row m. let r = from_map (shown_row S) t.rows m in rw (← r.2) (length-map r.0 (value_of S) ∙ f.each r.0 r.1);
  distinct = distinct_shown S t.rows a f.within f.distinct;
  few = rw (length-map t.rows (shown_row S)) f.few;
}

pub all_fit : (S : List Value) (ts : List NumberTable) → PartsFit S ts → FitsInstance (shown_tables S ts)
all_fit S ts f = record {
  each = λ u m. let r = from_map (shown S) ts m in rw (← r.2) (fits_shown S r.0 f.apart (f.each r.0 r.1));
  few = rw (length-map ts (shown S)) f.few;
}

-- a table that was read
pub is_shown : (S : List Value) (ts : List NumberTable) (n : ℕ) (t : NumberTable) → n < length ts → t ≡ get_or ts n t → table_at (shown_tables S ts) n ≡ shown S t
is_shown S ts n t h e = get_or-map (shown S) ts n t (record { width = 0; rows = [] }) h ∙ ap (shown S) (sym e)

pub fits_in : (S : List Value) (ts : List NumberTable) (n : ℕ) (t : NumberTable) → PartsFit S ts → n < length ts → t ≡ get_or ts n t → NumbersFit (length S) t
fits_in S ts n t f h e = rw e (f.each (get_or ts n t) (in_at ts n t h))

pub table_within : (S : List Value) (ts : List NumberTable) (I : List TableRows) (n : ℕ) → shown_tables S ts ≡ I → n < length I → n < length ts
table_within S ts I n e h = omega (arith, h, ap length e, length-map ts (shown S))

pub place_within : (S : List Value) (ts : List NumberTable) (I : List TableRows) (n p : ℕ) (t : NumberTable) → shown_tables S ts ≡ I → n < length ts → t ≡ get_or ts n t → p < length (rows_of I n) → p < length t.rows
place_within S ts I n p t e h r b =
    let same = ap (λ (J : List TableRows). length (rows_of J n)) (sym e) ∙ ap (λ (u : TableRows). length u.rows) (is_shown S ts n t h r) ∙ length-map t.rows (shown_row S) in
    omega (arith, b, same)

-- a row of values at a place is shown by the numbers there
pub row_shown : (S : List Value) (ts : List NumberTable) (I : List TableRows) (n p : ℕ) (t : NumberTable) → shown_tables S ts ≡ I → n < length ts → t ≡ get_or ts n t → p < length t.rows
    → row_at I n p ≡ shown_row S (numbers_at t.rows p)
row_shown S ts I n p t e h r b =
    ap (λ (J : List TableRows). row_at J n p) (sym e) ∙ ap (λ (u : TableRows). get_or u.rows p []) (is_shown S ts n t h r) ∙ get_or-map (shown_row S) t.rows p [] [] b

pub numbers_below : (n : ℕ) (t : NumberTable) (p : ℕ) → NumbersFit n t → p < length t.rows → NumbersBelow n (numbers_at t.rows p)
numbers_below n t p f b = f.within (numbers_at t.rows p) (in_at t.rows p [] b)

pub numbers_wide : (n : ℕ) (t : NumberTable) (p : ℕ) → NumbersFit n t → p < length t.rows → length (numbers_at t.rows p) ≡ t.width
numbers_wide n t p f b = f.each (numbers_at t.rows p) (in_at t.rows p [] b)

-- more symbols leave what is shown
pub longer : (S S' : List Value) → Extends S S' → length S ≤ length S'
longer S S' e = omega (arith, ap length e.is, length-append S e.more)

pub grown_value : (S S' : List Value) (x : ℕ) → Extends S S' → x < length S → value_of S' x ≡ value_of S x
grown_value S S' x e h = ap (λ (T : List Value). value_of T x) e.is ∙ get_or_append_left S e.more (Const []) x h

pub grown_row : (S S' : List Value) (row : List ℕ) → Extends S S' → NumbersBelow (length S) row → shown_row S' row ≡ shown_row S row
grown_row S S' [] e h = refl
grown_row S S' (x ∷ row) e h =
    let first = grown_value S S' x e (h x (here refl)) in
    let rest = grown_row S S' row e (λ y m. h y (there m)) in
    cc (first, rest)

pub grown_below : (S S' : List Value) (row : List ℕ) → Extends S S' → NumbersBelow (length S) row → NumbersBelow (length S') row
grown_below S S' row e h x m = let b = h x m in let l = longer S S' e in omega (arith, b, l)

pub grown_rows : (S S' : List Value) (rows : List (List ℕ)) → Extends S S' → Each rows (NumbersBelow (length S)) → map (shown_row S') rows ≡ map (shown_row S) rows
grown_rows S S' [] e h = refl
grown_rows S S' (r ∷ rows) e h =
    let first = grown_row S S' r e (h r (here refl)) in
    let rest = grown_rows S S' rows e (λ y m. h y (there m)) in
    cc (first, rest)

grown_shown : (S S' : List Value) (t : NumberTable) → Extends S S' → NumbersFit (length S) t → shown S' t ≡ shown S t
grown_shown S S' t e f = ap (λ (rs : List (List Value)). let u : TableRows = record { width = t.width; rows = rs } in u) (grown_rows S S' t.rows e f.within)

pub grown_tables : (S S' : List Value) (ts : List NumberTable) → Extends S S' → Each ts (NumbersFit (length S)) → shown_tables S' ts ≡ shown_tables S ts
grown_tables S S' [] e h = refl
grown_tables S S' (t ∷ ts) e h =
    let first = grown_shown S S' t e (h t (here refl)) in
    let rest = grown_tables S S' ts e (λ y m. h y (there m)) in
    cc (first, rest)

grown_fit : (S S' : List Value) (t : NumberTable) → Extends S S' → NumbersFit (length S) t → NumbersFit (length S') t
grown_fit S S' t e f = record { columns = f.columns; each = f.each; within = λ r m. grown_below S S' r e (f.within r m); distinct = f.distinct; few = f.few }

fits_more : (n : ℕ) (t : NumberTable) (row : List ℕ) → NumbersFit n t → length row ≡ t.width → NumbersBelow n row → length t.rows < 2 ^ 32 - 1 → ¬ (row ∈ t.rows) → NumbersFit n (with_numbers t row)
fits_more n t row f w b room new = record {
  columns = f.columns;
  each = λ r m. elim (from_append t.rows m) [ inl l ↦ f.each r l | inr k ↦ rw (last r k) w ];
  within = λ r m. elim (from_append t.rows m) [ inl l ↦ f.within r l | inr k ↦ rw (last r k) b ];
  distinct = distinct_more t.rows row f.distinct new;
  few = omega (arith, length-append t.rows (row ∷ []));
}
  where
    last : (r : List ℕ) → r ∈ (row ∷ []) → r ≡ row
    last r (here e) = sym e
    last r (there m) = elim m [ ]

pub from_set : (xs : List NumberTable) (i : ℕ) (y x : NumberTable) → x ∈ set xs i y → (y ≡ x) ⊎ (x ∈ xs)
from_set [] i y x m = elim m [ ]
from_set (z ∷ zs) zero y x (here e) = inl e
from_set (z ∷ zs) zero y x (there m) = inr (there m)
from_set (z ∷ zs) (suc i) y x (here e) = inr (here e)
from_set (z ∷ zs) (suc i) y x (there m) = elim (from_set zs i y x m) [ inl e ↦ inl e | inr k ↦ inr (there k) ]

set_fits : (S S' : List Value) (ts : List NumberTable) (n : ℕ) (t : NumberTable) → PartsFit S ts → Extends S S' → ValuesDiffer S' → length S' < 2 ^ 32 → NumbersFit (length S') t → PartsFit S' (set ts n t)
set_fits S S' ts n t f e a l g = record {
  apart = a;
  small = l;
  each = λ u m. elim (from_set ts n t u m) [ inl q ↦ rw (← q) g | inr k ↦ grown_fit S S' u e (f.each u k) ];
  few = rw (length-set ts n t) f.few;
}

-- what is known where a row is added
pub record Adding (S S' : List Value) (ts : List NumberTable) (I : List TableRows) (n : ℕ) (told : NumberTable) (numbers : List ℕ) (row : List Value) : Type 0 where
  pub fits : PartsFit S ts
  pub view : shown_tables S ts ≡ I
  pub grows : Extends S S'
  pub apart : ValuesDiffer S'
  pub small : length S' < 2 ^ 32
  pub table : n < length I
  pub read : told ≡ get_or ts n told
  pub shows : Shows S' numbers row
  pub wide : length row ≡ (table_at I n).width
  pub room : length (rows_of I n) < 2 ^ 32 - 1

within_tables : (S S' : List Value) (ts : List NumberTable) (I : List TableRows) (n : ℕ) (told : NumberTable) (numbers : List ℕ) (row : List Value) → Adding S S' ts I n told numbers row → n < length ts
within_tables S S' ts I n told numbers row a = table_within S ts I n a.view a.table

told_fits : (S S' : List Value) (ts : List NumberTable) (I : List TableRows) (n : ℕ) (told : NumberTable) (numbers : List ℕ) (row : List Value) → Adding S S' ts I n told numbers row → NumbersFit (length S') told
told_fits S S' ts I n told numbers row a = grown_fit S S' told a.grows (fits_in S ts n told a.fits (table_within S ts I n a.view a.table) a.read)

all_shown : (S S' : List Value) (ts : List NumberTable) (I : List TableRows) (n : ℕ) (told : NumberTable) (numbers : List ℕ) (row : List Value) → Adding S S' ts I n told numbers row → shown_tables S' ts ≡ I
all_shown S S' ts I n told numbers row a = grown_tables S S' ts a.grows a.fits.each ∙ a.view

table_shown : (S S' : List Value) (ts : List NumberTable) (I : List TableRows) (n : ℕ) (told : NumberTable) (numbers : List ℕ) (row : List Value) → Adding S S' ts I n told numbers row → table_at I n ≡ shown S' told
table_shown S S' ts I n told numbers row a =
    ap (λ (J : List TableRows). table_at J n) (sym (all_shown S S' ts I n told numbers row a)) ∙ is_shown S' ts n told (table_within S ts I n a.view a.table) a.read

pub is_new_shown : (r : Result Bool AllocError) (S S' : List Value) (ts : List NumberTable) (I : List TableRows) (n : ℕ) (told : NumberTable) (numbers : List ℕ) (row : List Value) → Adding S S' ts I n told numbers row
    → IfOk r (λ b. MatchBool b (¬ (numbers ∈ told.rows)) (numbers ∈ told.rows)) → IfOk r (λ b. MatchBool b (¬ (row ∈ rows_of I n)) (row ∈ rows_of I n))
is_new_shown (Ok true) S S' ts I n told numbers row a h =
    let is = ap (λ (u : TableRows). u.rows) (table_shown S S' ts I n told numbers row a) in
    (λ m. h (from_shown S' told.rows numbers row a.apart (told_fits S S' ts I n told numbers row a).within a.shows (subst (λ (rs : List (List Value)). row ∈ rs) is m)))
is_new_shown (Ok false) S S' ts I n told numbers row a h =
    let is = ap (λ (u : TableRows). u.rows) (table_shown S S' ts I n told numbers row a) in
    subst (λ (rs : List (List Value)). row ∈ rs) (sym is) (to_shown S' told.rows numbers row a.shows h)
is_new_shown (Err x) S S' ts I n told numbers row a h = tt

shown_more : (S : List Value) (t : NumberTable) (numbers : List ℕ) (row : List Value) → shown_row S numbers ≡ row → shown S (with_numbers t numbers) ≡ with_row (shown S t) row
shown_more S t numbers row e =
    ap (λ (rs : List (List Value)). let u : TableRows = record { width = t.width; rows = rs } in u) (map_push (shown_row S) t.rows numbers ∙ ap (λ (r : List Value). map (shown_row S) t.rows ++ r ∷ []) e)

pub added_shown : (r : Result Bool AllocError) (S S' : List Value) (ts : List NumberTable) (I : List TableRows) (n : ℕ) (told tnew : NumberTable) (numbers : List ℕ) (row : List Value) → Adding S S' ts I n told numbers row
    → IfOk r (λ b. MatchBool b (tnew ≡ with_numbers told numbers) (tnew ≡ told)) → IfOk r (λ b. MatchBool b (AddsRow I (shown_tables S' (set ts n tnew)) n row) (shown_tables S' (set ts n tnew) ≡ I))
added_shown r S S' ts I n told tnew numbers row a h =
    let all = all_shown S S' ts I n told numbers row a in
    let long : n < length (shown_tables S' ts) = rw all a.table in
    let is : shown S' told ≡ get_or (shown_tables S' ts) n (shown S' told) = sym (get_or-map (shown S') ts n told (shown S' told) (table_within S ts I n a.view a.table) ∙ ap (shown S') (sym a.read)) in
    let got = adds_row r (shown_tables S' ts) n (shown S' told) (shown S' tnew) row long is (turned r h) in
    let one = subst (λ (K : List TableRows). IfOk r (λ b. MatchBool b (AddsRow K (set K n (shown S' tnew)) n row) (set K n (shown S' tnew) ≡ K))) all got in
    let whole : set I n (shown S' tnew) ≡ shown_tables S' (set ts n tnew) = ap (λ (K : List TableRows). set K n (shown S' tnew)) (sym all) ∙ sym (map-set (shown S') ts n tnew) in
    subst (λ (K : List TableRows). IfOk r (λ b. MatchBool b (AddsRow I K n row) (K ≡ I))) whole one
  where
    turned : (r : Result Bool AllocError) → IfOk r (λ b. MatchBool b (tnew ≡ with_numbers told numbers) (tnew ≡ told)) → IfOk r (λ b. MatchBool b (shown S' tnew ≡ with_row (shown S' told) row) (shown S' tnew ≡ shown S' told))
    turned (Ok true) h = ap (shown S') h ∙ shown_more S' told numbers row a.shows.is
    turned (Ok false) h = ap (shown S') h
    turned (Err x) h = tt

set_same : (ts : List NumberTable) (n : ℕ) (t : NumberTable) → t ≡ get_or ts n t → n < length ts → set ts n t ≡ ts
set_same [] n t e h = absurd (omega arith)
set_same (u ∷ ts) zero t e h = ap (λ (v : NumberTable). v ∷ ts) e
set_same (u ∷ ts) (suc n) t e h = ap (λ (us : List NumberTable). u ∷ us) (set_same ts n t e (omega arith))

pub err_shown : (r : Result Bool AllocError) (S S' : List Value) (ts : List NumberTable) (I : List TableRows) (n : ℕ) (told tnew : NumberTable) (numbers : List ℕ) (row : List Value) → Adding S S' ts I n told numbers row
    → OnErr r (tnew ≡ told) → OnErr r (shown_tables S' (set ts n tnew) ≡ I)
err_shown (Ok b) S S' ts I n told tnew numbers row a h = tt
err_shown (Err x) S S' ts I n told tnew numbers row a h =
    let same = set_same ts n told a.read (table_within S ts I n a.view a.table) in
    rw (h, same) (all_shown S S' ts I n told numbers row a)

pub fits_shown_after : (r : Result Bool AllocError) (S S' : List Value) (ts : List NumberTable) (I : List TableRows) (n : ℕ) (told tnew : NumberTable) (numbers : List ℕ) (row : List Value) → Adding S S' ts I n told numbers row
    → IfOk r (λ b. MatchBool b (¬ (numbers ∈ told.rows)) (numbers ∈ told.rows)) → IfOk r (λ b. MatchBool b (tnew ≡ with_numbers told numbers) (tnew ≡ told)) → OnErr r (tnew ≡ told) → PartsFit S' (set ts n tnew)
fits_shown_after r S S' ts I n told tnew numbers row a fresh h x = set_fits S S' ts n tnew a.fits a.grows a.apart a.small (one r fresh h x)
  where
    old : NumbersFit (length S') told
    old = told_fits S S' ts I n told numbers row a

    is : table_at I n ≡ shown S' told
    is = table_shown S S' ts I n told numbers row a

    wide : length numbers ≡ told.width
    wide = sym (length-map numbers (value_of S')) ∙ ap length a.shows.is ∙ a.wide ∙ ap (λ (u : TableRows). u.width) is

    room : length told.rows < 2 ^ 32 - 1
    room = omega (arith, a.room, ap (λ (u : TableRows). length u.rows) is, length-map told.rows (shown_row S'))

    one : (r : Result Bool AllocError) → IfOk r (λ b. MatchBool b (¬ (numbers ∈ told.rows)) (numbers ∈ told.rows)) → IfOk r (λ b. MatchBool b (tnew ≡ with_numbers told numbers) (tnew ≡ told)) → OnErr r (tnew ≡ told) → NumbersFit (length S') tnew
    one (Ok true) fresh h x = rw h (fits_more (length S') told numbers old wide a.shows.within room fresh)
    one (Ok false) fresh h x = rw h old
    one (Err e) fresh h x = rw x old

-- one value more that is interned
pub interned_more : (S S0 S' : List Value) (numbers more : List ℕ) (values : List Value) (i n : ℕ) (v : Value) → i < length values → v ≡ get_or values i v → Shows S numbers (take i values) → Extends S S' → n < length S' → value_of S' n ≡ v
    → more ≡ numbers ++ n ∷ [] → Shows S' more (take (i + 1) values)
interned_more S S0 S' numbers more values i n v h e s g b w m = record {
  is = rw (m, take_more values i v h) (map-append (value_of S') numbers (n ∷ []) ∙ both);
  within = rw m (λ x k. elim (from_append numbers k) [ inl l ↦ grown_below S S' numbers g s.within x l | inr r ↦ last x r ]);
}
  where
    last : (x : ℕ) → x ∈ (n ∷ []) → x < length S'
    last x (here q) = rw (← q) b
    last x (there r) = elim r [ ]

    both : shown_row S' numbers ++ value_of S' n ∷ [] ≡ take i values ++ get_or values i v ∷ []
    both = let one = grown_row S S' numbers g s.within ∙ s.is in let two = w ∙ e in cc (one, two)

pub extends_both : (S T U : List Value) → Extends S T → Extends T U → Extends S U
extends_both S T U a b = record { more = a.more ++ b.more; is = b.is ∙ ap (λ (l : List Value). l ++ b.more) a.is ∙ append_assoc S a.more b.more }

-- tables without rows
pub parts_new : (S : List Value) (ws items : List ℕ) (tables : List NumberTable) (i : ℕ) → S ≡ [] → Each ws (λ w. 1 ≤ w) → length ws < 2 ^ 32 - 1 → items ≡ ws → length items ≤ i
    → tables ≡ map (λ (w : ℕ). let t : NumberTable = record { width = w; rows = [] } in t) (take i items) → PartsFit S tables
parts_new S ws items tables i z some few e h t =
    let all : tables ≡ map (λ (w : ℕ). let t : NumberTable = record { width = w; rows = [] } in t) ws = rw (t, take_all i items h, e) refl in
    rw (all, z) (record {
      apart = λ i j d b k. absurd (omega arith);
      small = omega arith;
      each = λ u m. let r = from_map (λ (w : ℕ). let t : NumberTable = record { width = w; rows = [] } in t) ws m in
          rw (← r.2) (record { columns = some r.0 r.1; each = λ row n. elim n [ ]; within = λ row n. elim n [ ]; distinct = tt; few = omega arith });
      few = rw (length-map ws (λ (w : ℕ). let t : NumberTable = record { width = w; rows = [] } in t)) few;
    })

shown_new : (S : List Value) (ws : List ℕ) → shown_tables S (map (λ (w : ℕ). let t : NumberTable = record { width = w; rows = [] } in t) ws) ≡ without_rows ws
shown_new S [] = refl
shown_new S (w ∷ ws) = ap (λ (l : List TableRows). (let u : TableRows = record { width = w; rows = [] } in u) ∷ l) (shown_new S ws)

pub new_shown : (S : List Value) (ws items : List ℕ) (tables : List NumberTable) (i : ℕ) → items ≡ ws → length items ≤ i
    → tables ≡ map (λ (w : ℕ). let t : NumberTable = record { width = w; rows = [] } in t) (take i items) → shown_tables S tables ≡ without_rows ws
new_shown S ws items tables i e h t = rw (t, take_all i items h, e) (shown_new S ws)

pub on_err : (r : Result Bool AllocError) (P : Type 0) → P → OnErr r P
on_err (Ok b) P p = tt
on_err (Err e) P p = p

pub cell_below : (S : List Value) (ts : List NumberTable) (I : List TableRows) (n p col : ℕ) (t : NumberTable) (row : List ℕ) → PartsFit S ts → shown_tables S ts ≡ I → n < length I → t ≡ get_or ts n t → p < length (rows_of I n)
    → col < (table_at I n).width → row ≡ numbers_at t.rows p → get_or row col 0 < length S
cell_below S ts I n p col t row f v h r b w e =
    let hs = table_within S ts I n v h in
    let fits = fits_in S ts n t f hs r in
    let pb = place_within S ts I n p t v hs r b in
    let same : (table_at I n).width ≡ t.width = ap (λ (J : List TableRows). (table_at J n).width) (sym v) ∙ ap (λ (u : TableRows). u.width) (is_shown S ts n t hs r) in
    let wide : length row ≡ t.width = ap length e ∙ numbers_wide (length S) t p fits pb in
    let below : NumbersBelow (length S) row = rw e (numbers_below (length S) t p fits pb) in
    below (get_or row col 0) (in_at row col 0 (omega (arith, w, same, wide)))

-- a value is that under its number
pub value_shown : (S : List Value) (ts : List NumberTable) (I : List TableRows) (n p col : ℕ) (t : NumberTable) (row : List ℕ) → PartsFit S ts → shown_tables S ts ≡ I → n < length I → t ≡ get_or ts n t → p < length (rows_of I n)
    → col < (table_at I n).width → row ≡ numbers_at t.rows p → value_of S (get_or row col 0) ≡ value_at I n p col
value_shown S ts I n p col t row f v h r b w e =
    let hs = table_within S ts I n v h in
    let fits = fits_in S ts n t f hs r in
    let pb = place_within S ts I n p t v hs r b in
    let same : (table_at I n).width ≡ t.width = ap (λ (J : List TableRows). (table_at J n).width) (sym v) ∙ ap (λ (u : TableRows). u.width) (is_shown S ts n t hs r) in
    let wide : length row ≡ t.width = ap length e ∙ numbers_wide (length S) t p fits pb in
    sym (get_or-map (value_of S) row col 0 (Const []) (omega (arith, w, same, wide))) ∙ ap (λ (ns : List ℕ). get_or (shown_row S ns) col (Const [])) e
    ∙ ap (λ (vs : List Value). get_or vs col (Const [])) (sym (row_shown S ts I n p t v hs r pb))

-- numbers fit ranks that there are as many of
pub below_ranks : (S T : List Value) (ranks rs : List ℕ) (t : NumberTable) → IsOrdering S T ranks → rs ≡ ranks → NumbersFit (length S) t → Each t.rows (NumbersBelow (length rs))
below_ranks S T ranks rs t o e f r m x k = let b = f.within r m x k in omega (arith, b, o.ranked, ap length e)

-- the numbers of a row that is lent
lent_below : (S : List Value) (ts : List NumberTable) (n p : ℕ) (t : NumberTable) (row : List ℕ) → PartsFit S ts → t ≡ get_or ts n t → row ≡ numbers_at t.rows p → n < length ts → p < length (numbers_of_table ts n).rows → NumbersBelow (length S) row
lent_below S ts n p t row f e r h k =
    let same : numbers_of_table ts n ≡ t = get_or_default ts n (record { width = 0; rows = [] }) t h ∙ sym e in
    rw r (numbers_below (length S) t p (fits_in S ts n t f h e) (subst (λ (u : NumberTable). p < length u.rows) same k))

pub row_below : (N : NumberedInstance) (S : List Value) (ts : List NumberTable) (n p : ℕ) (t : NumberTable) (row : List ℕ) → ◌≡◌ {A = NumberedInstance} (record { symbols = S; tables = ts }) N → PartsFit S ts → t ≡ get_or ts n t → row ≡ numbers_at t.rows p
    → n < length N.tables → p < length (numbers_of_table N.tables n).rows → NumbersBelow (length N.symbols) row
row_below N S ts n p t row v f e r =
    subst (λ (M : NumberedInstance). n < length M.tables → p < length (numbers_of_table M.tables n).rows → NumbersBelow (length M.symbols) row) v (lent_below S ts n p t row f e r)

-- tables whose rows fit the symbols show the same with more symbols
pub grown_fitting : (S T : List Value) (ts : List NumberTable) → Extends S T → Each ts (NumberRowsFit (length S)) → shown_tables T ts ≡ shown_tables S ts
grown_fitting S T [] e h = refl
grown_fitting S T (t ∷ ts) e h =
    let first : shown T t ≡ shown S t = ap (λ (rs : List (List Value)). let u : TableRows = record { width = t.width; rows = rs } in u) (grown_rows S T t.rows e (h t (here refl)).within) in
    let rest = grown_fitting S T ts e (λ y m. h y (there m)) in
    cc (first, rest)

-- a table that is read is the one that stands there
pub table_read : (tables : List NumberTable) (r : ℕ) (t : NumberTable) → r < length tables → t ≡ get_or tables r t → t ≡ numbers_of_table tables r
table_read tables r t h e = e ∙ get_or_default tables r t (record { width = 0; rows = [] }) h

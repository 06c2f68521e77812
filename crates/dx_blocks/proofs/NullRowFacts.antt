-- Numbers of nulls, and the rows that hold them.
use Rattle.std.proofs.Common.{◌≡◌, ℕ, zero, suc, ◌+◌, ◌-◌, ◌<◌, ◌≤◌, List, [], ◌∷◌, ◌++◌, ◌⊎◌, inl, inr, refl, sym, ◌∙◌, ap, subst, arith}
use Rattle.std.proofs.Common.{length, get_or, map, Option, None, Some}
use Rattle.std.specs.Prelude.{MatchOption, IfNone, IfSome}
use Rattle.std.specs.List.{range_with_len, AllWithin, HoldsAt}
use Rattle.std.specs.declared.cmp.Ordering.TheVariants.{Less}
use Rattle.std.proofs.lemmas.Bool.{cases_eq, cases_lt}
use Rattle.std.proofs.lemmas.List.{length-map, get_or-map, get_or_default}
use Rattle.std.proofs.lemmas.List.FromFn.{length-range_with_len}
use Rattle.dx_base.specs.Members.{◌∈◌, here, there, Each}
use Rattle.dx_base.proofs.Members.{contains_from_in, item_in, in_map, from_map, in_left, in_right, from_append}
use Rattle.dx_base.proofs.Ranges.{from_range, to_range}
use Rattle.dx_model.specs.declared.values.NullId.{NullId}
use Rattle.dx_model.specs.declared.values.Value.{Value}
use Rattle.dx_model.specs.declared.values.Value.TheVariants.{Const, Null}
use Rattle.dx_model.specs.Values.{NullsAscend, null_cmp, value_cmp, null_at}
use Rattle.dx_instance.specs.Numbers.{ValuesAscend, value_of}
use Rattle.dx_instance.specs.Shown.{NumberedInstance, PartsFit, NumbersBelow, numbers_of_table, shown_row, shown_tables}
use Rattle.dx_instance.proofs.ShownFacts.{row_shown, numbers_below, fits_in}
use Rattle.dx_blocks.specs.declared.numbered.At.{At}
use Rattle.dx_blocks.specs.Numbered.{IsRowIn, as_null, fact_of, null_under}
use Rattle.dx_blocks.specs.NullRows.{HasNullRows, IsRowBefore, IsFirstNull, nulls_from, row_numbers}
use Rattle.dx_blocks.proofs.Placing.{ascends_more}
use Rattle.dx_blocks.proofs.Trees.{at_range}

-- ---- the first null

is_null : (m : NullId) (v : Value) → value_cmp (Null m) v ≡ Less → v ≡ Null (as_null v)
is_null m (Const t) e = absurd (cc e)
is_null m (Null k) e = refl

as_itself : (v : Value) (m : NullId) → v ≡ Null m → v ≡ Null (as_null v)
as_itself (Const t) m e = absurd (cc e)
as_itself (Null k) m e = refl

same_null : (v : Value) (m : NullId) → v ≡ Null m → as_null v ≡ m
same_null (Const t) m e = absurd (cc e)
same_null (Null k) m e = cc e

pub first_is : (N : NumberedInstance) (i : ℕ) (m : NullId) → PartsFit N.symbols N.tables → ValuesAscend N.symbols → i < length N.symbols → value_of N.symbols i ≡ Null m
    → ((n : ℕ) → n < i → (k : NullId) → ¬ (value_of N.symbols n ≡ Null k)) → IsFirstNull N i
first_is N i m f up h e none = record {
  fit = f;
  ascend = up;
  within = omega (arith, h);
  constants = none;
  nulls = λ n l k. elim (cases_lt i n) [
    | inl b ↦ is_null m (value_of N.symbols n) (rw e at (up i n (Const []) b k))
    | inr b ↦ as_itself (value_of N.symbols n) m (let q : n ≡ i = omega arith in ap (value_of N.symbols) q ∙ e)
  ];
}

-- ---- the numbers of a row

-- ---- what `find` answers of the numbers of a row

pub none_found : (P Q : ℕ → Type 0) (xs : List ℕ) (o : Option ℕ) → MatchOption o (AllWithin Q xs 0 (length xs)) (λ n. P n × (i : ℕ) × (i < length xs) × HoldsAt (λ m. m ≡ n) xs i × AllWithin Q xs 0 i) → IfNone o (Each xs Q)
none_found P Q xs None h = λ n m. let c = contains_from_in m in subst Q c.2 (h c.0 n (omega arith) c.1)
none_found P Q xs (Some n) h = tt

pub some_found : (P Q : ℕ → Type 0) (xs : List ℕ) (o : Option ℕ) → MatchOption o (AllWithin Q xs 0 (length xs)) (λ n. P n × (i : ℕ) × (i < length xs) × HoldsAt (λ m. m ≡ n) xs i × AllWithin Q xs 0 i) → IfSome o (λ n. (n ∈ xs) × P n)
some_found P Q xs None h = tt
some_found P Q xs (Some n) h = (item_in xs h.1 n h.2 (sym (h.3 n)), h.0)

-- ---- rows in order

pub same_table : (N : NumberedInstance) (t : ℕ) → t < length N.tables → numbers_of_table N.tables t ≡ get_or N.tables t (numbers_of_table N.tables t)
same_table N t h = get_or_default N.tables t (record { width = 0; rows = [] }) (numbers_of_table N.tables t) h

-- the row of the fact
pub row_is : (N : NumberedInstance) (a : At) → IsRowIn N a → (fact_of N a).row ≡ shown_row N.symbols (row_numbers N a)
row_is N a r = row_shown N.symbols N.tables (shown_tables N.symbols N.tables) a.table a.place (numbers_of_table N.tables a.table) refl r.table
    (same_table N a.table r.table) r.place

pub row_below : (N : NumberedInstance) (a : At) → PartsFit N.symbols N.tables → IsRowIn N a → NumbersBelow (length N.symbols) (row_numbers N a)
row_below N a f r =
    numbers_below (length N.symbols) (numbers_of_table N.tables a.table) a.place
    (fits_in N.symbols N.tables a.table (numbers_of_table N.tables a.table) f r.table (same_table N a.table r.table)) r.place

pub no_rows : (N : NumberedInstance) (first : ℕ) → HasNullRows N first 0 0 []
no_rows N first = record {
  each = λ a m. elim m [ ];
  all = λ a n r b m l. elim b [ inl k ↦ absurd (omega arith) | inr k ↦ absurd (omega (arith, k.1)) ];
  ascend = tt;
}

before_here : (t p : ℕ) (a : At) → IsRowBefore t (p + 1) a → (IsRowBefore t p a) ⊎ ((a.table ≡ t) × (a.place ≡ p))
before_here t p a (inl l) = inl (inl l)
before_here t p a (inr l) = elim (cases_eq a.place p) [
  | inl e ↦ inr (l.0, e)
  | inr n ↦ inl (inr (l.0, omega (arith, n, l.1)))
]

later : (t p : ℕ) (a : At) → IsRowBefore t p a → IsRowBefore t (p + 1) a
later t p a (inl l) = inl l
later t p a (inr l) = inr (l.0, omega (arith, l.1))

at_is : (t p : ℕ) (a : At) → a.table ≡ t → a.place ≡ p → a ≡ record { table = t; place = p }
at_is t p a d e = λ i. record { table = d i; place = e i }

-- a row without nulls
pub row_passed : (N : NumberedInstance) (first t p : ℕ) (rows : List At) → Each (row_numbers N (record { table = t; place = p })) (λ n. n < first)
    → HasNullRows N first t p rows → HasNullRows N first t (p + 1) rows
row_passed N first t p rows none s = record {
  each = λ a m. let w = s.each a m in (w.0, later t p a w.1);
  all = λ a n r b m l. elim (before_here t p a b) [
    | inl k ↦ s.all a n r k m l
    | inr k ↦ (
        let e = at_is t p a k.0 k.1 in
        let h = none n (subst (λ (x : At). n ∈ row_numbers N x) e m) in
        absurd (omega (arith, h, l)))
  ];
  ascend = s.ascend;
}

-- one row more
pub row_kept : (N : NumberedInstance) (first t p : ℕ) (rows : List At) → IsRowIn N (record { table = t; place = p })
    → HasNullRows N first t p rows → HasNullRows N first t (p + 1) (rows ++ record { table = t; place = p } ∷ [])
row_kept N first t p rows r s = record {
  each = λ a m. elim (from_append rows m) [
    | inl k ↦ let w = s.each a k in (w.0, later t p a w.1)
    | inr k ↦ last a k
  ];
  all = λ a n q b m l. elim (before_here t p a b) [
    | inl k ↦ in_left (record { table = t; place = p } ∷ []) (s.all a n q k m l)
    | inr k ↦ in_right rows (here (sym (at_is t p a k.0 k.1)))
  ];
  ascend = ascends_more (λ (a b : At). IsRowBefore b.table b.place a) rows (record { table = t; place = p }) s.ascend (λ a m. (s.each a m).1);
}
  where
    last : (a : At) → a ∈ (record { table = t; place = p } ∷ []) → IsRowIn N a × IsRowBefore t (p + 1) a
    last a (here e) = rw (← e) (r, inr (refl, omega arith))
    last a (there m) = elim m [ ]

-- the next table
pub next_table : (N : NumberedInstance) (first t p : ℕ) (rows : List At) → length (numbers_of_table N.tables t).rows ≤ p
    → HasNullRows N first t p rows → HasNullRows N first (t + 1) 0 rows
next_table N first t p rows h s = record {
  each = λ a m. let w = s.each a m in (w.0, up a w.1);
  all = λ a n r b m l. s.all a n r (down a r b) m l;
  ascend = s.ascend;
}
  where
    up : (a : At) → IsRowBefore t p a → IsRowBefore (t + 1) 0 a
    up a (inl l) = inl (omega arith)
    up a (inr l) = inl (omega (arith, l.0))

    down : (a : At) → IsRowIn N a → IsRowBefore (t + 1) 0 a → IsRowBefore t p a
    down a r (inr l) = absurd (omega (arith, l.1))
    down a r (inl l) = elim (cases_eq a.table t) [
      | inl e ↦ (let k : a.place < length (numbers_of_table N.tables t).rows = rw e at r.place in inr (e, omega arith))
      | inr n ↦ inl (omega (arith, n))
    ]

-- ---- the nulls from a number on

pub nulls_many : (N : NumberedInstance) (first : ℕ) → length (nulls_from N first) ≡ length N.symbols - first
nulls_many N first =
    length-map (range_with_len first (length N.symbols - first)) (null_under N) ∙ length-range_with_len first (length N.symbols - first)

pub nulls_at : (N : NumberedInstance) (first k : ℕ) → k < length N.symbols - first → null_at (nulls_from N first) k ≡ null_under N (first + k)
nulls_at N first k h =
    let c : ℕ = length N.symbols - first in
    get_or-map (null_under N) (range_with_len first c) k 0 (record { rule = 0; var = 0; row = 0 }) (rw (length-range_with_len first c) h)
    ∙ ap (null_under N) (at_range first c k h)

range_ascends : (f : ℕ → NullId) (a n : ℕ) → ((x y : ℕ) → a ≤ x → x < y → y < a + n → null_cmp (f x) (f y) ≡ Less)
    → NullsAscend (map f (range_with_len a n))
range_ascends f a zero h = tt
range_ascends f a (suc n) h = (first, range_ascends f (a + 1) n (λ x y p q r. h x y (omega arith) q (omega arith)))
  where
    first : (m : NullId) → m ∈ map f (range_with_len (a + 1) n) → null_cmp (f a) m ≡ Less
    first m i =
        let w = from_map f (range_with_len (a + 1) n) i in
        let r = from_range (a + 1) n w.0 w.1 in
        rw (← w.2) (h a w.0 (omega arith) (omega (arith, r.0)) (omega (arith, r.1)))

pub nulls_up : (N : NumberedInstance) (first : ℕ) → IsFirstNull N first → NullsAscend (nulls_from N first)
nulls_up N first s = range_ascends (null_under N) first (length N.symbols - first) less
  where
    less : (x y : ℕ) → first ≤ x → x < y → y < first + (length N.symbols - first) → null_cmp (null_under N x) (null_under N y) ≡ Less
    less x y l h k =
        let w = s.within in
        let below : y < length N.symbols = omega arith in
        let e = s.ascend x y (Const []) h below in
        rw (s.nulls x l (omega arith), s.nulls y (omega arith) below) at e

-- each null of a row is listed
pub row_known : (N : NumberedInstance) (first : ℕ) (a : At) (m : NullId) → PartsFit N.symbols N.tables → IsFirstNull N first → IsRowIn N a
    → Null m ∈ (fact_of N a).row → m ∈ nulls_from N first
row_known N first a m f s r i =
    let w = from_map (value_of N.symbols) (row_numbers N a) (rw (row_is N a r) at i) in
    let below = row_below N a f r w.0 w.1 in
    elim (cases_lt w.0 first) [
      | inl l ↦ absurd (s.constants w.0 l m w.2)
      | inr l ↦ (
          let k = s.within in
          let there_is = to_range first (length N.symbols - first) w.0 l (omega (arith, below)) in
          subst (λ (n : NullId). n ∈ nulls_from N first) (same_null (value_of N.symbols w.0) m w.2) (in_map (null_under N) there_is))
    ]

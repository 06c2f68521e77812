-- Rows and values by their places.
use Rattle.std.proofs.Common.{◌≡◌, ◌∙◌, ◌+◌, ◌-◌, zero, suc, Some, ◌<◌, ◌≤◌, ◌++◌, ◌∷◌, ℕ, List, [], refl, sym, ap, subst, arith, length, get_or, set, take, slice_get, inl, inr, ◌^◌}
use Rattle.std.proofs.lemmas.List.{length-map, get_or-map, take_all, take_more, get_or_default, map-append, take_more_set}
use Rattle.std.specs.Prelude.{Option, None, Bool, MatchOption, IsTrue, ◌↔◌, is_some}
use Rattle.std.proofs.Common.{count_by, true, false}
use Rattle.std.proofs.lemmas.Bool.{cases_Bool, cases_lt}
use Rattle.std.proofs.lemmas.List.Sums.{count_by_more_yes, count_by_more_no}
use Rattle.dx_model.specs.Tables.{cell}
use Rattle.dx_instance.specs.Indexes.{IsNextWithNumber, NoNumber}
use Rattle.dx_instance.specs.Places.{HasValues, IsFirstWith, NoneWith}
use Rattle.dx_model.specs.Covers.{same_value}
use Rattle.dx_instance.proofs.NumberFacts.{there_at}
use Rattle.dx_instance.proofs.ShownFacts.{cell_below, value_shown, number_same}
use Rattle.dx_instance.proofs.TableFacts.{stands}
use Rattle.std.proofs.lemmas.Option.{slice_get-get_or}
use Rattle.dx_model.specs.declared.values.Value.{Value}
use Rattle.dx_model.specs.declared.values.Value.TheVariants.{Const}
use Rattle.dx_base.specs.Members.{◌∈◌, here, there}
use Rattle.dx_base.proofs.Members.{in_at, from_map, contains_from_in, from_append}
use Rattle.dx_model.proofs.Before.{same_value-refl, same_value-true}
use Rattle.dx_instance.specs.Stored.{TableRows, table_at, rows_of, FitsInstance}
use Rattle.dx_instance.specs.Numbers.{value_of}
use Rattle.dx_instance.specs.Cells.{NumberTable}
use Rattle.dx_instance.specs.Shown.{NumbersBelow, PartsFit, Shows, shown_row, shown_tables}
use Rattle.dx_instance.specs.Places.{row_at, value_at}
use Rattle.dx_instance.specs.Cells.{numbers_at}
use Rattle.dx_instance.proofs.ShownFacts.{all_fit, table_within, place_within, fits_in, numbers_below, row_shown, is_shown, to_shown, from_shown}
use Rattle.dx_instance.proofs.StoredFacts.{fits_at}

-- a row is as wide as its table
pub row_wide : (S : List Value) (ts : List NumberTable) (I : List TableRows) (t p : ℕ) → PartsFit S ts → shown_tables S ts ≡ I → t < length I → p < length (rows_of I t) → length (row_at I t p) ≡ (table_at I t).width
row_wide S ts I t p f v h b =
    let fits : FitsInstance I = subst FitsInstance v (all_fit S ts f) in
    (fits_at I t fits h).each (row_at I t p) (in_at (rows_of I t) p [] b)

pub row_whole : (S : List Value) (ts : List NumberTable) (I : List TableRows) (t p n : ℕ) (row : List Value) → PartsFit S ts → shown_tables S ts ≡ I → t < length I → p < length (rows_of I t) → (table_at I t).width ≤ n
    → row ≡ take n (row_at I t p) → row ≡ row_at I t p
row_whole S ts I t p n row f v h b w e = let l = row_wide S ts I t p f v h b in e ∙ take_all n (row_at I t p) (omega (arith, w, l))

pub row_got : (I : List TableRows) (t p : ℕ) (row : List Value) → p < length (rows_of I t) → row ≡ row_at I t p → slice_get (rows_of I t) p ≡ Some row
row_got I t p row b e = slice_get-get_or (rows_of I t) p [] b ∙ ap (λ (r : List Value). Some r) (sym e)

-- one value more of a row
pub row_more : (S : List Value) (ts : List NumberTable) (I : List TableRows) (t p c : ℕ) (old new : List Value) (v w : Value) → PartsFit S ts → shown_tables S ts ≡ I → t < length I → p < length (rows_of I t) → c < (table_at I t).width
    → old ≡ take c (row_at I t p) → w ≡ value_at I t p c → v ≡ w → new ≡ old ++ v ∷ [] → new ≡ take (c + 1) (row_at I t p)
row_more S ts I t p c old new v w f e h b k o q r n =
    let l = row_wide S ts I t p f e h b in
    let long : c < length (row_at I t p) = omega (arith, k, l) in
    n ∙ rw (o, r, q) (sym (take_more (row_at I t p) c (Const []) long))

-- no number has a value that no symbol is
pub none_shows : (S : List Value) (values : List Value) (i : ℕ) (v : Value) (ns : List ℕ) → i < length values → v ≡ get_or values i v → ¬ (v ∈ S) → ¬ (Shows S ns values)
none_shows S values i v ns h e n s =
    let long : length ns ≡ length values = sym (length-map ns (value_of S)) ∙ ap length s.is in
    let b : i < length ns = omega (arith, h, long) in
    let at : value_of S (get_or ns i 0) ≡ v = sym (get_or-map (value_of S) ns i 0 v b) ∙ ap (λ (l : List Value). get_or l i v) s.is ∙ sym e in
    let k = s.within (get_or ns i 0) (in_at ns i 0 b) in
    n (subst (λ (x : Value). x ∈ S) at (in_at S (get_or ns i 0) (Const []) k))

-- one number more that shows a value
pub shows_more : (S : List Value) (values : List Value) (numbers : List ℕ) (i n : ℕ) (v : Value) → i < length values → length values ≡ length numbers → v ≡ get_or values i v → n < length S → value_of S n ≡ v
    → Shows S (take i numbers) (take i values) → Shows S (take (i + 1) (set numbers i n)) (take (i + 1) values)
shows_more S values numbers i n v h l e b w s =
    let long : i < length numbers = omega (arith, h, l) in
    let both : shown_row S (take i numbers) ++ value_of S n ∷ [] ≡ take i values ++ get_or values i v ∷ [] = let one = s.is in let two = w ∙ e in cc (one, two) in
    rw (take_more_set numbers i n long, take_more values i v h) (record {
      is = map-append (value_of S) (take i numbers) (n ∷ []) ∙ both;
      within = λ x k. elim (from_append (take i numbers) k) [ inl q ↦ s.within x q | inr q ↦ last x q ];
    })
  where
    last : (x : ℕ) → x ∈ (n ∷ []) → x < length S
    last x (here q) = rw (← q) b
    last x (there r) = elim r [ ]

-- what is known of a row of numbers that was read
pub record ReadRow (S : List Value) (ts : List NumberTable) (I : List TableRows) (n p : ℕ) (t : NumberTable) (row : List ℕ) : Type 0 where
  pub below : NumbersBelow (length S) row
  pub at : row_at I n p ≡ shown_row S row

pub read_row : (S : List Value) (ts : List NumberTable) (I : List TableRows) (n p : ℕ) (t : NumberTable) (row : List ℕ) → PartsFit S ts → shown_tables S ts ≡ I → n < length I → t ≡ get_or ts n t → p < length (rows_of I n)
    → row ≡ numbers_at t.rows p → ReadRow S ts I n p t row
read_row S ts I n p t row f v h r b e =
    let hs = table_within S ts I n v h in
    let pb = place_within S ts I n p t v hs r b in
    record {
      below = rw e (numbers_below (length S) t p (fits_in S ts n t f hs r) pb);
      at = row_shown S ts I n p t v hs r pb ∙ ap (shown_row S) (sym e);
    }

pub not_passed : (I : List TableRows) (n m : ℕ) (values : List Value) → ((p : ℕ) → p < m → ¬ (row_at I n p ≡ values)) → length (rows_of I n) ≤ m → ¬ (values ∈ rows_of I n)
not_passed I n m values none h k =
    let at = contains_from_in k in
    none at.0 (omega (arith, at.1)) (get_or_default (rows_of I n) at.0 [] values at.1 ∙ at.2)

pub passed_in : (I : List TableRows) (n p : ℕ) (values : List Value) → p < length (rows_of I n) → row_at I n p ≡ values → values ∈ rows_of I n
passed_in I n p values h e = subst (λ (r : List Value). r ∈ rows_of I n) e (in_at (rows_of I n) p [] h)

-- a row is in a table where its numbers are
pub row_in : (S : List Value) (ts : List NumberTable) (I : List TableRows) (n : ℕ) (t : NumberTable) (numbers : List ℕ) (values : List Value) → PartsFit S ts → shown_tables S ts ≡ I → n < length I → t ≡ get_or ts n t → Shows S numbers values
    → numbers ∈ t.rows → values ∈ rows_of I n
row_in S ts I n t numbers values f v h r s m =
    let hs = table_within S ts I n v h in
    let is = ap (λ (u : TableRows). u.rows) (sym (is_shown S ts n t hs r) ∙ ap (λ (J : List TableRows). table_at J n) v) in
    subst (λ (rs : List (List Value)). values ∈ rs) is (to_shown S t.rows numbers values s m)

pub in_row : (S : List Value) (ts : List NumberTable) (I : List TableRows) (n : ℕ) (t : NumberTable) (numbers : List ℕ) (values : List Value) → PartsFit S ts → shown_tables S ts ≡ I → n < length I → t ≡ get_or ts n t → Shows S numbers values
    → values ∈ rows_of I n → numbers ∈ t.rows
in_row S ts I n t numbers values f v h r s m =
    let hs = table_within S ts I n v h in
    let is = ap (λ (u : TableRows). u.rows) (sym (is_shown S ts n t hs r) ∙ ap (λ (J : List TableRows). table_at J n) v) in
    from_shown S t.rows numbers values f.apart (fits_in S ts n t f hs r).within s (subst (λ (rs : List (List Value)). values ∈ rs) (sym is) m)

-- a row whose values have not all numbers is not there
pub not_shown : (S : List Value) (ts : List NumberTable) (I : List TableRows) (n : ℕ) (t : NumberTable) (values : List Value) → PartsFit S ts → shown_tables S ts ≡ I → n < length I → t ≡ get_or ts n t
    → ((ns : List ℕ) → ¬ (Shows S ns values)) → ¬ (values ∈ rows_of I n)
not_shown S ts I n t values f v h r none m =
    let hs = table_within S ts I n v h in
    let is = ap (λ (u : TableRows). u.rows) (sym (is_shown S ts n t hs r) ∙ ap (λ (J : List TableRows). table_at J n) v) in
    let k = from_map (shown_row S) t.rows (subst (λ (rs : List (List Value)). values ∈ rs) (sym is) m) in
    none k.0 (record { is = k.2; within = (fits_in S ts n t f hs r).within k.0 k.1 })

pub not_shown_at : (S : List Value) (ts : List NumberTable) (I : List TableRows) (n : ℕ) (values : List Value) → PartsFit S ts → shown_tables S ts ≡ I → n < length I → ((ns : List ℕ) → ¬ (Shows S ns values)) → ¬ (values ∈ rows_of I n)
not_shown_at S ts I n values f v h none =
    let d : NumberTable = record { width = 0; rows = [] } in
    let t : NumberTable = get_or ts n d in
    not_shown S ts I n t values f v h (get_or_default ts n d t (table_within S ts I n v h)) none

pub found_row : (o : Option ℕ) (b : Bool) (rows : List (List ℕ)) (row : List ℕ) → b ≡ is_some o → MatchOption o (¬ (row ∈ rows)) (λ p. (p < length rows) × (numbers_at rows p ≡ row)) → IsTrue b ↔ (row ∈ rows)
found_row None b rows row e f = ((λ t. absurd (cc (t, e))), (λ m. absurd (f m)))
found_row (Some p) b rows row e f = ((λ t. stands rows p row f.0 f.1), (λ m. e))

pub width_read : (S : List Value) (ts : List NumberTable) (I : List TableRows) (n : ℕ) (t : NumberTable) → shown_tables S ts ≡ I → n < length I → t ≡ get_or ts n t → (table_at I n).width ≡ t.width
width_read S ts I n t v h r = ap (λ (J : List TableRows). (table_at J n).width) (sym v) ∙ ap (λ (u : TableRows). u.width) (is_shown S ts n t (table_within S ts I n v h) r)

-- a value in a column has a number
pub value_known : (S : List Value) (ts : List NumberTable) (I : List TableRows) (n p col : ℕ) (x : Value) → PartsFit S ts → shown_tables S ts ≡ I → n < length I → p < length (rows_of I n) → col < (table_at I n).width → value_at I n p col ≡ x → x ∈ S
value_known S ts I n p col x f v h b w e =
    let d : NumberTable = record { width = 0; rows = [] } in
    let t : NumberTable = get_or ts n d in
    let r : t ≡ get_or ts n t = get_or_default ts n d t (table_within S ts I n v h) in
    let k = cell_below S ts I n p col t (numbers_at t.rows p) f v h r b w refl in
    let is = value_shown S ts I n p col t (numbers_at t.rows p) f v h r b w refl in
    there_at S (get_or (numbers_at t.rows p) col 0) x k (is ∙ e)

-- a cell whose value has this number holds this number
pub number_known : (S : List Value) (ts : List NumberTable) (I : List TableRows) (n p col number : ℕ) (t : NumberTable) (row : List ℕ) (x : Value) → PartsFit S ts → shown_tables S ts ≡ I → n < length I → t ≡ get_or ts n t
    → p < length (rows_of I n) → col < (table_at I n).width → row ≡ numbers_at t.rows p → number < length S → value_of S number ≡ x → value_at I n p col ≡ x → get_or row col 0 ≡ number
number_known S ts I n p col number t row x f v h r b w e k is at =
    number_same S (get_or row col 0) number f.apart (cell_below S ts I n p col t row f v h r b w e) k (value_shown S ts I n p col t row f v h r b w e ∙ at ∙ sym is)

-- no row at a place from a up to b has the value in the column
abbrev pub NoValue : List TableRows → ℕ → ℕ → Value → ℕ → ℕ → Type 0
NoValue I n col x a b = (p : ℕ) → a ≤ p → p < b → ¬ (value_at I n p col ≡ x)

abbrev pub IsNextValue : List TableRows → ℕ → ℕ → Value → ℕ → Option ℕ → Type 0
IsNextValue I n col x a o = MatchOption o (NoValue I n col x a (length (rows_of I n))) (λ p. (a ≤ p) × (p < length (rows_of I n)) × (value_at I n p col ≡ x) × NoValue I n col x a p)

-- what the next row with a number is for the value under it
pub next_value : (S : List Value) (ts : List NumberTable) (I : List TableRows) (n col number a : ℕ) (t : NumberTable) (x : Value) (o : Option ℕ) → PartsFit S ts → shown_tables S ts ≡ I → n < length I → t ≡ get_or ts n t → col < (table_at I n).width
    → (number < length S) × (value_of S number ≡ x) → IsNextWithNumber t.rows col number a o → IsNextValue I n col x a o
next_value S ts I n col number a t x o f v h r w k = by o
  where
    many : length (rows_of I n) ≡ length t.rows
    many = ap (λ (J : List TableRows). length (rows_of J n)) (sym v) ∙ ap (λ (u : TableRows). length u.rows) (is_shown S ts n t (table_within S ts I n v h) r) ∙ length-map t.rows (shown_row S)

    none : (b : ℕ) → b ≤ length (rows_of I n) → NoNumber t.rows col number a b → NoValue I n col x a b
    none b l m p g c e = m p g c (number_known S ts I n p col number t (numbers_at t.rows p) x f v h r (omega (arith, c, l)) w refl k.0 k.1 e)

    by : (q : Option ℕ) → IsNextWithNumber t.rows col number a q → IsNextValue I n col x a q
    by None m = none (length (rows_of I n)) (omega arith) (subst (λ (b : ℕ). NoNumber t.rows col number a b) (sym many) m)
    by (Some p) m =
        let b : p < length (rows_of I n) = omega (arith, m.1, many) in
        (m.0, b, sym (value_shown S ts I n p col t (numbers_at t.rows p) f v h r b w refl) ∙ ap (value_of S) m.2 ∙ k.1, none p (omega (arith, b)) m.3)

-- values in columns have each value in its column
pub at_has : (I : List TableRows) (t p i : ℕ) (columns : List ℕ) (values : List Value) (x : Value) → i < length columns → length columns ≡ length values → x ≡ get_or values i x → HasValues I t columns values p → value_at I t p (get_or columns i 0) ≡ x
at_has I t p i columns values x h l e q = sym (get_or-map (value_at I t p) columns i 0 x h) ∙ ap (λ (vs : List Value). get_or vs i x) q ∙ sym e

-- no row up to a place, where none has the value of one column from the last one on
pub none_further : (I : List TableRows) (t : ℕ) (columns : List ℕ) (values : List Value) (i a m b : ℕ) (x : Value) → i < length columns → length columns ≡ length values → x ≡ get_or values i x → NoneWith I t columns values a m
    → NoValue I t (get_or columns i 0) x m b → NoneWith I t columns values a b
none_further I t columns values i a m b x h l e old none p g c q = elim (cases_lt p m) [ inl k ↦ old p g k q | inr k ↦ none p k c (at_has I t p i columns values x h l e q) ]

-- rows that are not counted
not_counted : (f : List Value → Bool) (rows : List (List Value)) (a d : ℕ) → a + d ≤ length rows → ((p : ℕ) → a ≤ p → p < a + d → f (get_or rows p []) ≡ false) → count_by f (take (a + d) rows) ≡ count_by f (take a rows)
not_counted f rows a zero h n = let z : a + 0 ≡ a = omega arith in ap (λ (m : ℕ). count_by f (take m rows)) z
not_counted f rows a (suc d) h n =
    let s : a + suc d ≡ (a + d) + 1 = omega arith in
    let rest = not_counted f rows a d (omega (arith, h)) (λ p g c. n p g (omega (arith, c))) in
    let one = count_by_more_no f rows (a + d) [] (omega (arith, h)) (n (a + d) (omega arith) (omega arith)) in
    ap (λ (m : ℕ). count_by f (take m rows)) s ∙ one ∙ rest

pub other_value : (a b : Value) → ¬ (a ≡ b) → same_value a b ≡ false
other_value a b n = elim (cases_Bool (same_value a b)) [ inl y ↦ absurd (n (same_value-true a b y)) | inr f ↦ f ]

pub skipped : (I : List TableRows) (t c a b : ℕ) (x : Value) → a ≤ b → b ≤ length (rows_of I t) → NoValue I t c x a b
    → count_by (λ row. same_value (cell row c) x) (take b (rows_of I t)) ≡ count_by (λ row. same_value (cell row c) x) (take a (rows_of I t))
skipped I t c a b x h l n =
    let s : a + (b - a) ≡ b = omega (arith, h) in
    ap (λ (m : ℕ). count_by (λ row. same_value (cell row c) x) (take m (rows_of I t))) (sym s)
    ∙ not_counted (λ row. same_value (cell row c) x) (rows_of I t) a (b - a) (omega (arith, s, l)) (λ p g k. other_value (value_at I t p c) x (n p g (omega (arith, k, s))))

-- one more is counted
pub counted : (I : List TableRows) (t c a p : ℕ) (x : Value) (n : ℕ) → n ≡ count_by (λ row. same_value (cell row c) x) (take a (rows_of I t)) → (a ≤ p) × (p < length (rows_of I t)) × (value_at I t p c ≡ x) × NoValue I t c x a p
    → n + 1 ≡ count_by (λ row. same_value (cell row c) x) (take (p + 1) (rows_of I t))
counted I t c a p x n e m =
    let skip = skipped I t c a p x m.0 (omega (arith, m.1)) m.3 in
    let y : same_value (value_at I t p c) x ≡ true = rw m.2 (same_value-refl x) in
    let one = count_by_more_yes (λ row. same_value (cell row c) x) (rows_of I t) p [] m.1 y in
    omega (arith, e, skip, one)

-- all are counted
pub counted_all : (I : List TableRows) (t c a : ℕ) (x : Value) (n : ℕ) → n ≡ count_by (λ row. same_value (cell row c) x) (take a (rows_of I t)) → a ≤ length (rows_of I t) → NoValue I t c x a (length (rows_of I t))
    → n ≡ count_by (λ row. same_value (cell row c) x) (rows_of I t)
counted_all I t c a x n e h m = e ∙ sym (skipped I t c a (length (rows_of I t)) x h (omega arith) m) ∙ ap (λ (rs : List (List Value)). count_by (λ row. same_value (cell row c) x) rs) (take_all (length (rows_of I t)) (rows_of I t) (omega arith))

-- a table that was read has fewer than 2^32 rows
pub few_read : (S : List Value) (ts : List NumberTable) (I : List TableRows) (n : ℕ) (t : NumberTable) → PartsFit S ts → shown_tables S ts ≡ I → n < length I → t ≡ get_or ts n t → length t.rows < 2 ^ 32
few_read S ts I n t f v h r = (fits_in S ts n t f (table_within S ts I n v h) r).few

-- a row that has not the values
pub none_more : (I : List TableRows) (t : ℕ) (columns : List ℕ) (values : List Value) (a p : ℕ) → NoneWith I t columns values a p → ¬ (HasValues I t columns values p) → NoneWith I t columns values a (p + 1)
none_more I t columns values a p n h q g c e = elim (cases_lt q p) [ inl k ↦ n q g k e | inr k ↦ let s : q ≡ p = omega (arith, c, k) in h (subst (λ (x : ℕ). HasValues I t columns values x) s e) ]

-- what `find` over the places of rows answers
pub first_with : (I : List TableRows) (t : ℕ) (columns : List ℕ) (values : List Value) (a e : ℕ) (o : Option ℕ) → e ≡ length (rows_of I t)
    → MatchOption o ((k : ℕ) → a ≤ k → k < e → ¬ (HasValues I t columns values k)) (λ i. (a ≤ i) × (i < e) × HasValues I t columns values i × ((k : ℕ) → a ≤ k → k < i → ¬ (HasValues I t columns values k)))
    → IsFirstWith I t columns values a o
first_with I t columns values a e None s h = λ k l u. h k l (omega (arith, u, s))
first_with I t columns values a e (Some i) s h = (h.0, omega (arith, h.1, s), h.3, h.2)

-- Values of fields: a field's, a row's, and those of all rows.
use Rattle.std.proofs.Common.{◌≡◌, ◌∙◌, ℕ, suc, ◌+◌, ◌<◌, ◌≤◌, List, [], ◌∷◌, ◌++◌, inl, inr, refl, sym, ap, subst, arith, length, get_or, take, Option, Some, None, Result, Ok, Err}
use Rattle.std.specs.Prelude.{map, All, IfOk, IfSome, MatchOption, slice_get}
use Rattle.std.specs.List.{AllZip}
use Rattle.std.specs.declared.alloc.AllocError.{AllocError}
use Rattle.std.proofs.lemmas.List.{length-append, length-map, map-append, take_all, take_more}
use Rattle.std.proofs.lemmas.List.Elements.{All-head, All-tail}
use Rattle.dx_base.specs.Members.{◌∈◌, here, there, Each}
use Rattle.dx_base.proofs.Lists.{zip_long, zip_push}
use Rattle.dx_base.proofs.Members.{from_append, from_map}
use Rattle.dx_model.specs.declared.values.NullId.{NullId}
use Rattle.dx_model.specs.declared.values.Value.{Value}
use Rattle.dx_model.specs.declared.values.Value.TheVariants.{Const, Null}
use Rattle.dx_instance.specs.Cells.{NumberTable, with_numbers}
use Rattle.dx_instance.specs.Numbers.{Extends, value_of}
use Rattle.dx_instance.specs.Shown.{NumbersBelow, Shows, shown_row}
use Rattle.dx_instance.specs.ValueText.{ValueFits, value_text_of}
use Rattle.dx_instance.proofs.ShownFacts.{grown_below, grown_row, grown_rows}
use Rattle.dx_csv.specs.Table.{AreTableRecords, IsWholeRecord}
use Rattle.dx_model.specs.Values.{constants}
use Rattle.clio_given.specs.Given.{IsFirstNoRow, IsNoRow, IsValueOf}
use Rattle.clio_given.specs.Reading.{ShowsFields}

-- ---- one field

pub value_told : (text : List ℕ) (field : Value) (r : Result (Option Value) AllocError) → field ≡ Const text
    → IfOk r (λ o. IfSome o (λ v. ValueFits v × (value_text_of v ≡ text)))
    → IfOk r (λ o. (v : Value) → ValueFits v → value_text_of v ≡ text → o ≡ Some v)
    → IfOk r (λ o. MatchOption o ((v : Value) → ¬ (IsValueOf field v)) (IsValueOf field))
value_told text field (Err e) is read back = tt
value_told text field (Ok (Some v)) is read back = (read.0, is ∙ ap (λ (t : List ℕ). Const t) (sym read.1))
value_told text field (Ok None) is read back = λ v w. none v (back v w.0 (same v w.1))
  where
    none : (v : Value) → ◌≡◌ {A = Option Value} None (Some v) → ⊥
    none v e = cc

    same : (v : Value) → field ≡ Const (value_text_of v) → value_text_of v ≡ text
    same v e = cc

pub no_constant : (field : Value) (n : NullId) → field ≡ Null n → (v : Value) → ¬ (IsValueOf field v)
no_constant field n is v w = cc (sym is ∙ w.1)

-- ---- one row

-- one item more of each
zip_more : {X Y : Type 0} (R : X → Y → Type 0) (xs : List X) (ys : List Y) (i : ℕ) (x : X) (y : Y) → i < length xs → x ≡ get_or xs i x
    → AllZip R (take i xs) ys → R x y → AllZip R (take (i + 1) xs) (ys ++ y ∷ [])
zip_more {X} {Y} R xs ys i x y h e z r =
    subst (λ (l : List X). AllZip R l (ys ++ y ∷ [])) (ap (λ (w : X). take i xs ++ w ∷ []) e ∙ sym (take_more xs i x h)) (zip_push R (take i xs) ys x y z r)

-- each of the first goes with one of the second
zip_item : {X Y : Type 0} (R : X → Y → Type 0) (xs : List X) (ys : List Y) (x : X) → AllZip R xs ys → x ∈ xs → (y : Y) × R x y
zip_item R [] ys x z m = elim m [ ]
zip_item R (x ∷ xs) [] w z m = absurd z
zip_item {X} R (x ∷ xs) (y ∷ ys) w z (here e) = (y, subst (λ (u : X). R u y) e z.0)
zip_item R (x ∷ xs) (y ∷ ys) w z (there m) = zip_item R xs ys w z.1 m

-- numbers of values of the first fields
pub record AreNumbered (fields : List Value) (S : List Value) (numbers : List ℕ) (i : ℕ) : Type 0 where
  pub row : List Value
  pub values : AllZip IsValueOf (take i fields) row
  pub shows : Shows S numbers row

pub none_numbered : (fields S : List Value) (numbers : List ℕ) → numbers ≡ [] → AreNumbered fields S numbers 0
none_numbered fields S numbers e = record { row = []; values = tt; shows = record { is = ap (shown_row S) e; within = λ x m. elim (subst (λ (ns : List ℕ). x ∈ ns) e m) [ ] } }

pub numbered_more : (fields S T : List Value) (numbers more : List ℕ) (i n : ℕ) (field v : Value) → i < length fields → field ≡ get_or fields i field → IsValueOf field v
    → Extends S T → n < length T → value_of T n ≡ v → more ≡ numbers ++ n ∷ [] → AreNumbered fields S numbers i → AreNumbered fields T more (i + 1)
numbered_more fields S T numbers more i n field v h is value grows below shown e old = record {
  row = old.row ++ v ∷ [];
  values = zip_more IsValueOf fields old.row i field v h is old.values value;
  shows = record {
    is = ap (shown_row T) e ∙ (map-append (value_of T) numbers (n ∷ []) ∙ (ap (λ (vs : List Value). vs ++ value_of T n ∷ []) (grown_row S T numbers grows old.shows.within ∙ old.shows.is)
        ∙ ap (λ (w : Value). old.row ++ w ∷ []) shown));
    within = λ x m. elim (from_append numbers (subst (λ (ns : List ℕ). x ∈ ns) e m)) [ inl a ↦ grown_below S T numbers grows old.shows.within x a | inr b ↦ last x b ];
  };
}
  where
    last : (x : ℕ) → x ∈ (n ∷ []) → x < length T
    last x (here d) = subst (λ (k : ℕ). k < length T) d below
    last x (there m) = elim m [ ]

pub all_numbered : (fields S : List Value) (numbers : List ℕ) (i : ℕ) → length fields ≤ i → AreNumbered fields S numbers i → (row : List Value) × AllZip IsValueOf fields row × Shows S numbers row
all_numbered fields S numbers i h old = (old.row, subst (λ (fs : List Value). AllZip IsValueOf fs old.row) (take_all i fields h) old.values, old.shows)

pub no_row : (fields : List Value) (field : Value) → field ∈ fields → ((v : Value) → ¬ (IsValueOf field v)) → IsNoRow fields
no_row fields field m none row z = let w = zip_item IsValueOf fields row field z m in none w.0 w.1

-- ---- all rows

-- the rows of the first records
pub record AreRows (records : List (List Value)) (S : List Value) (width : ℕ) (t : NumberTable) (i : ℕ) : Type 0 where
  pub shown : ShowsFields (take i records) S t
  pub wide : t.width ≡ width
  pub below : Each t.rows (NumbersBelow (length S))
  pub many : length t.rows ≡ i

pub none_made : (records : List (List Value)) (S : List Value) (width : ℕ) (t : NumberTable) → t ≡ record { width = width; rows = [] } → AreRows records S width t 0
none_made records S width t e = rw e (record { shown = tt; wide = refl; below = λ r m. elim m [ ]; many = refl })

pub made_more : (records : List (List Value)) (S T : List Value) (width i : ℕ) (t u : NumberTable) (fields : List Value) (numbers : List ℕ) → i < length records → fields ≡ get_or records i fields
    → ((row : List Value) × AllZip IsValueOf fields row × Shows T numbers row) → Extends S T → u ≡ with_numbers t numbers → AreRows records S width t i → AreRows records T width u (i + 1)
made_more records S T width i t u fields numbers h is w grows e old = rw e (record {
  shown =
      let kept : map (shown_row T) t.rows ≡ map (shown_row S) t.rows = grown_rows S T t.rows grows old.below in
      let rows : map (shown_row T) (t.rows ++ numbers ∷ []) ≡ map (shown_row S) t.rows ++ w.0 ∷ [] =
      map-append (shown_row T) t.rows (numbers ∷ []) ∙ (ap (λ (rs : List (List Value)). rs ++ shown_row T numbers ∷ []) kept ∙ ap (λ (r : List Value). map (shown_row S) t.rows ++ r ∷ []) w.2.is) in
      subst (λ (rs : List (List Value)). AllZip (AllZip IsValueOf) (take (i + 1) records) rs) (sym rows)
      (zip_more (AllZip IsValueOf) records (map (shown_row S) t.rows) i fields w.0 h is old.shown w.1);
  wide = old.wide;
  below = λ r m. elim (from_append t.rows m) [ inl a ↦ grown_below S T r grows (old.below r a) | inr b ↦ last r b ];
  many = let l = length-append t.rows (numbers ∷ []) in let m = old.many in omega (arith, l, m);
})
  where
    last : (r : List ℕ) → r ∈ (numbers ∷ []) → NumbersBelow (length T) r
    last r (here d) = subst (NumbersBelow (length T)) d w.2.within
    last r (there m) = elim m [ ]

pub all_made : (records : List (List Value)) (S : List Value) (width : ℕ) (t : NumberTable) (i : ℕ) → length records ≤ i → AreRows records S width t i → ShowsFields records S t
all_made records S width t i h old = subst (λ (rs : List (List Value)). ShowsFields rs S t) (take_all i records h) old.shown

-- the numbers of a row are as many as its fields
pub numbers_wide : (fields S : List Value) (numbers : List ℕ) → ((row : List Value) × AllZip IsValueOf fields row × Shows S numbers row) → length numbers ≡ length fields
numbers_wide fields S numbers w = sym (length-map numbers (value_of S)) ∙ (ap length w.2.is ∙ sym (zip_long IsValueOf fields w.0 w.1))

pub first_no_row : (records : List (List Value)) (S : List Value) (width i r : ℕ) (t : NumberTable) (fields : List Value) → slice_get records i ≡ Some fields → r ≡ i + 1 → IsNoRow fields
    → AreRows records S width t i → IsFirstNoRow records r
first_no_row records S width i r t fields is number none old = record {
  place = i;
  number = let e : i + 1 ≡ suc i = omega arith in number ∙ e;
  row = fields;
  is = is;
  no_row = none;
  before = λ row m n. let w = zip_item (AllZip IsValueOf) (take i records) (map (shown_row S) t.rows) row old.shown m in n w.0 w.1;
}

-- ---- records of a table are as wide as its columns

pub table_wide : (records : List (List (List ℕ))) (columns : List (List ℕ)) (rows : List (List Value)) → AreTableRecords records columns rows → Each rows (λ fields. length fields ≡ length columns)
table_wide records columns rows t fields m =
    let u = from_map constants t.under (subst (λ (rs : List (List Value)). fields ∈ rs) t.values m) in
    sym (ap length u.2) ∙ (length-map u.0 Const ∙ wide t.under t.whole u.0 u.1)
  where
    wide : (under : List (List (List ℕ))) → All (IsWholeRecord columns) under → (x : List (List ℕ)) → x ∈ under → length x ≡ length columns
    wide [] a x i = elim i [ ]
    wide (y ∷ under) a x (here e) = subst (λ (z : List (List ℕ)). length z ≡ length columns) e (All-head (IsWholeRecord columns) y under a).width
    wide (y ∷ under) a x (there i) = wide under (All-tail (IsWholeRecord columns) y under a) x i

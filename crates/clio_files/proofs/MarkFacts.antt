-- The nulls of an instance by marks for their numbers.
use Rattle.std.proofs.Common.{◌≡◌, ◌∙◌, inl, inr, ℕ, suc, ◌+◌, ◌-◌, ◌<◌, ◌≤◌, List, [], ◌∷◌, ◌++◌, Bool, true, false, refl, sym, ap, subst, arith, length, get_or, set, take, map, append_assoc, below_more, Result, Ok, Err, Vec, Global}
use Rattle.std.specs.Prelude.{◌↔◌, IfOk}
use Rattle.std.specs.List.{concat}
use Rattle.std.specs.declared.alloc.AllocError.{AllocError}
use Rattle.std.specs.declared.cmp.Ordering.TheVariants.{Less}
use Rattle.std.proofs.lemmas.Bool.{cases_lt, cases_eq, false≢true}
use Rattle.std.proofs.lemmas.Grind.{flat_map-append}
use Rattle.std.proofs.lemmas.List.{append-nil, get_or_past, get_or-set_other, get_or-set_same, length-set, map-append, take_more}
use Rattle.std.proofs.lemmas.List.Folds.{concat-append}
use Rattle.dx_base.specs.Members.{◌∈◌, here, there, Each}
use Rattle.dx_base.proofs.Members.{from_append, from_map, in_left, in_map, in_right}
use Rattle.dx_model.specs.declared.values.NullId.{NullId}
use Rattle.dx_model.specs.declared.values.Value.{Value}
use Rattle.dx_model.specs.declared.values.Value.TheVariants.{Const, Null}
use Rattle.dx_model.specs.declared.facts.Fact.{Fact}
use Rattle.dx_model.specs.Instances.{values}
use Rattle.dx_model.specs.Values.{NullsAscend, null_cmp, value_cmp}
use Rattle.dx_base.specs.Texts.{Text}
use Rattle.dx_instance.specs.Cells.{NumberTable, numbers_at}
use Rattle.dx_instance.specs.Numbers.{ValuesAscend, value_of, IsConstant}
use Rattle.dx_instance.specs.Shown.{numbers_of_table, shown_row, shown_tables}
use Rattle.dx_instance.specs.Stored.{facts, facts_from}
use Rattle.clio_files.specs.Marks.{AreMarks, IsMarked, IsNull, table_numbers}
use Rattle.clio_files.specs.Sheets.{AreTargetNulls}

-- ---- constants come before nulls

constant_before : (v w : Value) (t : Text) → w ≡ Const t → value_cmp v w ≡ Less → IsConstant v
constant_before (Const u) w t e l = (u, refl)
constant_before (Null n) w t e l = absurd (cc (rw e at l))

null_after : (v w : Value) (n : NullId) → v ≡ Null n → value_cmp v w ≡ Less → IsNull w
null_after v (Const u) n e l = absurd (cc (rw e at l))
null_after v (Null m) n e l = (m, refl)

-- at a constant and before it there are constants
pub constants_to : (S : List Value) (m : ℕ) (v : Value) (t : Text) → ValuesAscend S → m < length S → v ≡ value_of S m → v ≡ Const t
    → (k : ℕ) → k < m + 1 → IsConstant (value_of S k)
constants_to S m v t up h e c k b = elim (cases_lt k m) [
  | inl l ↦ constant_before (value_of S k) (value_of S m) t (sym e ∙ c) (up k m (Const []) l h)
  | inr r ↦ let same : k ≡ m = omega arith in (t, ap (value_of S) same ∙ sym e ∙ c)
]

-- at a null and after it there are nulls
pub nulls_after : (S : List Value) (m : ℕ) (v : Value) (n : NullId) → ValuesAscend S → v ≡ value_of S m → v ≡ Null n
    → (k : ℕ) → m ≤ k → k < length S → IsNull (value_of S k)
nulls_after S m v n up e c k b h = elim (cases_lt m k) [
  | inl l ↦ null_after (value_of S m) (value_of S k) n (sym e ∙ c) (up m k (Const []) l h)
  | inr r ↦ let same : k ≡ m = omega arith in (n, ap (value_of S) same ∙ sym e ∙ c)
]

-- a null stands under a number
under : (S : List Value) (k : ℕ) (n : NullId) → value_of S k ≡ Null n → k < length S
under S k n e = elim (cases_lt k (length S)) [ inl l ↦ l | inr r ↦ absurd (cc (get_or_past S k (Const []) r, e)) ]

-- ---- marks

last_is : (x y : ℕ) → y ∈ (x ∷ []) → x ≡ y
last_is x y (here e) = e
last_is x y (there m) = elim m [ ]

-- a number before the first one has no mark
mark_before : (first x : ℕ) (seen : List ℕ) (marks : List Bool) → x < first → AreMarks first seen marks
    → AreMarks first (seen ++ x ∷ []) marks
mark_before first x seen marks b a k h = (
  (λ e. in_left (x ∷ []) ((a k h).0 e)),
  (λ m. elim (from_append seen m) [ inl l ↦ (a k h).1 l | inr r ↦ let e = last_is x (first + k) r in absurd (omega arith) ]),
)

-- a number from the first one on gets a mark
mark_set : (first x : ℕ) (seen : List ℕ) (marks : List Bool) → first ≤ x → x < first + length marks → AreMarks first seen marks
    → AreMarks first (seen ++ x ∷ []) (set marks (x - first) true)
mark_set first x seen marks b w a k h = elim (cases_eq k (x - first)) [
  | inl e ↦
      let is : x ≡ first + k = omega arith in
      let within : k < length marks = omega arith in
      ((λ t. in_right seen (here is)), (λ m. rw (← e) (get_or-set_same marks k true false within)))
  | inr d ↦
      let other : get_or (set marks (x - first) true) k false ≡ get_or marks k false = get_or-set_other marks (x - first) k true false d in
      let within : k < length marks = omega (arith, h, length-set marks (x - first) true) in (
        (λ t. in_left (x ∷ []) ((a k within).0 (sym other ∙ t))),
        (λ m. elim (from_append seen m) [
          | inl l ↦ other ∙ (a k within).1 l
          | inr r ↦ let e = last_is x (first + k) r in absurd (d (omega arith))
        ]),
      )
]

seen_more : (seen row : List ℕ) (i : ℕ) → i < length row → seen ++ take (i + 1) row ≡ (seen ++ take i row) ++ get_or row i 0 ∷ []
seen_more seen row i h =
    ap (λ (l : List ℕ). seen ++ l) (take_more row i 0 h) ∙ sym (append_assoc seen (take i row) (get_or row i 0 ∷ []))

-- one number of a row more
pub row_before : (first : ℕ) (seen row : List ℕ) (i : ℕ) (marks : List Bool) → i < length row → get_or row i 0 < first
    → AreMarks first (seen ++ take i row) marks → AreMarks first (seen ++ take (i + 1) row) marks
row_before first seen row i marks h b a =
    subst (λ l. AreMarks first l marks) (sym (seen_more seen row i h)) (mark_before first (get_or row i 0) (seen ++ take i row) marks b a)

pub row_marked : (first : ℕ) (seen row : List ℕ) (i : ℕ) (marks : List Bool) → i < length row → first ≤ get_or row i 0
    → get_or row i 0 < first + length marks
    → AreMarks first (seen ++ take i row) marks → AreMarks first (seen ++ take (i + 1) row) (set marks (get_or row i 0 - first) true)
row_marked first seen row i marks h b w a =
    subst (λ l. AreMarks first l (set marks (get_or row i 0 - first) true)) (sym (seen_more seen row i h))
    (mark_set first (get_or row i 0) (seen ++ take i row) marks b w a)

concat_more : (rows : List (List ℕ)) (i : ℕ) → i < length rows → concat (take (i + 1) rows) ≡ concat (take i rows) ++ numbers_at rows i
concat_more rows i h =
    ap concat (take_more rows i [] h) ∙ concat-append (take i rows) (get_or rows i [] ∷ [])
    ∙ ap (λ (l : List ℕ). concat (take i rows) ++ l) (append-nil (get_or rows i []))

-- one row of a table more
pub rows_marked : (first : ℕ) (seen : List ℕ) (rows : List (List ℕ)) (i : ℕ) (row : List ℕ) (new : List Bool) → i < length rows
    → row ≡ numbers_at rows i
    → AreMarks first ((seen ++ concat (take i rows)) ++ row) new → AreMarks first (seen ++ concat (take (i + 1) rows)) new
rows_marked first seen rows i row new h e a =
    subst (λ l. AreMarks first l new)
    (append_assoc seen (concat (take i rows)) row ∙ ap (λ (l : List ℕ). seen ++ l) (ap (λ (r : List ℕ). concat (take i rows) ++ r) e ∙ sym (concat_more rows i h)))
    a

-- one table more
pub tables_marked : (first : ℕ) (ts : List NumberTable) (i : ℕ) (new : List Bool) → i < length ts
    → AreMarks first (table_numbers (take i ts) ++ concat (numbers_of_table ts i).rows) new → AreMarks first (table_numbers (take (i + 1) ts)) new
tables_marked first ts i new h a =
    let t : NumberTable = record { width = 0; rows = [] } in
    let numbers : NumberTable → List ℕ = λ t. concat t.rows in
    subst (λ l. AreMarks first l new)
    (sym (ap table_numbers (take_more ts i t h) ∙ flat_map-append numbers (take i ts) (get_or ts i t ∷ [])
    ∙ ap (λ (l : List ℕ). table_numbers (take i ts) ++ l) (append-nil (concat (get_or ts i t).rows))))
    a

-- ---- the nulls of marked numbers

-- the nulls of the marked numbers of the first j places
pub record Collected (S : List Value) (first : ℕ) (marks : List Bool) (j : ℕ) (ns : List NullId) : Type 0 where
  pub ascend : NullsAscend ns
  pub only : (n : NullId) → n ∈ ns → (k : ℕ) × (k < j) × (get_or marks k false ≡ true) × (value_of S (first + k) ≡ Null n)
  pub all : (k : ℕ) → k < j → get_or marks k false ≡ true → (n : NullId) → value_of S (first + k) ≡ Null n → n ∈ ns

pub collected_none : (S : List Value) (first : ℕ) (marks : List Bool) → Collected S first marks 0 []
collected_none S first marks = record { ascend = tt; only = λ n m. elim m [ ]; all = λ k h. absurd (omega arith) }

-- a place without a mark, or with a constant
pub collected_same : (S : List Value) (first : ℕ) (marks : List Bool) (j : ℕ) (ns : List NullId)
    → (get_or marks j false ≡ true → (n : NullId) → value_of S (first + j) ≡ Null n → ⊥) → Collected S first marks j ns
    → Collected S first marks (j + 1) ns
collected_same S first marks j ns never c = record {
  ascend = c.ascend;
  only = λ n m. let w = c.only n m in (w.0, omega (arith, w.1), w.2, w.3);
  all = below_more _ _ c.all (λ e n v. absurd (never e n v));
}

push_ascend : (ns : List NullId) (n : NullId) → NullsAscend ns → Each ns (λ m. null_cmp m n ≡ Less) → NullsAscend (ns ++ n ∷ [])
push_ascend [] n a e = ((λ m k. elim k [ ]), tt)
push_ascend (x ∷ ns) n a e = (first, push_ascend ns n a.1 (λ m k. e m (there k)))
  where
    last : (m : NullId) → m ∈ (n ∷ []) → null_cmp x m ≡ Less
    last m (here q) = rw (← q) (e x (here refl))
    last m (there k) = elim k [ ]

    first : Each (ns ++ n ∷ []) (λ m. null_cmp x m ≡ Less)
    first m k = elim (from_append ns k) [ inl l ↦ a.0 m l | inr r ↦ last m r ]

-- a marked place with a null
pub collected_more : (S : List Value) (first : ℕ) (marks : List Bool) (j : ℕ) (ns : List NullId) (n : NullId) → ValuesAscend S
    → first + j < length S → get_or marks j false ≡ true → value_of S (first + j) ≡ Null n → Collected S first marks j ns
    → Collected S first marks (j + 1) (ns ++ n ∷ [])
collected_more S first marks j ns n up h marked is c = record {
  ascend = push_ascend ns n c.ascend before;
  only = λ m k. elim (from_append ns k) [ inl l ↦ let w = c.only m l in (w.0, omega (arith, w.1), w.2, w.3) | inr r ↦ last m r ];
  all = below_more _ _ (λ k b e m v. in_left (n ∷ []) (c.all k b e m v)) (λ e m v. in_right ns (here (cc (is, v))));
}
  where
    before : Each ns (λ m. null_cmp m n ≡ Less)
    before m k =
        let w = c.only m k in
        let less : value_cmp (value_of S (first + w.0)) (value_of S (first + j)) ≡ Less =
        up (first + w.0) (first + j) (Const []) (omega (arith, w.1)) h in
        rw (w.3, is) at less

    last : (m : NullId) → m ∈ (n ∷ [])
        → (k : ℕ) × (k < j + 1) × (get_or marks k false ≡ true) × (value_of S (first + k) ≡ Null m)
    last m (here q) = (j, omega arith, marked, is ∙ ap Null q)
    last m (there k) = elim k [ ]

-- after the last place
pub collected_all : (S : List Value) (first : ℕ) (marks : List Bool) (j : ℕ) (ns : List NullId) → length marks ≤ j
    → Collected S first marks j ns
    → (n : NullId) → (n ∈ ns) ↔ IsMarked S first marks n
collected_all S first marks j ns h c n = (
  (λ m. let w = c.only n m in (w.0, w.2, w.3)),
  (λ w. c.all w.0 (inside w.0 w.1) w.1 n w.2),
)
  where
    inside : (k : ℕ) → get_or marks k false ≡ true → k < j
    inside k e = elim (cases_lt k j) [ inl l ↦ l | inr r ↦ absurd (false≢true (sym (get_or_past marks k false (omega arith)) ∙ e)) ]

-- ---- the values of tables

values_of_rows : (S : List Value) (t : ℕ) (rows : List (List ℕ)) (fs : List Fact)
    → values (map (λ (row : List Value). record { table = t; row = row }) (map (shown_row S) rows) ++ fs)
    ≡ map (value_of S) (concat rows) ++ values fs
values_of_rows S t [] fs = refl
values_of_rows S t (r ∷ rows) fs =
    ap (λ (l : List Value). shown_row S r ++ l) (values_of_rows S t rows fs)
    ∙ sym (append_assoc (shown_row S r) (map (value_of S) (concat rows)) (values fs))
    ∙ ap (λ (l : List Value). l ++ values fs) (sym (map-append (value_of S) r (concat rows)))

values_from : (S : List Value) (t : ℕ) (ts : List NumberTable)
    → values (facts_from t (shown_tables S ts)) ≡ map (value_of S) (table_numbers ts)
values_from S t [] = refl
values_from S t (n ∷ ts) =
    values_of_rows S t n.rows (facts_from (suc t) (shown_tables S ts))
    ∙ ap (λ (l : List Value). map (value_of S) (concat n.rows) ++ l) (values_from S (suc t) ts)
    ∙ sym (map-append (value_of S) (concat n.rows) (table_numbers ts))

-- ascending nulls that are those of the marked numbers
pub marked_are_nulls : (S : List Value) (ts : List NumberTable) (first : ℕ) (marks : List Bool) (ns : List NullId)
    → first + length marks ≡ length S → ((k : ℕ) → k < first → IsConstant (value_of S k)) → AreMarks first (table_numbers ts) marks
    → NullsAscend ns → ((n : NullId) → (n ∈ ns) ↔ IsMarked S first marks n)
    → AreTargetNulls (facts (shown_tables S ts)) ns
marked_are_nulls S ts first marks ns many constants marked ascend members = record { ascend = ascend; exact = λ n. (to n, from n) }
  where
    inside : (k : ℕ) → get_or marks k false ≡ true → k < length marks
    inside k e =
        elim (cases_lt k (length marks)) [ inl l ↦ l | inr r ↦ absurd (false≢true (sym (get_or_past marks k false r) ∙ e)) ]

    to : (n : NullId) → n ∈ ns → Null n ∈ values (facts (shown_tables S ts))
    to n m =
        let w = (members n).0 m in
        let there = in_map (value_of S) ((marked w.0 (inside w.0 w.1)).0 w.1) in
        subst (λ l. Null n ∈ l) (sym (values_from S 0 ts)) (subst (λ v. v ∈ map (value_of S) (table_numbers ts)) w.2 there)

    marked_at : (n : NullId) (k : ℕ) → k ∈ table_numbers ts → value_of S k ≡ Null n → n ∈ ns
    marked_at n k m e = elim (cases_lt k first) [
      | inl l ↦ let c = constants k l in absurd (cc (c.1, e))
      | inr r ↦
          let is : first + (k - first) ≡ k = omega arith in
          let h : k - first < length marks = omega (arith, under S k n e) in
          (members n).1 (
            k - first,
            (marked (k - first) h).1 (subst (λ i. i ∈ table_numbers ts) (sym is) m),
            ap (value_of S) is ∙ e,
          )
    ]

    from : (n : NullId) → Null n ∈ values (facts (shown_tables S ts)) → n ∈ ns
    from n m =
        let w = from_map (value_of S) (table_numbers ts) (subst (λ l. Null n ∈ l) (values_from S 0 ts) m) in
        marked_at n w.0 w.1 w.2

-- the nulls of the marked numbers, if they were pushed
pub nulls_marked : (r : Result (Vec NullId Global) AllocError) (S : List Value) (ts : List NumberTable) (first : ℕ) (marks : List Bool)
    → first + length marks ≡ length S → ((k : ℕ) → k < first → IsConstant (value_of S k)) → AreMarks first (table_numbers ts) marks
    → IfOk r (λ ns. NullsAscend ns.items)
    → IfOk r (λ ns. (n : NullId) → (n ∈ ns.items) ↔ IsMarked S first marks n)
    → IfOk r (λ ns. AreTargetNulls (facts (shown_tables S ts)) ns.items)
nulls_marked (Ok ns) S ts first marks many constants marked a m = marked_are_nulls S ts first marks ns.items many constants marked a m
nulls_marked (Err x) S ts first marks many constants marked a m = tt

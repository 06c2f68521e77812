-- The nulls of rows, and nulls in order.
use Rattle.std.proofs.Common.{◌≡◌, ℕ, zero, suc, arith, subst, ◌+◌, ◌<◌, List, [], ◌∷◌, ◌++◌, Bool, true, refl, sym, ap, ◌∙◌, length}
use Rattle.std.proofs.Common.{get_or, take, map, flat_map, rules, append_assoc, Result, Ok, Err, Vec, Global}
use Rattle.std.specs.Prelude.{◌↔◌, IfOk}
use Rattle.std.specs.List.{dedup, AllByRecursion}
use Rattle.std.specs.List.Sorted.{IsSorted, IsStrictlySortedBy, IsPermutation}
use Rattle.std.specs.List.Retain.{IsFiltered, DiffersFromLast}
use Rattle.std.specs.declared.alloc.AllocError.{AllocError}
use Rattle.std.specs.declared.cmp.Ordering.TheVariants.{Less}
use Rattle.std.specs.Bool.{Decides}
use Rattle.std.proofs.lemmas.Grind.{flat_map-append}
use Rattle.std.proofs.lemmas.List.{take_more, append-nil, map-append, length-map, get_or-map}
use Rattle.std.proofs.lemmas.List.Filters.{dedup_is}
use Rattle.std.proofs.lemmas.List.Kept.{IsStrictlySortedBy-dedup, Contains-dedup, Contains-from_dedup}
use Rattle.std.proofs.lemmas.List.Sorted.{Contains-permutation, IsPermutation-sym}
use Rattle.dx_base.specs.Members.{◌∈◌, here, there, Each}
use Rattle.dx_base.proofs.Members.{contains_from_in, in_from_contains}
use Rattle.dx_model.specs.declared.values.NullId.{NullId}
use Rattle.dx_model.specs.declared.values.Value.{Value}
use Rattle.dx_model.specs.declared.values.Value.TheVariants.{Const, Null}
use Rattle.dx_model.specs.declared.facts.Fact.{Fact}
use Rattle.dx_model.specs.contracts.values.NullIdOrd.TheImpl.{cmp-value}
use Rattle.dx_model.specs.contracts.values.NullIdOrd.TheImpl.Laws.{total-law, matches_eq-law}
use Rattle.dx_model.specs.contracts.values.NullIdEq.TheImpl.Laws.{laws-law}
use Rattle.dx_model.specs.contracts.values.NullIdPartialEq.TheImpl.{eq-value}
use Rattle.dx_model.specs.Values.{null_cmp}
use Rattle.dx_base.specs.Texts.{Text}
use Rattle.dx_model.specs.Instances.{values, nulls_in}
use Rattle.dx_instance.specs.Cells.{NumberTable, numbers_at}
use Rattle.dx_instance.specs.Numbers.{value_of}
use Rattle.dx_instance.specs.Shown.{numbers_of_table, shown_row, shown_tables}
use Rattle.dx_instance.specs.Stored.{TableRows, facts_from, facts, rows_of}
use Rattle.dx_model.specs.Values.{NullsAscend}
use Rattle.dx_model.proofs.Reduction.{in_nulls, from_nulls, nulls_append}
use Rattle.clio_files.specs.Sheets.{AreTargetNulls}

-- ---- the nulls among values

-- what was there, what was done, and more
pub pushed : (old before new done all more : List NullId) → new ≡ before ++ more → before ≡ old ++ done → all ≡ done ++ more
    → new ≡ old ++ all
pushed old before new done all more e f g =
    e ∙ ap (λ (l : List NullId). l ++ more) f ∙ append_assoc old done more ∙ ap (λ (l : List NullId). old ++ l) (sym g)

-- the nulls of a table
abbrev pub table_nulls : TableRows → List NullId
table_nulls t = flat_map nulls_in t.rows

-- one table more
pub tables_more : (T : List TableRows) (i : ℕ) (old new : List NullId) → i < length T → old ≡ flat_map table_nulls (take i T)
    → new ≡ old ++ flat_map nulls_in (rows_of T i)
    → new ≡ flat_map table_nulls (take (i + 1) T)
tables_more T i old new h e n =
    let t : TableRows = record { width = 0; rows = [] } in
    n ∙ ap (λ (l : List NullId). l ++ flat_map nulls_in (rows_of T i)) e
    ∙ ap (λ (l : List NullId). flat_map table_nulls (take i T) ++ l) (sym (append-nil (flat_map nulls_in (rows_of T i))))
    ∙ sym (flat_map-append table_nulls (take i T) (get_or T i t ∷ [])) ∙ ap (flat_map table_nulls) (sym (take_more T i t h))

-- ---- the nulls of rows of numbers

pub shown_more : (S : List Value) (row : List ℕ) (i : ℕ) → i < length row
    → shown_row S (take (i + 1) row) ≡ shown_row S (take i row) ++ value_of S (get_or row i 0) ∷ []
shown_more S row i h = ap (shown_row S) (take_more row i 0 h) ∙ map-append (value_of S) (take i row) (get_or row i 0 ∷ [])

pub number_constant : (S : List Value) (row : List ℕ) (i : ℕ) (v : Value) (t : Text) → i < length row → v ≡ value_of S (get_or row i 0)
    → v ≡ Const t
    → nulls_in (shown_row S (take (i + 1) row)) ≡ nulls_in (shown_row S (take i row))
number_constant S row i v t h g e =
    ap nulls_in (shown_more S row i h ∙ ap (λ x. shown_row S (take i row) ++ x ∷ []) (sym g ∙ e))
    ∙ nulls_append (shown_row S (take i row)) (Const t ∷ []) ∙ append-nil (nulls_in (shown_row S (take i row)))

pub number_null : (S : List Value) (row : List ℕ) (i : ℕ) (v : Value) (n : NullId) → i < length row → v ≡ value_of S (get_or row i 0)
    → v ≡ Null n
    → nulls_in (shown_row S (take (i + 1) row)) ≡ nulls_in (shown_row S (take i row)) ++ n ∷ []
number_null S row i v n h g e =
    ap nulls_in (shown_more S row i h ∙ ap (λ x. shown_row S (take i row) ++ x ∷ []) (sym g ∙ e))
    ∙ nulls_append (shown_row S (take i row)) (Null n ∷ [])

rows_are : (S : List Value) (ts : List NumberTable) (n : ℕ) → n < length ts
    → rows_of (shown_tables S ts) n ≡ map (shown_row S) (numbers_of_table ts n).rows
rows_are S [] n h = absurd (omega arith)
rows_are S (t ∷ ts) zero h = refl
rows_are S (t ∷ ts) (suc n) h = rows_are S ts n (omega arith)

numbers_more : (S : List Value) (rows : List (List ℕ)) (i : ℕ) (row : List ℕ) → i < length rows → row ≡ numbers_at rows i
    → flat_map nulls_in (take (i + 1) (map (shown_row S) rows))
    ≡ flat_map nulls_in (take i (map (shown_row S) rows)) ++ nulls_in (shown_row S row)
numbers_more S rows i row h is =
    let within : i < length (map (shown_row S) rows) = rw (length-map rows (shown_row S)) h in
    let e : get_or (map (shown_row S) rows) i [] ≡ shown_row S row = get_or-map (shown_row S) rows i [] [] h ∙ ap (shown_row S) (sym is) in
    ap (flat_map nulls_in) (take_more (map (shown_row S) rows) i [] within)
    ∙ flat_map-append nulls_in (take i (map (shown_row S) rows)) (get_or (map (shown_row S) rows) i [] ∷ [])
    ∙ ap (λ r. flat_map nulls_in (take i (map (shown_row S) rows)) ++ (nulls_in r ++ [])) e
    ∙ ap (λ l. flat_map nulls_in (take i (map (shown_row S) rows)) ++ l) (append-nil (nulls_in (shown_row S row)))

-- one row of a table more
pub place_more : (S : List Value) (ts : List NumberTable) (n i : ℕ) (row : List ℕ) → n < length ts
    → i < length (numbers_of_table ts n).rows → row ≡ numbers_at (numbers_of_table ts n).rows i
    → flat_map nulls_in (take (i + 1) (rows_of (shown_tables S ts) n))
    ≡ flat_map nulls_in (take i (rows_of (shown_tables S ts) n)) ++ nulls_in (shown_row S row)
place_more S ts n i row h within is =
    subst (λ rs. flat_map nulls_in (take (i + 1) rs) ≡ flat_map nulls_in (take i rs) ++ nulls_in (shown_row S row))
    (sym (rows_are S ts n h))
    (numbers_more S (numbers_of_table ts n).rows i row within is)

nulls_of_rows : (k : ℕ) (rows : List (List Value)) (fs : List Fact)
    → nulls_in (values (map (λ (row : List Value). record { table = k; row = row }) rows ++ fs))
    ≡ flat_map nulls_in rows ++ nulls_in (values fs)
nulls_of_rows k [] fs = refl
nulls_of_rows k (r ∷ rows) fs =
    nulls_append r (values (map (λ (row : List Value). record { table = k; row = row }) rows ++ fs))
    ∙ ap (λ (l : List NullId). nulls_in r ++ l) (nulls_of_rows k rows fs)
    ∙ sym (append_assoc (nulls_in r) (flat_map nulls_in rows) (nulls_in (values fs)))

nulls_from : (k : ℕ) (I : List TableRows) → nulls_in (values (facts_from k I)) ≡ flat_map table_nulls I
nulls_from k [] = refl
nulls_from k (t ∷ I) = nulls_of_rows k t.rows (facts_from (suc k) I) ∙ ap (λ (l : List NullId). table_nulls t ++ l) (nulls_from (suc k) I)

-- ascending nulls that are those of the tables
pub are_nulls : (I : List TableRows) (ns : List NullId) → NullsAscend ns → ((n : NullId) → (n ∈ ns) ↔ (n ∈ flat_map table_nulls I))
    → AreTargetNulls (facts I) ns
are_nulls I ns a s = record {
  ascend = a;
  exact = λ n. (
    (λ m. from_nulls n (values (facts I)) (rw (nulls_from 0 I) ((s n).0 m))),
    (λ m. (s n).1 (rw (nulls_from 0 I) at (in_nulls n (values (facts I)) m))),
  );
}

-- ---- nulls in order

same_null : (m n : NullId) → cmp-value.it m n ≡ null_cmp m n
same_null m n = refl

each_after : (n : NullId) (ns : List NullId) → AllByRecursion (λ m. null_cmp n m ≡ Less) ns → Each ns (λ m. null_cmp n m ≡ Less)
each_after n [] h m k = elim k [ ]
each_after n (x ∷ ns) h m (here e) = rw (← e) h.0
each_after n (x ∷ ns) h m (there k) = each_after n ns h.1 m k

ascend_from : (ns : List NullId) → IsStrictlySortedBy null_cmp ns → NullsAscend ns
unfolding IsStrictlySortedBy
ascend_from [] h = tt
ascend_from (n ∷ ns) h = (each_after n ns h.0, ascend_from ns h.1)

abbrev pub null_eq : NullId → NullId → Bool
null_eq = eq-value.it

null_eq-Decides : (m n : NullId) → Decides (null_eq m n) (m ≡ n)
null_eq-Decides m n = search rules

same_from_eq : (m n : NullId) → null_eq m n ≡ true → m ≡ n
same_from_eq m n e = (null_eq-Decides m n).0 e

-- nulls that were sorted, and of which equal ones were taken out
pub ascend : (ms ns : List NullId) → IsSorted cmp-value.it ms → IsFiltered (DiffersFromLast null_eq) [] ms ns → NullsAscend ns
ascend ms ns sorted filtered =
    rw (dedup_is null_eq ms ns filtered)
    (ascend_from (dedup null_eq ms) (IsStrictlySortedBy-dedup total-law (λ a b. matches_eq-law a b) ms sorted))

pub same_nulls : (ls ms ns : List NullId) → IsPermutation ls ms → IsFiltered (DiffersFromLast null_eq) [] ms ns → (n : NullId)
    → (n ∈ ns) ↔ (n ∈ ls)
same_nulls ls ms ns moved filtered n =
    rw (dedup_is null_eq ms ns filtered) (
      (λ k. in_from_contains ls n (Contains-permutation ms ls n (IsPermutation-sym ls ms moved)
          (Contains-from_dedup null_eq ms n (contains_from_in k)))),
      (λ k. in_from_contains (dedup null_eq ms) n
          (Contains-dedup laws-law same_from_eq ms n (Contains-permutation ls ms n moved (contains_from_in k)))),
    )

-- the nulls of an instance that were put in order
pub nulls_are : (r : Result (Vec NullId Global) AllocError) (I : List TableRows) (ms : List NullId) → ms ≡ flat_map table_nulls I
    → IfOk r (λ ns. NullsAscend ns.items)
    → IfOk r (λ ns. (n : NullId) → (n ∈ ns.items) ↔ (n ∈ ms)) → IfOk r (λ ns. AreTargetNulls (facts I) ns.items)
nulls_are (Ok ns) I ms e a s = are_nulls I ns.items a (rw e at s)
nulls_are (Err x) I ms e a s = tt

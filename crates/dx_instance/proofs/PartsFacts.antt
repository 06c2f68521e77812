-- Parts of rows, each with the first row that has it.
use Rattle.std.proofs.Common.{◌≡◌, ◌∙◌, ℕ, ◌+◌, ◌<◌, ◌≤◌, List, [], ◌∷◌, ◌++◌, inl, inr, refl, sym, ap, subst, arith, length, map, get_or}
use Rattle.std.specs.Prelude.{Bool, true, false, MatchBool, Some, slice_index}
use Rattle.std.proofs.lemmas.Bool.{cases_lt}
use Rattle.std.proofs.lemmas.List.{get_or_append_left, get_or_default, get_or_push, get_or-map, length-append, length-map}
use Rattle.dx_base.specs.Members.{◌∈◌, here, there, Each}
use Rattle.dx_base.proofs.Members.{in_at, in_left, in_right}
use Rattle.dx_model.specs.declared.values.Value.{Value}
use Rattle.dx_model.specs.declared.values.Value.TheVariants.{Const}
use Rattle.dx_model.specs.Tables.{cell, values_in}
use Rattle.dx_instance.specs.Numbers.{value_of}
use Rattle.dx_instance.specs.Cells.{NumberTable, numbers_at, with_numbers}
use Rattle.dx_instance.specs.Firsts.{PartsOfPlaces, IsFirstOf, part_at}
use Rattle.dx_instance.specs.Places.{AreFirsts, IsFirstWith, row_at}
use Rattle.dx_instance.specs.Shown.{NumbersBelow, PartsFit, shown_row, shown_tables}
use Rattle.dx_instance.specs.Stored.{TableRows, rows_of, table_at}
use Rattle.dx_instance.specs.declared.firsts.Parts.{Parts}
use Rattle.dx_instance.proofs.PlaceFacts.{read_row, width_read}
use Rattle.dx_instance.proofs.ShownFacts.{fits_in, is_shown, numbers_wide, place_within, row_same, table_within}

-- ---- one place more

-- a part that is there: its first place
pub first_there : (f : ℕ → List ℕ) (n k q : ℕ) (part : List ℕ) (parts : Parts) → f n ≡ part → PartsOfPlaces f n parts → k < length parts.rows.rows → numbers_at parts.rows.rows k ≡ part
    → q ≡ get_or parts.places.items k q → IsFirstOf f n q
first_there f n k q part parts e a h is at =
    let within : k < length parts.places.items = omega (arith, h, a.many) in
    subst (IsFirstOf f n) (sym (at ∙ get_or_default parts.places.items k q 0 within)) (record {
      same = a.is_part k h ∙ (is ∙ sym e);
      least = λ r l d. a.is_first k h r l (d ∙ (e ∙ sym is));
    })

pub parts_there : (f : ℕ → List ℕ) (n k : ℕ) (part : List ℕ) (parts : Parts) → f n ≡ part → PartsOfPlaces f n parts → k < length parts.rows.rows → numbers_at parts.rows.rows k ≡ part
    → PartsOfPlaces f (n + 1) parts
parts_there f n k part parts e a h is = record {
  many = a.many;
  few = omega (arith, a.few);
  kept = λ p l. elim (cases_lt p n) [
    | inl b ↦ a.kept p b
    | inr b ↦ let d : p ≡ n = omega (arith, b, l) in rw (d, e, ← is) (in_at parts.rows.rows k [] h)
  ];
  is_part = a.is_part;
  is_first = a.is_first;
}

-- a part that is new: it has no place before this one
pub first_new : (f : ℕ → List ℕ) (n : ℕ) (part : List ℕ) (parts : Parts) → f n ≡ part → PartsOfPlaces f n parts → ¬ (part ∈ parts.rows.rows) → IsFirstOf f n n
first_new f n part parts e a new = record {
  same = refl;
  least = λ r l d. new (subst (λ (x : List ℕ). x ∈ parts.rows.rows) (d ∙ e) (a.kept r l));
}

pub parts_new : (f : ℕ → List ℕ) (n : ℕ) (part : List ℕ) (old new : Parts) → f n ≡ part → PartsOfPlaces f n old → ¬ (part ∈ old.rows.rows)
    → new.rows.rows ≡ old.rows.rows ++ part ∷ [] → new.places.items ≡ old.places.items ++ n ∷ [] → PartsOfPlaces f (n + 1) new
parts_new f n part old new e a fresh rows places = record {
  many = let l = ap length rows ∙ length-append old.rows.rows (part ∷ []) in let m = ap length places ∙ length-append old.places.items (n ∷ []) in omega (arith, l, m, a.many);
  few = omega (arith, long, a.few);
  kept = λ p l. rw rows (elim (cases_lt p n) [
    | inl b ↦ in_left (part ∷ []) (a.kept p b)
    | inr b ↦ let d : p ≡ n = omega (arith, b, l) in in_right old.rows.rows (here (sym e ∙ ap f (sym d)))
  ]);
  is_part = λ k h. elim (cases_lt k (length old.rows.rows)) [
    | inl b ↦ ap f (place_before k b) ∙ (a.is_part k b ∙ sym (row_before k b))
    | inr b ↦ let d : length old.rows.rows ≡ k = omega (arith, b, h, long) in ap f (place_last k d) ∙ (e ∙ sym (row_last k d))
  ];
  is_first = λ k h r l same. elim (cases_lt k (length old.rows.rows)) [
    | inl b ↦ a.is_first k b r (subst (λ (x : ℕ). r < x) (place_before k b) l) (same ∙ row_before k b)
    | inr b ↦
        let d : length old.rows.rows ≡ k = omega (arith, b, h, long) in
        (first_new f n part old e a fresh).least r (subst (λ (x : ℕ). r < x) (place_last k d) l) (same ∙ (row_last k d ∙ sym e))
  ];
}
  where
    long : length new.rows.rows ≡ length old.rows.rows + 1
    long = ap length rows ∙ length-append old.rows.rows (part ∷ [])

    row_before : (k : ℕ) → k < length old.rows.rows → numbers_at new.rows.rows k ≡ numbers_at old.rows.rows k
    row_before k b = rw rows (get_or_append_left old.rows.rows (part ∷ []) [] k b)

    row_last : (k : ℕ) → length old.rows.rows ≡ k → numbers_at new.rows.rows k ≡ part
    row_last k d = rw rows (get_or_push old.rows.rows part [] k d)

    place_before : (k : ℕ) → k < length old.rows.rows → slice_index new.places.items k ≡ slice_index old.places.items k
    place_before k b = rw places (get_or_append_left old.places.items (n ∷ []) 0 k (omega (arith, b, a.many)))

    place_last : (k : ℕ) → length old.rows.rows ≡ k → slice_index new.places.items k ≡ n
    place_last k d = rw places (get_or_push old.places.items n 0 k (a.many ∙ d))

-- what an addition that answers tells of a part that was not there
pub added_new : (b : Bool) (old new : NumberTable) (part : List ℕ) → ¬ (part ∈ old.rows) → MatchBool b (¬ (part ∈ old.rows)) (part ∈ old.rows) → MatchBool b (new ≡ with_numbers old part) (new ≡ old)
    → new ≡ with_numbers old part
added_new true old new part fresh is a = a
added_new false old new part fresh is a = absurd (fresh is)

-- ---- all places

pub none_yet : (f : ℕ → List ℕ) (parts : Parts) → parts.rows.rows ≡ [] → parts.places.items ≡ [] → PartsOfPlaces f 0 parts
none_yet f parts rows places = record {
  many = ap length places ∙ sym (ap length rows);
  few = omega (arith, ap length rows);
  kept = λ p h. absurd (omega (arith, h));
  is_part = λ k h. absurd (omega (arith, h, ap length rows));
  is_first = λ k h. absurd (omega (arith, h, ap length rows));
}

pub firsts_more : (f : ℕ → List ℕ) (n q : ℕ) (old new : List ℕ) → length old ≡ n → new ≡ old ++ q ∷ [] → ((p : ℕ) → p < n → IsFirstOf f p (slice_index old p)) → IsFirstOf f n q
    → (p : ℕ) → p < n + 1 → IsFirstOf f p (slice_index new p)
firsts_more f n q old new long e before last p h = elim (cases_lt p n) [
  | inl b ↦ subst (IsFirstOf f p) (sym (rw e (get_or_append_left old (q ∷ []) 0 p (omega (arith, b, long))))) (before p b)
  | inr b ↦
      let d : n ≡ p = omega (arith, b, h) in
      let is : slice_index new p ≡ q = rw e (get_or_push old q 0 p (long ∙ d)) in
      subst (IsFirstOf f p) (sym is) (subst (λ (x : ℕ). IsFirstOf f x q) d last)
]

-- ---- values

part_shown : (S : List Value) (numbers columns : List ℕ) → Each columns (λ c. c < length numbers) → map (cell (shown_row S numbers)) columns ≡ shown_row S (map (slice_index numbers) columns)
part_shown S numbers [] h = refl
part_shown S numbers (c ∷ columns) h =
    let one : cell (shown_row S numbers) c ≡ value_of S (slice_index numbers c) = get_or-map (value_of S) numbers c 0 (Const []) (h c (here refl)) in
    let rest = part_shown S numbers columns (λ x m. h x (there m)) in
    cc (one, rest)

part_below : (n : ℕ) (numbers columns : List ℕ) → NumbersBelow n numbers → Each columns (λ c. c < length numbers) → NumbersBelow n (map (slice_index numbers) columns)
part_below n numbers [] b h x m = elim m [ ]
part_below n numbers (c ∷ columns) b h x (here e) = subst (λ (y : ℕ). y < n) e (b (slice_index numbers c) (in_at numbers c 0 (h c (here refl))))
part_below n numbers (c ∷ columns) b h x (there m) = part_below n numbers columns b (λ y k. h y (there k)) x m

module _ (S : List Value) (ts : List NumberTable) (I : List TableRows) (n : ℕ) (t : NumberTable) (columns : List ℕ)
    (fits : PartsFit S ts) (view : shown_tables S ts ≡ I) (here_is : n < length I) (read : t ≡ get_or ts n t) (within : Each columns (λ c. c < (table_at I n).width)) where
  inside : (p : ℕ) → p < length (rows_of I n) → Each columns (λ c. c < length (numbers_at t.rows p))
  inside p h c m =
      let hs = table_within S ts I n view here_is in
      let wide = numbers_wide (length S) t p (fits_in S ts n t fits hs read) (place_within S ts I n p t view hs read h) in
      omega (arith, within c m, wide, width_read S ts I n t view here_is read)

  part_is : (p : ℕ) → p < length (rows_of I n) → values_in columns (row_at I n p) ≡ shown_row S (part_at t.rows columns p)
  part_is p h =
      let r = read_row S ts I n p t (numbers_at t.rows p) fits view here_is read h refl in
      ap (values_in columns) r.at ∙ part_shown S (numbers_at t.rows p) columns (inside p h)

  below : (p : ℕ) → p < length (rows_of I n) → NumbersBelow (length S) (part_at t.rows columns p)
  below p h =
      let r = read_row S ts I n p t (numbers_at t.rows p) fits view here_is read h refl in
      part_below (length S) (numbers_at t.rows p) columns r.below (inside p h)

  one_part : (p q : ℕ) → p < length (rows_of I n) → q < length (rows_of I n) → values_in columns (row_at I n p) ≡ values_in columns (row_at I n q) → part_at t.rows columns p ≡ part_at t.rows columns q
  one_part p q h k e = row_same S (part_at t.rows columns p) (part_at t.rows columns q) fits.apart (below p h) (below q k) (sym (part_is p h) ∙ (e ∙ part_is q k))

  -- the first of numbers is the first of values
  first_shown : (p q : ℕ) → p < length (rows_of I n) → IsFirstOf (part_at t.rows columns) p q → IsFirstWith I n columns (values_in columns (row_at I n p)) 0 (Some q)
  first_shown p q h f =
      let low : q ≤ p = elim (cases_lt p q) [ inl b ↦ absurd (f.least p b refl) | inr b ↦ omega (arith, b) ] in
      let k : q < length (rows_of I n) = omega (arith, low, h) in (
        omega arith,
        k,
        (λ r z l e. f.least r l (one_part r p (omega (arith, l, k)) h e)),
        part_is q k ∙ (ap (shown_row S) f.same ∙ sym (part_is p h)),
      )

  pub are_firsts : (places : List ℕ) → length places ≡ length t.rows → ((p : ℕ) → p < length t.rows → IsFirstOf (part_at t.rows columns) p (slice_index places p)) → AreFirsts I n columns places
  are_firsts places long each = record {
    many = long ∙ many;
    each = λ p h. first_shown p (slice_index places p) h (each p (subst (λ (x : ℕ). p < x) (sym many) h));
  }
    where
      many : length t.rows ≡ length (rows_of I n)
      many =
          let hs = table_within S ts I n view here_is in
          sym (ap (λ (J : List TableRows). length (rows_of J n)) (sym view) ∙ ap (λ (u : TableRows). length u.rows) (is_shown S ts n t hs read) ∙ length-map t.rows (shown_row S))

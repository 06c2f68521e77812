-- Tables whose numbers became ranks and whose rows were put in order.
use Rattle.std.proofs.Common.{◌≡◌, ◌∙◌, ◌+◌, ◌-◌, ◌<◌, ◌≤◌, ◌^◌, ◌∷◌, ℕ, zero, suc, List, [], refl, sym, ap, subst, arith, length, get_or, map}
use Rattle.std.specs.List.{AllZip}
use Rattle.std.specs.declared.cmp.Ordering.TheVariants.{Less}
use Rattle.std.proofs.Common.{Bool, true, false, ◌++◌, inl, inr, Result, Ok, Err}
use Rattle.std.specs.Prelude.{IfOk}
use Rattle.std.specs.Bool.{OnTrue}
use Rattle.std.proofs.lemmas.Bool.{cases_lt}
use Rattle.dx_model.specs.declared.values.Value.TheVariants.{Const}
use Rattle.dx_model.specs.Instances.{moved}
use Rattle.dx_instance.specs.NullMaps.{ByNull, becomes}
use Rattle.dx_instance.specs.Images.{AreImages, IsImage}
use Rattle.std.proofs.lemmas.List.{length-append, get_or_append_left, get_or_push, append_assoc, append-nil, nil_from_length}
use Rattle.std.proofs.lemmas.Slice.Zip.{AllZip-long}
use Rattle.dx_model.specs.declared.values.Value.{Value}
use Rattle.dx_model.specs.Values.{row_cmp, RowsAscend}
use Rattle.dx_base.specs.Members.{◌∈◌, ◌⊆◌, here, there, Each, Distinct}
use Rattle.dx_base.proofs.Members.{in_map, from_map, contains_from_in}
use Rattle.dx_instance.specs.Stored.{TableRows, rows_of, table_at, widths, IsSorting}
use Rattle.dx_instance.specs.Numbers.{ValuesDiffer, Extends, IsOrdering, ValuesAscend, value_of}
use Rattle.dx_instance.specs.Cells.{IsPut, NumberTable, NumbersAscend}
use Rattle.dx_instance.specs.Shown.{NumbersBelow, NumbersFit, PartsFit, NumberRowsFit, renumbered, shown, shown_row, shown_tables}
use Rattle.dx_instance.proofs.TableFacts.{numbers_cmp, numbers_self}
use Rattle.dx_instance.proofs.AfterFacts.{image_of_rows}
use Rattle.dx_instance.proofs.ShownFacts.{row_less, is_shown, fits_in, table_within}

each_above : (T : List Value) (r : List ℕ) (rows : List (List ℕ)) → ValuesAscend T → NumbersBelow (length T) r → Each rows (NumbersBelow (length T)) → ((k : ℕ) → k < length rows → numbers_cmp r (get_or rows k []) ≡ Less) → Each (map (shown_row T) rows) (λ s. row_cmp (shown_row T r) s ≡ Less)
each_above T r rows up b w h s m =
    let k = from_map (shown_row T) rows m in
    let at = contains_from_in k.1 in
    let l : numbers_cmp r k.0 ≡ Less = subst (λ (q : List ℕ). numbers_cmp r q ≡ Less) (get_or_any rows at.0 [] k.0 at.1 ∙ at.2) (h at.0 at.1) in
    subst (λ (v : List Value). row_cmp (shown_row T r) v ≡ Less) k.2 (row_less T r k.0 up b (w k.0 k.1) ∙ l)
  where
    get_or_any : (xs : List (List ℕ)) (i : ℕ) (d e : List ℕ) → i < length xs → get_or xs i d ≡ get_or xs i e
    get_or_any [] i d e h = absurd (omega arith)
    get_or_any (x ∷ xs) zero d e h = refl
    get_or_any (x ∷ xs) (suc i) d e h = get_or_any xs i d e (omega arith)

-- rows of numbers that ascend show rows that ascend
rows_ascend : (T : List Value) (rows : List (List ℕ)) → ValuesAscend T → Each rows (NumbersBelow (length T)) → NumbersAscend rows → RowsAscend (map (shown_row T) rows)
rows_ascend T [] up w a = tt
rows_ascend T (r ∷ rows) up w a = (
  each_above T r rows up (w r (here refl)) (λ x m. w x (there m)) (λ k h. a 0 (suc k) [] (omega arith) (omega arith)),
  rows_ascend T rows up (λ x m. w x (there m)) (λ i j d h k. a (suc i) (suc j) d (omega arith) (omega arith)),
)

pub distinct_numbers : (rows : List (List ℕ)) → NumbersAscend rows → Distinct rows
distinct_numbers [] a = tt
distinct_numbers (r ∷ rows) a = (first, distinct_numbers rows (λ i j d h k. a (suc i) (suc j) d (omega arith) (omega arith)))
  where
    first : ¬ (r ∈ rows)
    first m =
        let at = contains_from_in m in
        let l = a 0 (suc at.0) r (omega arith) (omega (arith, at.1)) in
        let s = numbers_self r in
        cc (rw at.2 at l, s)

-- rows that were put in order
pub put_fits : (n : ℕ) (t u : NumberTable) → NumberRowsFit n t → IsPut t u → NumbersFit n u
put_fits n t u f k = record {
  columns = rw k.order.width f.columns;
  each = k.wide;
  within = λ r m. f.within r (k.order.only r m);
  distinct = distinct_numbers u.rows k.order.ascend;
  few = k.few;
}

-- the same width and rows, ascending
record SortsTable (old new : TableRows) : Type 0 where
  pub width : new.width ≡ old.width
  pub ascend : RowsAscend new.rows
  pub kept : old.rows ⊆ new.rows
  pub only : new.rows ⊆ old.rows

put_sorts : (S : List Value) (t u : NumberTable) → ValuesAscend S → NumberRowsFit (length S) t → IsPut t u → SortsTable (shown S t) (shown S u)
put_sorts S t u up f k = record {
  width = k.order.width;
  ascend = rows_ascend S u.rows up (put_fits (length S) t u f k).within k.order.ascend;
  kept = λ row m. let q = from_map (shown_row S) t.rows m in subst (λ (v : List Value). v ∈ map (shown_row S) u.rows) q.2 (in_map (shown_row S) (k.order.kept q.0 q.1));
  only = λ row m. let q = from_map (shown_row S) u.rows m in subst (λ (v : List Value). v ∈ map (shown_row S) t.rows) q.2 (in_map (shown_row S) (k.order.only q.0 q.1));
}

all_put : (S : List Value) (ts us : List NumberTable) (n : ℕ) → ValuesAscend S → Each ts (NumberRowsFit (length S)) → AllZip IsPut ts us → SortsTable (table_at (shown_tables S ts) n) (table_at (shown_tables S us) n)
all_put S [] [] n up f z = record { width = refl; ascend = tt; kept = λ row m. m; only = λ row m. m }
all_put S [] (u ∷ us) n up f z = absurd z
all_put S (t ∷ ts) [] n up f z = absurd z
all_put S (t ∷ ts) (u ∷ us) zero up f z = put_sorts S t u up (f t (here refl)) z.0
all_put S (t ∷ ts) (u ∷ us) (suc n) up f z = all_put S ts us n up (λ x m. f x (there m)) z.1

put_widths : (S : List Value) (ts us : List NumberTable) → AllZip IsPut ts us → widths (shown_tables S us) ≡ widths (shown_tables S ts)
put_widths S [] [] z = refl
put_widths S [] (u ∷ us) z = absurd z
put_widths S (t ∷ ts) [] z = absurd z
put_widths S (t ∷ ts) (u ∷ us) z = let rest = put_widths S ts us z.1 in let one = z.0.order.width in cc (rest, one)

each_fits : (n : ℕ) (ts us : List NumberTable) → Each ts (NumberRowsFit n) → AllZip IsPut ts us → Each us (NumbersFit n)
each_fits n [] [] f z t m = elim m [ ]
each_fits n [] (u ∷ us) f z t m = absurd z
each_fits n (s ∷ ts) [] f z t m = elim m [ ]
each_fits n (s ∷ ts) (u ∷ us) f z t (here e) = rw (← e) (put_fits n s u (f s (here refl)) z.0)
each_fits n (s ∷ ts) (u ∷ us) f z t (there m) = each_fits n ts us (λ x k. f x (there k)) z.1 t m

pub parts_put : (S : List Value) (ts us : List NumberTable) → ValuesDiffer S → length S < 2 ^ 32 → Each ts (NumberRowsFit (length S)) → length ts < 2 ^ 32 - 1 → AllZip IsPut ts us → PartsFit S us
parts_put S ts us a l f w z = record { apart = a; small = l; each = each_fits (length S) ts us f z; few = rw (AllZip-long IsPut ts us z) w }

pub instance_put : (S : List Value) (ts us : List NumberTable) → ValuesAscend S → Each ts (NumberRowsFit (length S)) → AllZip IsPut ts us → IsSorting (shown_tables S ts) (shown_tables S us)
instance_put S ts us up f z = record {
  widths_stay = put_widths S ts us z;
  ascend = λ n. (all_put S ts us n up f z).ascend;
  kept = λ n. (all_put S ts us n up f z).kept;
  only = λ n. (all_put S ts us n up f z).only;
}

-- numbers of an instance fit
pub parts_rows : (S : List Value) (ts : List NumberTable) → PartsFit S ts → Each ts (NumberRowsFit (length S))
parts_rows S ts p t m = let f = p.each t m in record { columns = f.columns; within = f.within }

abbrev ranked : List ℕ → List ℕ → List ℕ
ranked ranks r = map (λ (x : ℕ). get_or ranks x 0) r

-- ranks show the same values
ranked_shows : (S T : List Value) (ranks r : List ℕ) → IsOrdering S T ranks → NumbersBelow (length S) r → shown_row T (ranked ranks r) ≡ shown_row S r
ranked_shows S T ranks [] o b = refl
ranked_shows S T ranks (x ∷ r) o b =
    let first = o.at x (b x (here refl)) in
    let rest = ranked_shows S T ranks r o (λ y m. b y (there m)) in
    cc (first, rest)

rows_show : (S T : List Value) (ranks : List ℕ) (rows : List (List ℕ)) → IsOrdering S T ranks → Each rows (NumbersBelow (length S)) → map (shown_row T) (map (ranked ranks) rows) ≡ map (shown_row S) rows
rows_show S T ranks [] o b = refl
rows_show S T ranks (r ∷ rows) o b =
    let first = ranked_shows S T ranks r o (b r (here refl)) in
    let rest = rows_show S T ranks rows o (λ y m. b y (there m)) in
    cc (first, rest)

-- tables of ranks show what the tables showed
pub ranks_show : (S T : List Value) (ranks : List ℕ) (ts : List NumberTable) → IsOrdering S T ranks → Each ts (NumberRowsFit (length S)) → shown_tables T (map (renumbered ranks) ts) ≡ shown_tables S ts
ranks_show S T ranks [] o f = refl
ranks_show S T ranks (t ∷ ts) o f =
    let first = ap (λ (rs : List (List Value)). let u : TableRows = record { width = t.width; rows = rs } in u) (rows_show S T ranks t.rows o (f t (here refl)).within) in
    let rest = ranks_show S T ranks ts o (λ x m. f x (there m)) in
    cc (first, rest)

-- other numbers are below n if those for the numbers below m are
within_images : (n m : ℕ) (images : List ℕ) (r : List ℕ) → ((x : ℕ) → x < m → get_or images x 0 < n) → NumbersBelow m r → NumbersBelow n (ranked images r)
within_images n m images r w b x h = let k = from_map (λ (y : ℕ). get_or images y 0) r h in let l = w k.0 (b k.0 k.1) in omega (arith, l, k.2)

pub images_fit : (n m : ℕ) (images : List ℕ) (ts : List NumberTable) → ((x : ℕ) → x < m → get_or images x 0 < n) → Each ts (NumberRowsFit m) → Each (map (renumbered images) ts) (NumberRowsFit n)
images_fit n m images ts w f u h =
    let k = from_map (renumbered images) ts h in
    let g = f k.0 k.1 in
    subst (λ (t : NumberTable). NumberRowsFit n t) k.2 (record {
      columns = g.columns;
      within = λ r q. let s = from_map (ranked images) k.0.rows q in subst (λ (x : List ℕ). NumbersBelow n x) s.2 (within_images n m images s.0 w (g.within s.0 s.1));
    })

-- a sorting of what is the same
pub same_sorting : (I J K : List TableRows) → I ≡ J → IsSorting I K → IsSorting J K
same_sorting I J K e s = subst (λ (L : List TableRows). IsSorting L K) e s

-- images of values
images_show : (m : ByNull) (S T : List Value) (images r : List ℕ) → AreImages m S T images (length S) → NumbersBelow (length S) r → shown_row T (ranked images r) ≡ map (moved (becomes m)) (shown_row S r)
images_show m S T images [] o b = refl
images_show m S T images (x ∷ r) o b =
    let first = o.at x (b x (here refl)) in
    let rest = images_show m S T images r o (λ y k. b y (there k)) in
    cc (first, rest)

record MapsTable (m : ByNull) (old new : TableRows) : Type 0 where
  pub kept : (row : List Value) → row ∈ old.rows → map (moved (becomes m)) row ∈ new.rows
  pub only : (row : List Value) → row ∈ new.rows → (r : List Value) × (r ∈ old.rows) × (map (moved (becomes m)) r ≡ row)

table_maps : (m : ByNull) (S T : List Value) (images : List ℕ) (t : NumberTable) → AreImages m S T images (length S) → Each t.rows (NumbersBelow (length S)) → MapsTable m (shown S t) (shown T (renumbered images t))
table_maps m S T images t o f = record {
  kept = λ row h. let q = from_map (shown_row S) t.rows h in
      subst (λ (v : List Value). v ∈ map (shown_row T) (map (ranked images) t.rows)) (images_show m S T images q.0 o (f q.0 q.1) ∙ ap (λ (v : List Value). map (moved (becomes m)) v) q.2) (in_map (shown_row T) (in_map (ranked images) q.1));
  only = λ row h. let p = from_map (shown_row T) (map (ranked images) t.rows) h in
      let q = from_map (ranked images) t.rows p.1 in
      (shown_row S q.0, in_map (shown_row S) q.1, sym (images_show m S T images q.0 o (f q.0 q.1)) ∙ ap (shown_row T) q.2 ∙ p.2);
}

all_map : (m : ByNull) (S T : List Value) (images : List ℕ) (ts : List NumberTable) (n : ℕ) → AreImages m S T images (length S) → Each ts (NumbersFit (length S)) → MapsTable m (table_at (shown_tables S ts) n) (table_at (shown_tables T (map (renumbered images) ts)) n)
all_map m S T images [] n o f = record { kept = λ row h. elim h [ ]; only = λ row h. elim h [ ] }
all_map m S T images (t ∷ ts) zero o f = table_maps m S T images t o (f t (here refl)).within
all_map m S T images (t ∷ ts) (suc n) o f = all_map m S T images ts n o (λ x h. f x (there h))

map_widths : (S T : List Value) (images : List ℕ) (ts : List NumberTable) → widths (shown_tables T (map (renumbered images) ts)) ≡ widths (shown_tables S ts)
map_widths S T images [] = refl
map_widths S T images (t ∷ ts) = ap (λ (ws : List ℕ). t.width ∷ ws) (map_widths S T images ts)

-- what is sorted of the images is the image
pub instance_maps : (m : ByNull) (S T : List Value) (images : List ℕ) (ts : List NumberTable) (I K : List TableRows) → shown_tables S ts ≡ I → AreImages m S T images (length S) → PartsFit S ts
    → IsSorting (shown_tables T (map (renumbered images) ts)) K → IsImage m I K
instance_maps m S T images ts I K v o f s = rw (← v) (record {
  widths_stay = s.widths_stay ∙ map_widths S T images ts;
  ascend = s.ascend;
  is = image_of_rows m (shown_tables S ts) K (λ n row h. s.kept n _ ((all_map m S T images ts n o f.each).kept row h)) (λ n row h. (all_map m S T images ts n o f.each).only row (s.only n row h));
})

-- one image more
pub images_more : (m : ByNull) (S T U : List Value) (images more : List ℕ) (i n : ℕ) → AreImages m S T images i → Extends T U → n < length U → value_of U n ≡ moved (becomes m) (value_of S i) → more ≡ images ++ n ∷ [] → AreImages m S U more (i + 1)
images_more m S T U images more i n o g b w e = rw e (record { many = omega (arith, o.many, length-append images (n ∷ [])); within = within; at = at })
  where
    longer : length T ≤ length U
    longer = omega (arith, ap length g.is, length-append T g.more)

    within : (k : ℕ) → k < i + 1 → get_or (images ++ n ∷ []) k 0 < length U
    within k h = elim (cases_lt k i) [
      | inl l ↦ let q = get_or_append_left images (n ∷ []) 0 k (omega (arith, l, o.many)) in let x = o.within k l in omega (arith, q, x, longer)
      | inr l ↦ let s : length images ≡ k = omega (arith, h, l, o.many) in let q = get_or_push images n 0 k s in omega (arith, q, b)
    ]

    at : (k : ℕ) → k < i + 1 → value_of U (get_or (images ++ n ∷ []) k 0) ≡ moved (becomes m) (value_of S k)
    at k h = elim (cases_lt k i) [
      | inl l ↦
          let q = get_or_append_left images (n ∷ []) 0 k (omega (arith, l, o.many)) in
          let x = ap (λ (V : List Value). value_of V (get_or images k 0)) g.is ∙ get_or_append_left T g.more (Const []) (get_or images k 0) (o.within k l) in
          rw q (x ∙ o.at k l)
      | inr l ↦
          let s : length images ≡ k = omega (arith, h, l, o.many) in
          let t : i ≡ k = omega (arith, s, o.many) in
          let q = get_or_push images n 0 k s in
          rw (q, ← t) w
    ]

pub if_ok : {X E : Type 0} {P Q : X → Type 0} (r : Result X E) → ((x : X) → P x → Q x) → IfOk r P → IfOk r Q
if_ok (Ok x) f p = f x p
if_ok (Err e) f p = tt

-- one table more that was put in order
pub put_more : (done ts us rest new : List NumberTable) (t u : NumberTable) → done ++ rest ≡ ts → rest ≡ t ∷ new → AllZip IsPut done us → IsPut t u → (more : List NumberTable) × (more ++ new ≡ ts) × AllZip IsPut more (us ++ u ∷ [])
put_more done ts us rest new t u e r z p = (done ++ t ∷ [], append_assoc done (t ∷ []) new ∙ ap (λ (l : List NumberTable). done ++ l) (sym r) ∙ e, zip_more done us z)
  where
    zip_more : (a b : List NumberTable) → AllZip IsPut a b → AllZip IsPut (a ++ t ∷ []) (b ++ u ∷ [])
    zip_more [] [] y = (p, tt)
    zip_more [] (x ∷ b) y = absurd y
    zip_more (x ∷ a) [] y = absurd y
    zip_more (x ∷ a) (w ∷ b) y = (y.0, zip_more a b y.1)

-- rows of numbers that ascend are known to ascend as values
pub table_ascends : (S : List Value) (ts : List NumberTable) (I : List TableRows) (n : ℕ) (t : NumberTable) (b : Bool) → PartsFit S ts → shown_tables S ts ≡ I → n < length I → t ≡ get_or ts n t → ValuesAscend S → OnTrue b (NumbersAscend t.rows) → OnTrue b (RowsAscend (rows_of I n))
table_ascends S ts I n t false f v h e up o = o
table_ascends S ts I n t true f v h e up o =
    let k = table_within S ts I n v h in
    let is = is_shown S ts n t k e in
    subst (λ (J : List TableRows). RowsAscend (rows_of J n)) v (subst (λ (u : TableRows). RowsAscend u.rows) (sym is) (rows_ascend S t.rows up (fits_in S ts n t f k e).within o))

-- one image more
pub image_more : (f : NumberTable → NumberTable) (all new rest next whole : List NumberTable) (t u : NumberTable) → rest ≡ t ∷ next → new ≡ all ++ u ∷ [] → u ≡ f t → all ++ map f rest ≡ whole → new ++ map f next ≡ whole
image_more f all new rest next whole t u r n e w = rw (n, e) (append_assoc all (f t ∷ []) (map f next) ∙ ap (λ (l : List NumberTable). all ++ map f l) (sym r) ∙ w)

pub all_done : (done rest ts : List NumberTable) → done ++ rest ≡ ts → length rest ≡ 0 → done ≡ ts
all_done done rest ts e z = sym (append-nil done) ∙ ap (λ (l : List NumberTable). done ++ l) (sym (nil_from_length rest z)) ∙ e

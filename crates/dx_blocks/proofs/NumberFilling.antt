-- Rows and nulls put into blocks by their numbers.
use Rattle.std.proofs.Common.{◌≡◌, ℕ, zero, suc, ◌+◌, ◌-◌, ◌<◌, ◌≤◌, List, [], ◌∷◌, ◌++◌, inl, inr, refl, sym, ◌∙◌, ap, subst, arith}
use Rattle.std.proofs.Common.{length, get_or, set, take, drop, map, replicate, take-append-drop}
use Rattle.std.proofs.lemmas.Bool.{cases_eq}
use Rattle.std.proofs.lemmas.List.{length-map, get_or-map, get_or_default, map-set, map_push, take_more, take_all}
use Rattle.dx_base.specs.Members.{◌∈◌, here, there, Each}
use Rattle.dx_base.proofs.Members.{in_at, in_flat_map, from_flat_map, from_append, in_left, in_right}
use Rattle.dx_base.proofs.Lists.{cut_at}
use Rattle.dx_model.specs.declared.values.NullId.{NullId}
use Rattle.dx_model.specs.declared.values.Value.{Value}
use Rattle.dx_model.specs.declared.values.Value.TheVariants.{Null}
use Rattle.dx_model.specs.declared.facts.Fact.{Fact}
use Rattle.dx_model.specs.Values.{FactsAscend, null_cmp, null_at}
use Rattle.std.specs.declared.cmp.Ordering.TheVariants.{Less}
use Rattle.dx_model.specs.Instances.{values}
use Rattle.dx_instance.specs.Shown.{NumberedInstance, PartsFit}
use Rattle.dx_blocks.specs.declared.block.Block.{Block}
use Rattle.dx_blocks.specs.declared.numbered.At.{At}
use Rattle.dx_blocks.specs.declared.numbered.NumberBlock.{NumberBlock}
use Rattle.dx_blocks.specs.Nulls.{StandsIn}
use Rattle.dx_blocks.specs.Labels.{BlocksFilled, AreLabels, HoldsLabel, block_at}
use Rattle.dx_blocks.specs.Numbered.{IsNullNumber, IsOfNumbers, IsRowIn, fact_of, null_under, shown_block}
use Rattle.dx_blocks.specs.NullRows.{BlocksOfRows, IsFirstNull, facts_of, nulls_from, row_numbers, shown_blocks}
use Rattle.dx_blocks.proofs.Connections.{connected_there}
use Rattle.dx_blocks.proofs.NullLists.{ascends_at, place_there}
use Rattle.dx_blocks.proofs.Filling.{fact_filled, fact_passed, null_put, start_filled}
use Rattle.dx_blocks.proofs.NullRowFacts.{nulls_at, nulls_many, nulls_up, row_is, row_below}
use Rattle.dx_blocks.proofs.NumberLabelling.{stands, no_nulls, rows_known}

abbrev at : List ℕ → ℕ → ℕ
at xs k = get_or xs k 0

abbrev number_block_at : List NumberBlock → ℕ → NumberBlock
number_block_at bs k = get_or bs k (record { nulls = []; rows = [] })

-- ---- a block read or changed

block_shown : (N : NumberedInstance) (bs : List NumberBlock) (l : ℕ) → l < length bs → block_at (shown_blocks N bs) l ≡ shown_block N (number_block_at bs l)
block_shown N bs l h = get_or-map (shown_block N) bs l (record { nulls = []; rows = [] }) (record { nulls = []; facts = [] }) h

blocks_set : (N : NumberedInstance) (bs : List NumberBlock) (l : ℕ) (b : NumberBlock) → shown_blocks N (set bs l b) ≡ set (shown_blocks N bs) l (shown_block N b)
blocks_set N bs l b = map-set (shown_block N) bs l b

pub each_set : {X : Type 0} (P : X → Type 0) (xs : List X) (i : ℕ) (y : X) → Each xs P → P y → Each (set xs i y) P
each_set P [] i y e p x m = elim m [ ]
each_set P (z ∷ zs) zero y e p x (here d) = rw (← d) p
each_set P (z ∷ zs) zero y e p x (there m) = e x (there m)
each_set P (z ∷ zs) (suc i) y e p x (here d) = e x (here d)
each_set P (z ∷ zs) (suc i) y e p x (there m) = each_set P zs i y (λ w k. e w (there k)) p x m

each_push : {X : Type 0} (P : X → Type 0) (xs : List X) (y : X) → Each xs P → P y → Each (xs ++ y ∷ []) P
each_push P xs y e p x m = elim (from_append xs m) [ inl k ↦ e x k | inr k ↦ last k ]
  where
    last : x ∈ (y ∷ []) → P x
    last (here d) = rw (← d) p
    last (there k) = elim k [ ]

-- ---- the start

pub start_shown : (N : NumberedInstance) (ns : List NullId) (labels : List ℕ) (bs : List NumberBlock)
    → bs ≡ replicate (length ns) (record { nulls = []; rows = [] }) → BlocksFilled ns labels [] [] (shown_blocks N bs)
start_shown N ns labels bs e = start_filled ns labels (shown_blocks N bs) (rw e (empty (length ns)))
  where
    empty : (n : ℕ) → shown_blocks N (replicate n (record { nulls = []; rows = [] })) ≡ replicate n (record { nulls = []; facts = [] })
    empty zero = refl
    empty (suc n) = ap (λ (bs : List Block). record { nulls = []; facts = [] } ∷ bs) (empty n)

pub start_within : (N : NumberedInstance) (n : ℕ) (bs : List NumberBlock) → bs ≡ replicate n (record { nulls = []; rows = [] }) → Each bs (IsOfNumbers N)
start_within N n bs e = rw e (empty n)
  where
    empty : (n : ℕ) → Each (replicate n (record { nulls = []; rows = [] })) (IsOfNumbers N)
    empty zero b m = elim m [ ]
    empty (suc n) b (here d) = rw (← d) (record { nulls = λ x k. elim k [ ]; rows = λ x k. elim k [ ] })
    empty (suc n) b (there m) = empty n b m

-- ---- one row more

pub record RowsPut (N : NumberedInstance) (first : ℕ) (rows : List At) (labels : List ℕ) (i : ℕ) (bs : List NumberBlock) : Type 0 where
  pub filled : BlocksFilled (nulls_from N first) labels [] (take i (facts_of N rows)) (shown_blocks N bs)
  pub within : Each bs (IsOfNumbers N)

module _ (N : NumberedInstance) (first : ℕ) (rows : List At) (labels : List ℕ) (bs : List NumberBlock) (i : ℕ) (a : At) (f : PartsFit N.symbols N.tables)
    (s : IsFirstNull N first) (r : Each rows (IsRowIn N)) (h : i < length rows) (e : a ≡ get_or rows i a)
    (x : RowsPut N first rows labels i bs) where
  a_row : IsRowIn N a
  a_row = r a (rw (← e) at (in_at rows i a h))

  long : i < length (facts_of N rows)
  long = rw (length-map rows (fact_of N)) h

  is : fact_of N a ≡ get_or (facts_of N rows) i (fact_of N a)
  is = ap (fact_of N) e ∙ sym (get_or-map (fact_of N) rows i a (fact_of N a) h)

  cut : take i (facts_of N rows) ++ fact_of N a ∷ drop (i + 1) (facts_of N rows) ≡ facts_of N rows
  cut = ap (λ (fs : List Fact). take i (facts_of N rows) ++ fs) (sym (cut_at (facts_of N rows) i (fact_of N a) long is)) ∙ take-append-drop i (facts_of N rows)

  more : take (i + 1) (facts_of N rows) ≡ take i (facts_of N rows) ++ fact_of N a ∷ []
  more = take_more (facts_of N rows) i (fact_of N a) long ∙ ap (λ (g : Fact). take i (facts_of N rows) ++ g ∷ []) (sym is)

  pub row_skipped : Each (row_numbers N a) (λ n. n < first) → RowsPut N first rows labels (i + 1) bs
  row_skipped none = record {
    filled = rw more (fact_passed (facts_of N rows) (nulls_from N first) [] labels (shown_blocks N bs) (take i (facts_of N rows))
        (drop (i + 1) (facts_of N rows)) (fact_of N a) cut x.filled (no_nulls N first a s a_row none));
    within = x.within;
  }

  module _ (n : ℕ) (m : n ∈ row_numbers N a) (l : first ≤ n) (g : AreLabels (facts_of N rows) (nulls_from N first) labels) where
    here_it : StandsIn (nulls_from N first) (fact_of N a).row (n - first)
    here_it = subst (λ (vs : List Value). StandsIn (nulls_from N first) vs (n - first)) (sym (row_is N a a_row))
        (stands N first n (row_numbers N a) s (row_below N a f a_row) m l)

    pub label_within : n - first < length labels
    label_within = rw (g.many) here_it.within

    pub block_within : at labels (n - first) < length bs
    block_within =
        let w = g.least (n - first) here_it.within in
        let k = here_it.within in
        let q = x.filled.many in
        let p = length-map bs (shown_block N) in
        omega (arith, w, k, q, p)

    pub row_put : (b : NumberBlock) → FactsAscend (facts_of N rows) → b.rows ≡ (number_block_at bs (at labels (n - first))).rows ++ a ∷ []
        → b.nulls ≡ (number_block_at bs (at labels (n - first))).nulls → RowsPut N first rows labels (i + 1) (set bs (at labels (n - first)) b)
    row_put b up er en = record {
      filled = rw (more, blocks_set N bs (at labels (n - first)) b)
          (fact_filled (facts_of N rows) (nulls_from N first) [] labels (shown_blocks N bs) (take i (facts_of N rows))
          (drop (i + 1) (facts_of N rows)) (fact_of N a) cut x.filled (n - first) (shown_block N b) g up here_it
          (ap (map (fact_of N)) er ∙ (map_push (fact_of N) (number_block_at bs (at labels (n - first))).rows a
          ∙ ap (λ (c : Block). c.facts ++ fact_of N a ∷ []) (sym (block_shown N bs (at labels (n - first)) block_within))))
          (ap (map (null_under N)) en ∙ ap (λ (c : Block). c.nulls) (sym (block_shown N bs (at labels (n - first)) block_within))));
      within = each_set (IsOfNumbers N) bs (at labels (n - first)) b x.within (record { nulls = rw en old.nulls; rows = rw er (each_push (IsRowIn N) _ a old.rows a_row) });
    }
      where
        old : IsOfNumbers N (number_block_at bs (at labels (n - first)))
        old = x.within (number_block_at bs (at labels (n - first))) (in_at bs (at labels (n - first)) (record { nulls = []; rows = [] }) block_within)

    pub row_put_read : (b r : NumberBlock) → FactsAscend (facts_of N rows) → b.rows ≡ (get_or bs (at labels (n - first)) r).rows ++ a ∷ []
        → b.nulls ≡ (get_or bs (at labels (n - first)) r).nulls → RowsPut N first rows labels (i + 1) (set bs (at labels (n - first)) b)
    row_put_read b r up er en =
        let same = get_or_default bs (at labels (n - first)) (record { nulls = []; rows = [] }) r block_within in
        row_put b up (er ∙ ap (λ (c : NumberBlock). c.rows ++ a ∷ []) (sym same)) (en ∙ ap (λ (c : NumberBlock). c.nulls) (sym same))

pub rows_put : (N : NumberedInstance) (first : ℕ) (rows : List At) (labels : List ℕ) (i : ℕ) (bs : List NumberBlock) → length rows ≤ i
    → RowsPut N first rows labels i bs → BlocksFilled (nulls_from N first) labels [] (facts_of N rows) (shown_blocks N bs)
rows_put N first rows labels i bs h x = rw (take_all i (facts_of N rows) (rw (length-map rows (fact_of N)) h)) at x.filled

-- ---- one null more

pub record NullsPut (N : NumberedInstance) (first : ℕ) (rows : List At) (labels : List ℕ) (i : ℕ) (bs : List NumberBlock) : Type 0 where
  pub some : List NullId
  pub only : (n : NullId) → n ∈ some → Null n ∈ values (facts_of N rows)
  pub all : (k : ℕ) → k < i → Null (null_at (nulls_from N first) k) ∈ values (facts_of N rows) → null_at (nulls_from N first) k ∈ some
  pub before : (n : NullId) → n ∈ some → (k : ℕ) × (k < i) × (null_at (nulls_from N first) k ≡ n)
  pub filled : BlocksFilled (nulls_from N first) labels some (facts_of N rows) (shown_blocks N bs)
  pub within : Each bs (IsOfNumbers N)

pub nulls_start : (N : NumberedInstance) (first : ℕ) (rows : List At) (labels : List ℕ) (bs : List NumberBlock)
    → BlocksFilled (nulls_from N first) labels [] (facts_of N rows) (shown_blocks N bs) → Each bs (IsOfNumbers N) → NullsPut N first rows labels 0 bs
nulls_start N first rows labels bs f w = record {
  some = [];
  only = λ n m. elim m [ ];
  all = λ k h v. absurd (omega arith);
  before = λ n m. elim m [ ];
  filled = f;
  within = w;
}

any_of : (fs : List Fact) → 0 < length fs → (f : Fact) × (f ∈ fs)
any_of [] h = absurd (omega arith)
any_of (f ∷ fs) h = (f, here refl)

none_in : (fs : List Fact) (f : Fact) → length fs ≤ 0 → ¬ (f ∈ fs)
none_in [] f h m = elim m [ ]
none_in (g ∷ fs) f h m = absurd (omega arith)

module _ (N : NumberedInstance) (first : ℕ) (rows : List At) (labels : List ℕ) (bs : List NumberBlock) (i : ℕ)
    (s : IsFirstNull N first) (g : AreLabels (facts_of N rows) (nulls_from N first) labels) (h : i < length labels)
    (x : NullsPut N first rows labels i bs) where
  inside : i < length (nulls_from N first)
  inside = rw (← g.many) h

  pub label_there : at labels i < length bs
  label_there =
      let w = g.least i inside in
      let k = inside in
      let q = x.filled.many in
      let p = length-map bs (shown_block N) in
      omega (arith, w, k, q, p)

  label_low : at labels i < length (nulls_from N first)
  label_low = let w = g.least i inside in let k = inside in omega (arith, w, k)

  rows_shown : length (block_at (shown_blocks N bs) (at labels i)).facts ≡ length (number_block_at bs (at labels i)).rows
  rows_shown = ap (λ (c : Block). length c.facts) (block_shown N bs (at labels i) label_there)
      ∙ length-map (number_block_at bs (at labels i)).rows (fact_of N)

  -- a null of a block without rows stands nowhere
  pub null_skipped : length (number_block_at bs (at labels i)).rows ≤ 0 → NullsPut N first rows labels (i + 1) bs
  null_skipped z = record {
    some = x.some;
    only = x.only;
    all = λ k l v. elim (cases_eq k i) [
      | inl e ↦ absurd (nowhere (rw e at v))
      | inr d ↦ x.all k (omega (arith, d)) v
    ];
    before = λ n m. let w = x.before n m in (w.0, omega (arith, w.1), w.2);
    filled = x.filled;
    within = x.within;
  }
    where
      nowhere : ¬ (Null (null_at (nulls_from N first) i) ∈ values (facts_of N rows))
      nowhere v =
          let w = from_flat_map (λ (f : Fact). f.row) (facts_of N rows) v in
          let held : HoldsLabel (nulls_from N first) labels (at labels i) w.0 =
          (null_at (nulls_from N first) i, w.2, record { place = i; within = inside; is = refl; labelled = refl }) in
          none_in (block_at (shown_blocks N bs) (at labels i)).facts w.0 (rw rows_shown z)
          (((x.filled.facts (at labels i) label_low).1 w.0).1 (w.1, held))

  stands_there : 0 < length (number_block_at bs (at labels i)).rows → Null (null_at (nulls_from N first) i) ∈ values (facts_of N rows)
  stands_there z =
      let any = any_of (block_at (shown_blocks N bs) (at labels i)).facts (rw rows_shown z) in
      let w = ((x.filled.facts (at labels i) label_low).1 any.0).0 any.1 in
      let v = w.1 in
      connected_there ((g.exactly i v.2.place inside v.2.within).0 (sym v.2.labelled))
      (in_flat_map (λ (f : Fact). f.row) w.0 (rw v.2.is v.1))

  number_is : null_at (nulls_from N first) i ≡ null_under N (first + i)
  number_is = nulls_at N first i (rw (← nulls_many N first) inside)

  is_number : IsNullNumber N (first + i)
  is_number =
      let k : i < length N.symbols - first = rw (← nulls_many N first) inside in
      let low : first + i < length N.symbols = omega arith in
      record { within = low; is = s.nulls (first + i) (omega arith) low }

  pub null_kept : (b : NumberBlock) → 0 < length (number_block_at bs (at labels i)).rows
      → b.nulls ≡ (number_block_at bs (at labels i)).nulls ++ (first + i) ∷ [] → b.rows ≡ (number_block_at bs (at labels i)).rows
      → NullsPut N first rows labels (i + 1) (set bs (at labels i) b)
  null_kept b z en er = record {
    some = x.some ++ null_at (nulls_from N first) i ∷ [];
    only = each_push (λ n. Null n ∈ values (facts_of N rows)) x.some (null_at (nulls_from N first) i) x.only (stands_there z);
    all = λ k l v. elim (cases_eq k i) [
      | inl e ↦ rw e (in_right x.some (here refl))
      | inr d ↦ in_left (null_at (nulls_from N first) i ∷ []) (x.all k (omega (arith, d)) v)
    ];
    before = each_push (λ n. (k : ℕ) × (k < i + 1) × (null_at (nulls_from N first) k ≡ n)) x.some (null_at (nulls_from N first) i)
        (λ n m. let w = x.before n m in (w.0, omega (arith, w.1), w.2)) (i, omega arith, refl);
    filled = rw (blocks_set N bs (at labels i) b)
        (null_put (facts_of N rows) (facts_of N rows) (nulls_from N first) x.some labels (shown_blocks N bs) i (shown_block N b)
        (nulls_up N first s) g inside x.filled after
        (ap (map (null_under N)) en ∙ (map_push (null_under N) (number_block_at bs (at labels i)).nulls (first + i)
        ∙ (ap (λ (m : NullId). map (null_under N) (number_block_at bs (at labels i)).nulls ++ m ∷ []) (sym number_is)
        ∙ ap (λ (c : Block). c.nulls ++ null_at (nulls_from N first) i ∷ []) (sym (block_shown N bs (at labels i) label_there)))))
        (ap (map (fact_of N)) er ∙ ap (λ (c : Block). c.facts) (sym (block_shown N bs (at labels i) label_there))));
    within = each_set (IsOfNumbers N) bs (at labels i) b x.within
        (record { nulls = rw en (each_push (IsNullNumber N) _ (first + i) old.nulls is_number); rows = rw er old.rows });
  }
    where
      old : IsOfNumbers N (number_block_at bs (at labels i))
      old = x.within (number_block_at bs (at labels i)) (in_at bs (at labels i) (record { nulls = []; rows = [] }) label_there)

      after : Each x.some (λ n. null_cmp n (null_at (nulls_from N first) i) ≡ Less)
      after n m =
          let w = x.before n m in
          rw (← w.2) (ascends_at (λ m n. null_cmp m n ≡ Less) (nulls_from N first) (nulls_up N first s) w.0 i (record { rule = 0; var = 0; row = 0 }) w.1 inside)

  pub null_kept_read : (b q r : NumberBlock) → 0 < length q.rows → q ≡ get_or bs (at labels i) q
      → b.nulls ≡ (get_or bs (at labels i) r).nulls ++ (first + i) ∷ [] → b.rows ≡ (get_or bs (at labels i) r).rows
      → NullsPut N first rows labels (i + 1) (set bs (at labels i) b)
  null_kept_read b q r z e en er =
      let same = get_or_default bs (at labels i) (record { nulls = []; rows = [] }) r label_there in
      let read = get_or_default bs (at labels i) (record { nulls = []; rows = [] }) q label_there in
      null_kept b (rw (read ∙ sym e) z) (en ∙ ap (λ (c : NumberBlock). c.nulls ++ (first + i) ∷ []) (sym same)) (er ∙ ap (λ (c : NumberBlock). c.rows) (sym same))

  pub null_skipped_read : (q : NumberBlock) → length q.rows ≤ 0 → q ≡ get_or bs (at labels i) q → NullsPut N first rows labels (i + 1) bs
  null_skipped_read q z e =
      let read = get_or_default bs (at labels i) (record { nulls = []; rows = [] }) q label_there in
      null_skipped (rw (read ∙ sym e) z)

  -- the number of the null
  pub number_low : first + i < length N.symbols
  number_low = is_number.within

pub nulls_put : (N : NumberedInstance) (first : ℕ) (rows : List At) (labels : List ℕ) (i : ℕ) (bs : List NumberBlock) → PartsFit N.symbols N.tables
    → IsFirstNull N first → Each rows (IsRowIn N) → AreLabels (facts_of N rows) (nulls_from N first) labels → length labels ≤ i
    → NullsPut N first rows labels i bs → BlocksOfRows N first rows labels bs
nulls_put N first rows labels i bs f s r g h x = record {
  some = x.some;
  exactly = λ n. (x.only n, to n);
  filled = x.filled;
}
  where
    to : (n : NullId) → Null n ∈ values (facts_of N rows) → n ∈ x.some
    to n v =
        let w = place_there (nulls_from N first) n (rows_known N first rows f s r n v) in
        let q = g.many in
        subst (λ (m : NullId). m ∈ x.some) w.2 (x.all w.0 (omega (arith, w.1, q, h)) (rw w.2 v))

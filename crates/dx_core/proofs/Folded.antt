-- A block that folds: what its rows become, rows that are taken out, and rows that are put back.
use Rattle.std.proofs.Common.{◌≡◌, ◌∙◌, ℕ, ◌+◌, ◌<◌, ◌≤◌, Bool, true, false, List, [], ◌∷◌, ◌++◌, inl, inr, refl, sym, ap, subst, arith, length, get_or, map, take, below_more}
use Rattle.std.specs.List.{AllZip}
use Rattle.std.proofs.lemmas.Bool.{true≢false}
use Rattle.std.proofs.lemmas.List.{take_all, take_more}
use Rattle.dx_base.specs.Members.{◌∈◌, ◌⊆◌, Each, here, there}
use Rattle.dx_base.proofs.Lists.{zip_push}
use Rattle.dx_base.proofs.Members.{from_append, from_map, in_at, in_left, in_map, in_right}
use Rattle.dx_model.specs.declared.values.NullId.{NullId}
use Rattle.dx_model.specs.declared.values.Value.{Value}
use Rattle.dx_model.specs.declared.facts.Fact.{Fact}
use Rattle.dx_model.specs.Instances.{fact_moved, given, moved}
use Rattle.dx_model.specs.Blocks.{IsEquivalentPart}
use Rattle.dx_model.proofs.Decided.{decide_in, same_fact}
use Rattle.dx_instance.specs.Cells.{numbers_at}
use Rattle.dx_instance.specs.Numbers.{value_of}
use Rattle.dx_instance.specs.Places.{row_at}
use Rattle.dx_instance.specs.Shown.{NumbersBelow, NumberedInstance, PartsFit, numbers_of_table, shown_row}
use Rattle.dx_blocks.specs.declared.numbered.At.{At}
use Rattle.dx_blocks.specs.declared.numbered.NumberBlock.{NumberBlock}
use Rattle.dx_blocks.specs.Numbered.{IsRowIn, fact_of}
use Rattle.dx_blocks.specs.NullRows.{row_numbers}
use Rattle.dx_solver.specs.Marks.{is_out, with_mark}
use Rattle.dx_core.specs.Asking.{IsNumberAfter, MovesOff, pairs_by}
use Rattle.dx_core.specs.Left.{HasMarks, facts_left, shown_by}
use Rattle.dx_core.specs.Sparing.{AreImages, IsTried}
use Rattle.dx_core.proofs.Asked.{distinct_rows, fact_left, row_below, row_is, row_left, row_within}
use Rattle.dx_core.proofs.Marked.{back_kept, back_only, back_there, left_inside, marked_inside, marked_kept, marked_out}
use Rattle.dx_core.proofs.Spared.{outside}
use Rattle.dx_core.proofs.Terms.{term_given}

-- ---- the numbers of a row after a move

pub after_start : (P : ℕ → ℕ → Type 0) (row ys : List ℕ) → ys ≡ [] → AllZip P (take 0 row) ys
after_start P [] ys e = rw e tt
after_start P (x ∷ row) ys e = rw e tt

pub after_more : (P : ℕ → ℕ → Type 0) (row old new : List ℕ) (i y : ℕ) → i < length row → P (get_or row i 0) y → new ≡ old ++ y ∷ []
    → AllZip P (take i row) old → AllZip P (take (i + 1) row) new
after_more P row old new i y h is e a = rw (e, take_more row i 0 h) (zip_push P (take i row) old (get_or row i 0) y a is)

pub after_end : (P : ℕ → ℕ → Type 0) (row ys : List ℕ) (i : ℕ) → length row ≤ i → AllZip P (take i row) ys → AllZip P row ys
after_end P row ys i h a = subst (λ (r : List ℕ). AllZip P r ys) (take_all i row h) a

module _ (N : NumberedInstance) (fit : PartsFit N.symbols N.tables) (b : NumberBlock) (t : IsTried N b) (xs : List ℕ)
    (long : length xs ≡ length b.nulls) where
  after_given : (row ys : List ℕ) → AllZip (IsNumberAfter b.nulls xs) row ys → NumbersBelow (length N.symbols) row
      → shown_row N.symbols ys ≡ map (moved (given (pairs_by N b.nulls xs))) (shown_row N.symbols row)
  after_given [] [] z h = refl
  after_given [] (y ∷ ys) z h = absurd z
  after_given (x ∷ row) [] z h = absurd z
  after_given (x ∷ row) (y ∷ ys) z h =
      let first : value_of N.symbols y ≡ moved (given (pairs_by N b.nulls xs)) (value_of N.symbols x) =
      ap (value_of N.symbols) z.0.number
      ∙ term_given N fit.apart b.nulls xs t.numbers.nulls t.ascend long x z.0.term z.0.stands (h x (here refl)) in
      let rest = after_given row ys z.1 (λ i m. h i (there m)) in
      cc (first, rest)

  -- a row becomes the row that has its numbers after the move
  pub row_becomes : (at : At) → IsRowIn N at → (ys : List ℕ) (p : ℕ) → AllZip (IsNumberAfter b.nulls xs) (row_numbers N at) ys
      → p < length (numbers_of_table N.tables at.table).rows → numbers_at (numbers_of_table N.tables at.table).rows p ≡ ys
      → fact_moved (given (pairs_by N b.nulls xs)) (fact_of N at) ≡ fact_of N (record { table = at.table; place = p })
  row_becomes at r ys p z q d =
      let g = given (pairs_by N b.nulls xs) in
      let to : At = record { table = at.table; place = p } in
      let there : IsRowIn N to = record { table = r.table; place = q } in
      let e : map (moved g) (row_at (shown_by N) at.table at.place) ≡ row_at (shown_by N) at.table p =
      ap (map (moved g)) (row_is N fit at r)
      ∙ (sym (after_given (row_numbers N at) ys z (row_below N fit at r)) ∙ (ap (shown_row N.symbols) (sym d) ∙ sym (row_is N fit to there))) in
      λ i. record { table = at.table; row = e i }

-- ---- images, row by row

pub no_images : (N : NumberedInstance) (out : List (List Bool)) (g : NullId → Value) (rows images : List At) → images ≡ []
    → AreImages N out g (take 0 rows) images
no_images N out g [] images e = rw e (record { all = λ r m. elim m [ ]; only = λ r m. elim m [ ] })
no_images N out g (r ∷ rows) images e = rw e (record { all = λ r m. elim m [ ]; only = λ r m. elim m [ ] })

module _ (N : NumberedInstance) (out : List (List Bool)) (g : NullId → Value) (rows : List At) (i : ℕ) (d : At) (h : i < length rows)
    (old : List At) (a : AreImages N out g (take i rows) old) where
  split : take (i + 1) rows ≡ take i rows ++ get_or rows i d ∷ []
  split = take_more rows i d h

  kept_row : (r : At) → r ∈ take i rows → r ∈ take (i + 1) rows
  kept_row r m = rw split (in_left (get_or rows i d ∷ []) m)

  pub image_skipped : is_out out (get_or rows i d).table (get_or rows i d).place ≡ true → AreImages N out g (take (i + 1) rows) old
  image_skipped o = record {
    only = λ to m. let w = a.only to m in (w.0, (w.1.0, kept_row w.1.0 w.1.1, w.1.2, w.1.3));
    all = λ r m e. elim (from_append (take i rows) (rw split at m)) [ inl l ↦ a.all r l e | inr l ↦ last r l e ];
  }
    where
      last : (r : At) → r ∈ (get_or rows i d ∷ []) → is_out out r.table r.place ≡ false
          → (to : At) × (to ∈ old) × (fact_moved g (fact_of N r) ≡ fact_of N to)
      last r (here q) e = absurd (true≢false (sym o ∙ (ap (λ (x : At). is_out out x.table x.place) q ∙ e)))
      last r (there m) e = elim m [ ]

  pub image_added : (new : List At) (image : At) → is_out out (get_or rows i d).table (get_or rows i d).place ≡ false → IsRowIn N image
      → fact_moved g (fact_of N (get_or rows i d)) ≡ fact_of N image → new ≡ old ++ image ∷ [] → AreImages N out g (take (i + 1) rows) new
  image_added new image o row is e = rw e (record {
    only = λ to m. elim (from_append old m) [
      | inl l ↦ let w = a.only to l in (w.0, (w.1.0, kept_row w.1.0 w.1.1, w.1.2, w.1.3))
      | inr l ↦ last_image to l
    ];
    all = λ r m q. elim (from_append (take i rows) (rw split at m)) [
      | inl l ↦ let w = a.all r l q in (w.0, in_left (image ∷ []) w.1, w.2)
      | inr l ↦ last_row r l
    ];
  })
    where
      last_image : (to : At) → to ∈ (image ∷ []) → IsRowIn N to × ((at : At) × (at ∈ take (i + 1) rows) × (is_out out at.table at.place ≡ false)
          × (fact_moved g (fact_of N at) ≡ fact_of N to))
      last_image to (here q) = (rw (← q) row, (get_or rows i d, rw split (in_right (take i rows) (here refl)), o, is ∙ ap (fact_of N) q))
      last_image to (there m) = elim m [ ]

      last_row : (r : At) → r ∈ (get_or rows i d ∷ []) → (to : At) × (to ∈ (old ++ image ∷ [])) × (fact_moved g (fact_of N r) ≡ fact_of N to)
      last_row r (here q) = (image, in_right old (here refl), ap (λ (x : At). fact_moved g (fact_of N x)) (sym q) ∙ is)
      last_row r (there m) = elim m [ ]

pub images_all : (N : NumberedInstance) (out : List (List Bool)) (g : NullId → Value) (rows : List At) (i : ℕ) (images : List At) → length rows ≤ i
    → AreImages N out g (take i rows) images → AreImages N out g rows images
images_all N out g rows i images h a = subst (λ (rs : List At). AreImages N out g rs images) (take_all i rows h) a

-- ---- rows that are taken out, or put back, one by one

abbrev pub first_at : At
first_at = record { table = 0; place = 0 }

-- the first i of the rows are taken out, and nothing else
pub record AreOut (N : NumberedInstance) (rows : List At) (old new : List (List Bool)) (i : ℕ) : Type 0 where
  pub less : facts_left N new ⊆ facts_left N old
  pub gone : (k : ℕ) → k < i → k < length rows → ¬ (fact_of N (get_or rows k first_at) ∈ facts_left N new)
  pub others : (f : Fact) → f ∈ facts_left N old → ¬ (f ∈ map (fact_of N) rows) → f ∈ facts_left N new

-- the first i of the rows are put back, and nothing else
pub record AreBack (N : NumberedInstance) (rows : List At) (old new : List (List Bool)) (i : ℕ) : Type 0 where
  pub more : facts_left N old ⊆ facts_left N new
  pub there : (k : ℕ) → k < i → k < length rows → fact_of N (get_or rows k first_at) ∈ facts_left N new
  pub only : (f : Fact) → f ∈ facts_left N new → ¬ (f ∈ map (fact_of N) rows) → f ∈ facts_left N old

pub out_start : (N : NumberedInstance) (rows : List At) (old : List (List Bool)) → AreOut N rows old old 0
out_start N rows old = record { less = λ f m. m; gone = λ k h. absurd (omega arith); others = λ f m k. m }

pub back_start : (N : NumberedInstance) (rows : List At) (old : List (List Bool)) → AreBack N rows old old 0
back_start N rows old = record { more = λ f m. m; there = λ k h. absurd (omega arith); only = λ f m k. m }

module _ (N : NumberedInstance) (fit : PartsFit N.symbols N.tables) (rows : List At) (within : Each rows (IsRowIn N))
    (old mid : List (List Bool)) (has : HasMarks (shown_by N) mid) (i : ℕ) (h : i < length rows) where
  at : At
  at = get_or rows i first_at

  in_rows : get_or rows i first_at ∈ rows
  in_rows = in_at rows i first_at h

  pub out_more : AreOut N rows old mid i
      → AreOut N rows old (with_mark mid (get_or rows i first_at).table (get_or rows i first_at).place true) (i + 1)
  out_more a =
      let r : At = get_or rows i first_at in
      let w = row_within N fit r (within r in_rows) in
      let less = marked_inside (shown_by N) mid r.table r.place has w.0 w.1 in
      record {
        less = λ f m. a.less f (less f m);
        gone = below_more (λ k. k < length rows → ¬ (fact_of N (get_or rows k first_at) ∈ facts_left N (with_mark mid r.table r.place true))) i
            (λ k l q m. a.gone k l q (less _ m))
            (λ q m. marked_out (shown_by N) mid r.table r.place has w.0 w.1 (distinct_rows N fit) m);
        others = λ f m k. marked_kept (shown_by N) mid r.table r.place has w.0 w.1 f (a.others f m k) (λ e. k (rw e (in_map (fact_of N) in_rows)));
      }

  pub back_more : AreBack N rows old mid i
      → AreBack N rows old (with_mark mid (get_or rows i first_at).table (get_or rows i first_at).place false) (i + 1)
  back_more a =
      let r : At = get_or rows i first_at in
      let w = row_within N fit r (within r in_rows) in
      let kept = back_kept (shown_by N) mid r.table r.place has w.0 w.1 in
      record {
        more = λ f m. kept f (a.more f m);
        there = below_more (λ k. k < length rows → fact_of N (get_or rows k first_at) ∈ facts_left N (with_mark mid r.table r.place false)) i
            (λ k l q. kept _ (a.there k l q))
            (λ q. back_there (shown_by N) mid r.table r.place has w.0 w.1);
        only = λ f m k. a.only f (back_only (shown_by N) mid r.table r.place has w.0 w.1 f m (λ e. k (rw e (in_map (fact_of N) in_rows)))) k;
      }

-- ---- the rows of a block are taken out, and their images are put back

module _ (N : NumberedInstance) (fit : PartsFit N.symbols N.tables) (b : NumberBlock) (t : IsTried N b) (xs : List ℕ) (old : List (List Bool))
    (at : At) (moves : MovesOff (given (pairs_by N b.nulls xs)) (facts_left N old) (map (fact_of N) b.rows) (fact_of N at))
    (images : List At) (are : AreImages N old (given (pairs_by N b.nulls xs)) b.rows images) where
  image_left : (f : Fact) → f ∈ map (fact_of N) images → (f ∈ facts_left N old) × (¬ (f ≡ fact_of N at))
  image_left f m =
      let w = from_map (fact_of N) images m in
      let r = (are.only w.0 w.1).1 in
      let l = fact_left N fit old r.0 (t.numbers.rows r.0 r.1) r.2 in
      let q = moves (fact_of N r.0) (in_map (fact_of N) r.1) l in
      let e : fact_moved (given (pairs_by N b.nulls xs)) (fact_of N r.0) ≡ f = r.3 ∙ w.2 in
      (subst (λ (x : Fact). x ∈ facts_left N old) e q.0, λ d. q.1 (e ∙ d))

  pub images_there : Each images (IsRowIn N)
  images_there to m = (are.only to m).0

  module _ (gone new : List (List Bool)) (less : facts_left N gone ⊆ facts_left N old)
      (others : (f : Fact) → f ∈ facts_left N old → ¬ (f ∈ map (fact_of N) b.rows) → f ∈ facts_left N gone)
      (more : facts_left N gone ⊆ facts_left N new) (back : Each (map (fact_of N) images) (λ f. f ∈ facts_left N new))
      (only : (f : Fact) → f ∈ facts_left N new → ¬ (f ∈ map (fact_of N) images) → f ∈ facts_left N gone) where
    inside : facts_left N new ⊆ facts_left N old
    inside f m = elim (decide_in same_fact f (map (fact_of N) images)) [
      | inl i ↦ (image_left f i).0
      | inr k ↦ less f (only f m k)
    ]

    onto : (d : Fact) → d ∈ facts_left N old → fact_moved (given (pairs_by N b.nulls xs)) d ∈ facts_left N new
    onto d m = elim (decide_in same_fact d (map (fact_of N) b.rows)) [
      | inl i ↦
          let w = from_map (fact_of N) b.rows i in
          let o = row_left N fit old w.0 (t.numbers.rows w.0 w.1) (subst (λ (f : Fact). f ∈ facts_left N old) (sym w.2) m) in
          let a = are.all w.0 w.1 o in
          let e : fact_moved (given (pairs_by N b.nulls xs)) d ≡ fact_of N a.0 =
          ap (fact_moved (given (pairs_by N b.nulls xs))) (sym w.2) ∙ a.2 in
          subst (λ (f : Fact). f ∈ facts_left N new) (sym e) (back _ (in_map (fact_of N) a.1))
      | inr k ↦
          subst (λ (f : Fact). f ∈ facts_left N new) (sym (outside N fit b t xs d (left_inside (shown_by N) old d m) k)) (more d (others d m k))
    ]

    pub folded : IsEquivalentPart (facts_left N old) (facts_left N new)
    folded = record { inside = inside; moves = (given (pairs_by N b.nulls xs), onto) }

    pub fold_gone : ¬ (fact_of N at ∈ facts_left N gone) → ¬ (fact_of N at ∈ facts_left N new)
    fold_gone n m = elim (decide_in same_fact (fact_of N at) (map (fact_of N) images)) [
      | inl i ↦ (image_left (fact_of N at) i).1 refl
      | inr k ↦ n (only (fact_of N at) m k)
    ]

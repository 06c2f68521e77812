-- Facts that move into an instance of values, and their atoms of numbers among its rows of numbers.
use Rattle.std.proofs.Common.{◌≡◌, ◌↔◌, ◌∙◌, ℕ, ◌+◌, ◌<◌, ◌++◌, take, Bool, true, false, inl, inr, List, [], ◌∷◌, length, get_or, refl, sym, ap, subst, arith, Result, Ok, Err}
use Rattle.std.specs.Prelude.{IfOk, IsTrue, MatchOption, None, Option, Some, is_some, map, replicate}
use Rattle.std.specs.List.{AllZip}
use Rattle.std.specs.declared.alloc.AllocError.{AllocError}
use Rattle.std.proofs.lemmas.Bool.{cases_Bool, false≢true, true≢false}
use Rattle.std.proofs.lemmas.List.{get_or-map, get_or_default, length-map, map-append, take_more}
use Rattle.std.proofs.lemmas.Option.{none-some}
use Rattle.dx_base.specs.Members.{◌∈◌, here, there, Each}
use Rattle.dx_base.proofs.Lists.{zip_long, zip_push, to_zip, from_zip}
use Rattle.dx_base.proofs.Members.{from_map, in_at, in_flat_map, in_map}
use Rattle.dx_base.proofs.Options.{nothing, none_known}
use Rattle.dx_model.specs.declared.facts.Fact.{Fact}
use Rattle.dx_model.specs.declared.values.NullId.{NullId}
use Rattle.dx_model.specs.declared.values.Value.{Value}
use Rattle.dx_model.specs.declared.values.Value.TheVariants.{Const, Null}
use Rattle.dx_model.specs.Instances.{fact_moved, moved, same_null}
use Rattle.dx_model.specs.Tables.{cell, values_in}
use Rattle.dx_model.specs.Values.{NullsAscend, null_at}
use Rattle.dx_model.proofs.Maps.{same_null-refl, same_null-true}
use Rattle.dx_instance.specs.Cells.{NumberTable}
use Rattle.dx_instance.specs.Numbers.{ValuesDiffer, value_of}
use Rattle.dx_instance.specs.Shown.{NumbersBelow, PartsFit, numbers_of_table, shown, shown_row, shown_tables}
use Rattle.dx_instance.specs.Stored.{TableRows, facts, rows_of, table_at, HasTableIn}
use Rattle.dx_instance.proofs.NumberFacts.{there_at}
use Rattle.dx_instance.proofs.ShownFacts.{number_same}
use Rattle.dx_instance.proofs.StoredFacts.{fact_from_row, fact_table, row_from_fact}
use Rattle.dx_instance.proofs.ValueNumbers.{number_of, number_back, row_place}
use Rattle.dx_blocks.specs.Nulls.{AllKnown, AreNulls}
use Rattle.dx_blocks.proofs.NullLists.{place_is_one}
use Rattle.dx_solver.specs.declared.atom.Term.{Term}
use Rattle.dx_solver.specs.declared.atom.Term.TheVariants.{Variable}
use Rattle.dx_solver.specs.declared.atom.PatternAtom.{PatternAtom}
use Rattle.dx_solver.specs.Questions.{FitsAtom, Solves, HasImageRow, number_under, row_under}
use Rattle.dx_judge.specs.Asking.{HasStranger, HasStrangerIn, IsStranger, SaysFact, SaysTurned, SaysValue, place_in}
use Rattle.dx_judge.specs.Open.{CanMove}
use Rattle.dx_judge.specs.Turned.{IsTurned, fact_turned, order_at}
use Rattle.dx_judge.proofs.Orders.{can_turn, from_turned, turned_exactly, turned_fits}

-- ---- options and lists

-- one item more of each
pub zip_more : {X Y : Type 0} (R : X → Y → Type 0) (xs : List X) (ys : List Y) (i : ℕ) (x : X) (y : Y) → i < length xs → x ≡ get_or xs i x
    → AllZip R (take i xs) ys → R x y → AllZip R (take (i + 1) xs) (ys ++ y ∷ [])
zip_more {X} {Y} R xs ys i x y h e z r =
    subst (λ (l : List X). AllZip R l (ys ++ y ∷ [])) (ap (λ (w : X). take i xs ++ w ∷ []) e ∙ sym (take_more xs i x h)) (zip_push R (take i xs) ys x y z r)

-- ---- values in an order

cell_is : (order : List ℕ) (row : List Value) (i : ℕ) (v : Value) → get_or order i 0 < length row → v ≡ get_or row (get_or order i 0) v → cell row (get_or order i 0) ≡ v
cell_is order row i v b e = get_or_default row (get_or order i 0) (Const []) v b ∙ sym e

pub value_in : (order : List ℕ) (row : List Value) (i : ℕ) (v : Value) → i < length order → get_or order i 0 < length row → v ≡ get_or row (get_or order i 0) v
    → v ∈ values_in order row
value_in order row i v h b e = subst (λ (w : Value). w ∈ values_in order row) (cell_is order row i v b e) (in_map (cell row) (in_at order i 0 h))

pub values_more : {Y : Type 0} (R : Value → Y → Type 0) (order : List ℕ) (row : List Value) (ys : List Y) (i : ℕ) (v : Value) (y : Y) → i < length order
    → get_or order i 0 < length row → v ≡ get_or row (get_or order i 0) v → AllZip R (values_in (take i order) row) ys → R v y
    → AllZip R (values_in (take (i + 1) order) row) (ys ++ y ∷ [])
values_more {Y} R order row ys i v y h b e z r =
    let more : values_in (take (i + 1) order) row ≡ values_in (take i order) row ++ cell row (get_or order i 0) ∷ [] =
    ap (map (cell row)) (take_more order i 0 h) ∙ map-append (cell row) (take i order) (get_or order i 0 ∷ []) in
    subst (λ (vs : List Value). AllZip R vs (ys ++ y ∷ [])) (ap (λ (w : Value). values_in (take i order) row ++ w ∷ []) (sym (cell_is order row i v b e)) ∙ sym more)
    (zip_push R (values_in (take i order) row) ys v y z r)

-- the order of a table, as it was looked up
pub order_same : (orders : List (List ℕ)) (t : ℕ) (o : List ℕ) → t < length orders → o ≡ get_or orders t o → order_at orders t ≡ o
order_same orders t o h e = get_or_default orders t [] o h ∙ sym e

-- ---- places of nulls

pub place_there : (ns : List NullId) (n : NullId) → n ∈ ns → (place_in ns n < length ns) × (null_at ns (place_in ns n) ≡ n)
place_there [] n m = elim m [ ]
place_there (x ∷ ns) n m = elim (cases_Bool (same_null x n)) [
  | inl y ↦ rw y (omega arith, same_null-true x n y)
  | inr f ↦ let r = place_there ns n (later m f) in rw f (omega (arith, r.0), r.1)
]
  where
    later : n ∈ (x ∷ ns) → same_null x n ≡ false → n ∈ ns
    later (here e) f = absurd (true≢false (sym (subst (λ (k : NullId). same_null x k ≡ true) e (same_null-refl x)) ∙ f))
    later (there k) f = k

-- the place that a search finds is the first
pub place_is : (ns : List NullId) (n : NullId) (k : ℕ) → NullsAscend ns → n ∈ ns → k < length ns → null_at ns k ≡ n → k ≡ place_in ns n
place_is ns n k ascend m h e =
    let r = place_there ns n m in
    place_is_one ns ascend k (place_in ns n) h r.0 (e ∙ sym r.1)

-- the nulls of facts are known
pub known_nulls : (F : List Fact) (ns : List NullId) → AreNulls F ns → Each F (λ f. AllKnown ns f.row)
known_nulls F ns are f m n i = (are.exactly n).1 (in_flat_map (λ (e : Fact). e.row) m i)

-- ---- numbers of values

-- ---- what stands for values

module _ (S : List Value) (apart : ValuesDiffer S) (ns : List NullId) where
  -- the numbers that something gives the variables
  abbrev numbers_by : (NullId → Value) → ℕ → ℕ
  numbers_by g k = number_of S (g (null_at ns k))

  -- what numbers for the variables give the nulls
  abbrev moved_by : (ℕ → ℕ) → NullId → Value
  moved_by a n = value_of S (a (place_in ns n))

  number_says : (g : NullId → Value) (v : Value) (x : Term) (n : ℕ) → ((k : NullId) → v ≡ Null k → k ∈ ns) → SaysValue S ns v x → n < length S
      → value_of S n ≡ moved g v → n ≡ number_under (numbers_by g) x
  number_says g (Const t) x n known s h e = rw s.1 (number_same S n s.0 apart h s.2 (e ∙ sym s.3))
  number_says g (Null k) x n known s h e =
      let back : null_at ns (place_in ns k) ≡ k = (place_there ns k (known k refl)).1 in
      rw s (sym (number_back S n apart h) ∙ (ap (number_of S) e ∙ ap (λ (m : NullId). number_of S (g m)) (sym back)))

  row_says : (g : NullId → Value) (row : List Value) (terms : List Term) (r : List ℕ) → AllKnown ns row → AllZip (SaysValue S ns) row terms → NumbersBelow (length S) r
      → shown_row S r ≡ map (moved g) row → r ≡ map (number_under (numbers_by g)) terms
  row_says g [] [] [] known z w e = refl
  row_says g [] [] (n ∷ r) known z w e = cc e
  row_says g [] (x ∷ terms) r known z w e = absurd z
  row_says g (v ∷ row) [] r known z w e = absurd z
  row_says g (v ∷ row) (x ∷ terms) [] known z w e = cc e
  row_says g (v ∷ row) (x ∷ terms) (n ∷ r) known z w e =
      let first : value_of S n ≡ moved g v = cc in
      let others : shown_row S r ≡ map (moved g) row = cc in
      let a = number_says g v x n (λ k d. known k (here d)) z.0 (w n (here refl)) first in
      let b = row_says g row terms r (λ k m. known k (there m)) z.1 (λ y m. w y (there m)) others in
      (λ i. a i ∷ b i)

  value_says : (a : ℕ → ℕ) (v : Value) (x : Term) → SaysValue S ns v x → value_of S (number_under a x) ≡ moved (moved_by a) v
  value_says a (Const t) x s = rw s.1 s.3
  value_says a (Null k) x s = rw s refl

  values_say : (a : ℕ → ℕ) (row : List Value) (terms : List Term) → AllZip (SaysValue S ns) row terms → shown_row S (map (number_under a) terms) ≡ map (moved (moved_by a)) row
  values_say a [] [] z = refl
  values_say a [] (x ∷ terms) z = absurd z
  values_say a (v ∷ row) [] z = absurd z
  values_say a (v ∷ row) (x ∷ terms) z =
      let first = value_says a v x z.0 in
      let others = values_say a row terms z.1 in
      (λ i. first i ∷ others i)

-- ---- the question

module _ (S : List Value) (ts : List NumberTable) (fit : PartsFit S ts) (J : List TableRows) (shows : shown_tables S ts ≡ J) (ns : List NullId) (F : List Fact)
    (known : Each F (λ f. AllKnown ns f.row)) (fits : Each F (HasTableIn J)) where
  table_there : (t : ℕ) → t < length J → t < length ts
  table_there t h = let l : length J ≡ length ts = sym (ap length shows) ∙ length-map ts (shown S) in subst (λ (n : ℕ). t < n) l h

  table_shown : (t : ℕ) → t < length ts → table_at J t ≡ shown S (numbers_of_table ts t)
  table_shown t h = sym (ap (λ (I : List TableRows). table_at I t) shows) ∙ get_or-map (shown S) ts t (record { width = 0; rows = [] }) (record { width = 0; rows = [] }) h

  rows_shown : (t : ℕ) → t < length ts → rows_of J t ≡ map (shown_row S) (numbers_of_table ts t).rows
  rows_shown t h = ap (λ (u : TableRows). u.rows) (table_shown t h)

  below : (t : ℕ) (r : List ℕ) → t < length ts → r ∈ (numbers_of_table ts t).rows → NumbersBelow (length S) r
  below t r h m = (fit.each (numbers_of_table ts t) (in_at ts t (record { width = 0; rows = [] }) h)).within r m

  -- the row of numbers that shows a fact
  shown_by : (f : Fact) → f ∈ facts J → (r : List ℕ) × (r ∈ (numbers_of_table ts f.table).rows) × (shown_row S r ≡ f.row)
  shown_by f m =
      let t = table_there f.table (fact_table J f m) in
      from_map (shown_row S) (numbers_of_table ts f.table).rows (subst (λ (rs : List (List Value)). f.row ∈ rs) (rows_shown f.table t) (row_from_fact J f m))

  -- a constant without a number is nowhere
  pub stranger_stays : ((f : Fact) × (f ∈ F) × HasStranger S f.row) → IsTrue false ↔ CanMove F (facts J)
  stranger_stays w = (
    (λ t. absurd (false≢true t)),
    (λ c. absurd (no_stranger c.0 w.2.0 w.2.2 (there_is c.0 (c.1 w.0 w.1)))),
  )
    where
      there_is : (g : NullId → Value) → fact_moved g w.0 ∈ facts J → moved g w.2.0 ∈ S
      there_is g m =
          let r = shown_by (fact_moved g w.0) m in
          let t = table_there w.0.table (fact_table J (fact_moved g w.0) m) in
          let n = from_map (value_of S) r.0 (subst (λ (vs : List Value). moved g w.2.0 ∈ vs) (sym r.2) (in_map (moved g) w.2.1)) in
          there_at S n.0 (moved g w.2.0) (below w.0.table r.0 t r.1 n.0 n.1) n.2

      no_stranger : (g : NullId → Value) (v : Value) → IsStranger S v → ¬ (moved g v ∈ S)
      no_stranger g (Const t) n m = n m
      no_stranger g (Null k) n m = n

  module _ (all : List PatternAtom) (zip : AllZip (SaysFact S ns) F all) where
    -- the atoms fit
    pub atoms_wide : Each all (FitsAtom ts (length ns))
    atoms_wide p m =
        let f = from_zip (SaysFact S ns) F all p zip m in
        let k = fits f.0 f.1 in
        let t = table_there f.0.table k.table in record {
          table = rw f.2.table t;
          width = rw f.2.table (sym (zip_long (SaysValue S ns) f.0.row p.terms f.2.terms) ∙ (k.width ∙ ap (λ (u : TableRows). u.width) (table_shown f.0.table t)));
          variables = λ v i. inside f.0.row p.terms (known f.0 f.1) f.2.terms v i;
        }
      where
        one : (x : Value) (v : ℕ) → ((n : NullId) → x ≡ Null n → n ∈ ns) → SaysValue S ns x (Variable v) → v < length ns
        one (Const t) v k s = let e = s.1 in absurd (cc e)
        one (Null n) v k s =
            let e : place_in ns n ≡ v = cc s in
            let h = (place_there ns n (k n refl)).0 in
            subst (λ (i : ℕ). i < length ns) e h

        inside : (row : List Value) (terms : List Term) → AllKnown ns row → AllZip (SaysValue S ns) row terms → (v : ℕ) → Variable v ∈ terms → v < length ns
        inside [] [] k z v i = elim i [ ]
        inside [] (x ∷ terms) k z v i = absurd z
        inside (x ∷ row) [] k z v i = absurd z
        inside (x ∷ row) (y ∷ terms) k z v (here e) = one x v (λ n d. k n (here d)) (subst (SaysValue S ns x) e z.0)
        inside (x ∷ row) (y ∷ terms) k z v (there i) = inside row terms (λ n j. k n (there j)) z.1 v i

    fact_stands : (g : NullId → Value) (f : Fact) (p : PatternAtom) → f ∈ F → SaysFact S ns f p → fact_moved g f ∈ facts J → HasImageRow ts [] (numbers_by S fit.apart ns g) p
    fact_stands g f p i s m =
        let t = table_there f.table (fact_table J (fact_moved g f) m) in
        let r = shown_by (fact_moved g f) m in
        let w = row_place (numbers_of_table ts f.table).rows r.0 r.1 in
        let e : r.0 ≡ row_under (numbers_by S fit.apart ns g) p = row_says S fit.apart ns g f.row p.terms r.0 (known f i) s.terms (below f.table r.0 t r.1) r.2 in
        rw s.table (w.0, w.1, refl, w.2 ∙ e)

    fact_said : (a : ℕ → ℕ) (f : Fact) (p : PatternAtom) → f ∈ F → SaysFact S ns f p → HasImageRow ts [] a p → fact_moved (moved_by S fit.apart ns a) f ∈ facts J
    fact_said a f p i s k =
        let t = table_there f.table (fits f i).table in
        let stands : HasImageRow ts [] a (record { table = f.table; terms = p.terms }) = subst (λ (u : ℕ). HasImageRow ts [] a (record { table = u; terms = p.terms })) s.table k in
        let there : row_under a p ∈ (numbers_of_table ts f.table).rows =
        subst (λ (r : List ℕ). r ∈ (numbers_of_table ts f.table).rows) stands.3 (in_at (numbers_of_table ts f.table).rows stands.0 [] stands.1) in
        let row : map (moved (moved_by S fit.apart ns a)) f.row ∈ rows_of J f.table =
        subst (λ (rs : List (List Value)). map (moved (moved_by S fit.apart ns a)) f.row ∈ rs) (sym (rows_shown f.table t))
        (subst (λ (r : List Value). r ∈ map (shown_row S) (numbers_of_table ts f.table).rows) (values_say S fit.apart ns a f.row p.terms s.terms) (in_map (shown_row S) there)) in
        fact_from_row J f.table (map (moved (moved_by S fit.apart ns a)) f.row) row

    -- they become rows exactly if the facts move
    pub stand_exactly : ((a : ℕ → ℕ) × Each all (HasImageRow ts [] a)) ↔ CanMove F (facts J)
    stand_exactly = (
      (λ w. (
        moved_by S fit.apart ns w.0,
        λ f m. let p = to_zip (SaysFact S ns) F all f zip m in fact_said w.0 f p.0 m p.2 (w.1 p.0 p.1),
      )),
      (λ c. (
        numbers_by S fit.apart ns c.0,
        λ p m. let f = from_zip (SaysFact S ns) F all p zip m in fact_stands c.0 f.0 p f.1 f.2 (c.1 f.0 f.1),
      )),
    )

    pub solved : (r : Result Bool AllocError) → IfOk r (λ b. IsTrue b ↔ ((a : ℕ → ℕ) × Each all (HasImageRow ts [] a)))
        → IfOk r (λ b. IsTrue b ↔ CanMove F (facts J))
    solved (Ok b) k = let e = stand_exactly in ((λ t. e.0 (k.0 t)), (λ c. k.1 (e.1 c)))
    solved (Err x) k = tt

-- ---- what the solver answers

pub answer_stands : {X : Type 0} (answered_by : X → ℕ → ℕ) (ts : List NumberTable) (out : List (List Bool)) (atoms : List PatternAtom) (known : List (Option ℕ)) (n : ℕ)
    (o : Option X) (b : Bool) → out ≡ [] → known ≡ replicate n nothing
    → MatchOption o ((a : ℕ → ℕ) → ¬ (Solves ts out atoms known a)) (λ xs. Solves ts out atoms known (answered_by xs)) → b ≡ is_some o
    → IsTrue b ↔ ((a : ℕ → ℕ) × Each atoms (HasImageRow ts [] a))
answer_stands f ts out atoms known n None b e k m d = (
  (λ y. absurd (true≢false (sym y ∙ d))),
  (λ w. absurd (m w.0 (record {
    stands = subst (λ (z : List (List Bool)). Each atoms (HasImageRow ts z w.0)) (sym e) w.1;
    keeps = λ v x h. absurd (none-some x (sym (ap (λ (l : List (Option ℕ)). get_or l v nothing) k ∙ none_known n v) ∙ h));
  }))),
)
answer_stands f ts out atoms known n (Some xs) b e k m d = (
  (λ y. (f xs, subst (λ (z : List (List Bool)). Each atoms (HasImageRow ts z (f xs))) e m.stands)),
  (λ w. d),
)

-- ---- the question over turned rows

zip_turned : (S : List Value) (orders : List (List ℕ)) (ns : List NullId) (F : List Fact) (all : List PatternAtom) → AllZip (SaysTurned S orders ns) F all
    → AllZip (SaysFact S ns) (map (fact_turned orders) F) all
zip_turned S orders ns [] [] z = tt
zip_turned S orders ns [] (p ∷ all) z = absurd z
zip_turned S orders ns (f ∷ F) [] z = absurd z
zip_turned S orders ns (f ∷ F) (p ∷ all) z = (z.0, zip_turned S orders ns F all z.1)

module _ (I : List TableRows) (orders : List (List ℕ)) (J : List TableRows) (turns : IsTurned I orders J)
    (wide_rows : Each I (λ (u : TableRows). Each u.rows (λ (r : List Value). length r ≡ u.width)))
    (S : List Value) (ts : List NumberTable) (fit : PartsFit S ts) (shows : shown_tables S ts ≡ J)
    (ns : List NullId) (F : List Fact) (known : Each F (λ f. AllKnown ns f.row)) (fits : Each F (HasTableIn I)) where
  abbrev G : List Fact
  G = map (fact_turned orders) F

  known_turned : Each G (λ f. AllKnown ns f.row)
  known_turned e m =
      let f = from_map (fact_turned orders) F m in
      subst (λ (x : Fact). AllKnown ns x.row) f.2
      (λ n i. known f.0 f.1 n (from_turned (order_at orders f.0.table) f.0.row (Null n) (can_turn I orders J turns wide_rows f.0 (fits f.0 f.1)).columns i))

  fits_turned : Each G (HasTableIn J)
  fits_turned e m =
      let f = from_map (fact_turned orders) F m in
      subst (HasTableIn J) f.2 (turned_fits I orders J turns wide_rows f.0 (fits f.0 f.1))

  pub none_moves : HasStrangerIn S orders F → IsTrue false ↔ CanMove F (facts I)
  none_moves w =
      let there : (f : Fact) × (f ∈ G) × HasStranger S f.row = (fact_turned orders w.0, in_map (fact_turned orders) w.1, w.2) in
      let k = stranger_stays S ts fit J shows ns G known_turned fits_turned there in
      let e = turned_exactly I orders J turns wide_rows F fits in
      ((λ t. e.0 (k.0 t)), (λ c. k.1 (e.1 c)))

  module _ (all : List PatternAtom) (zip : AllZip (SaysTurned S orders ns) F all) where
    pub some_fit : Each all (FitsAtom ts (length ns))
    some_fit = atoms_wide S ts fit J shows ns G known_turned fits_turned all (zip_turned S orders ns F all zip)

    pub some_move : (r : Result Bool AllocError) → IfOk r (λ b. IsTrue b ↔ ((a : ℕ → ℕ) × Each all (HasImageRow ts [] a))) → IfOk r (λ b. IsTrue b ↔ CanMove F (facts I))
    some_move (Ok b) h =
        let k = solved S ts fit J shows ns G known_turned fits_turned all (zip_turned S orders ns F all zip) (Ok b) h in
        let e = turned_exactly I orders J turns wide_rows F fits in
        ((λ t. e.0 (k.0 t)), (λ c. k.1 (e.1 c)))
    some_move (Err x) h = tt

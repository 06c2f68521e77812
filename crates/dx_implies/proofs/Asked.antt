-- A conclusion in an instance of values, and its atoms of numbers among rows of numbers.
use Rattle.std.proofs.Common.{◌≡◌, ◌↔◌, ◌∙◌, ℕ, zero, suc, ◌+◌, ◌<◌, ◌++◌, take, Bool, false, List, [], ◌∷◌, length, get_or, refl, sym, ap, subst, arith, Result, Ok, Err}
use Rattle.std.specs.Prelude.{IfOk, IsTrue, MatchOption, None, Option, Some, map, replicate, is_some}
use Rattle.std.specs.List.{AllZip}
use Rattle.std.proofs.lemmas.Bool.{true≢false}
use Rattle.std.proofs.lemmas.List.{length-map, take_more}
use Rattle.std.proofs.lemmas.Option.{none-some}
use Rattle.std.specs.declared.alloc.AllocError.{AllocError}
use Rattle.dx_base.specs.Members.{◌∈◌, here, there, Each}
use Rattle.dx_base.proofs.Members.{from_flat_map, from_map, in_at, in_map}
use Rattle.dx_model.specs.declared.values.Value.{Value}
use Rattle.dx_model.specs.declared.rules.Cell.{Cell}
use Rattle.dx_model.specs.declared.rules.Cell.TheVariants.{Var, Ex, Lit}
use Rattle.dx_model.specs.declared.rules.Atom.{Atom}
use Rattle.dx_model.specs.Fitting.{AtomsFitWidths}
use Rattle.dx_model.specs.Rules.{cell_value, cells_of, fact_of_atom}
use Rattle.dx_base.specs.Texts.{Text}
use Rattle.dx_base.proofs.Lists.{to_zip, from_zip}
use Rattle.dx_base.proofs.Options.{nothing, none_known}
use Rattle.dx_instance.specs.Cells.{NumberTable}
use Rattle.dx_instance.specs.Numbers.{ValuesDiffer, value_of}
use Rattle.dx_instance.specs.Shown.{NumbersBelow, PartsFit, numbers_of_table, shown, shown_row, shown_tables}
use Rattle.dx_instance.specs.Stored.{TableRows, facts, rows_of, table_at, widths}
use Rattle.dx_instance.proofs.NumberFacts.{there_at}
use Rattle.dx_instance.proofs.ShownFacts.{is_shown, number_same}
use Rattle.dx_instance.proofs.StoredFacts.{fact_from_row, fact_table, row_from_fact}
use Rattle.dx_instance.proofs.ValueNumbers.{number_of, number_back, row_place}
use Rattle.dx_tgd.proofs.Tables.{wide_table}
use Rattle.dx_solver.specs.declared.atom.Term.{Term}
use Rattle.dx_solver.specs.declared.atom.Term.TheVariants.{Variable}
use Rattle.dx_solver.specs.declared.atom.PatternAtom.{PatternAtom}
use Rattle.dx_solver.specs.Questions.{Solves, HasImageRow, number_under, row_under}
use Rattle.dx_implies.specs.Asking.{HasNowhere, IsNowhere, AtomFitsTable, SaysAtom, SaysCell}

-- ---- the number of a value

-- ---- cells and terms

module _ (S : List Value) (apart : ValuesDiffer S) (freeze : ℕ → Text) where
  number_says : (values : ℕ → Value) (c : Cell) (t : Term) (n : ℕ) → SaysCell S freeze c t → n < length S
      → value_of S n ≡ cell_value freeze values c → n ≡ number_under (λ v. number_of S (values v)) t
  number_says values (Var x) t n s h e = rw s.1 (number_same S n s.0 apart h s.2 (e ∙ sym s.3))
  number_says values (Ex v) t n s h e = rw s (sym (number_back S n apart h) ∙ ap (number_of S) e)
  number_says values (Lit x) t n s h e = rw s.1 (number_same S n s.0 apart h s.2 (e ∙ sym s.3))

  row_says : (values : ℕ → Value) (cells : List Cell) (terms : List Term) (r : List ℕ) → AllZip (SaysCell S freeze) cells terms
      → NumbersBelow (length S) r → shown_row S r ≡ map (cell_value freeze values) cells
      → r ≡ map (number_under (λ v. number_of S (values v))) terms
  row_says values [] [] [] z w e = refl
  row_says values [] [] (n ∷ r) z w e = cc e
  row_says values [] (t ∷ terms) r z w e = absurd z
  row_says values (c ∷ cells) [] r z w e = absurd z
  row_says values (c ∷ cells) (t ∷ terms) [] z w e = cc e
  row_says values (c ∷ cells) (t ∷ terms) (n ∷ r) z w e =
      let first : value_of S n ≡ cell_value freeze values c = cc in
      let others : shown_row S r ≡ map (cell_value freeze values) cells = cc in
      let a = number_says values c t n z.0 (w n (here refl)) first in
      let b = row_says values cells terms r z.1 (λ x m. w x (there m)) others in
      (λ i. a i ∷ b i)

  value_says : (a : ℕ → ℕ) (c : Cell) (t : Term) → SaysCell S freeze c t
      → value_of S (number_under a t) ≡ cell_value freeze (λ v. value_of S (a v)) c
  value_says a (Var x) t s = rw s.1 s.3
  value_says a (Ex v) t s = rw s refl
  value_says a (Lit x) t s = rw s.1 s.3

  values_say : (a : ℕ → ℕ) (cells : List Cell) (terms : List Term) → AllZip (SaysCell S freeze) cells terms
      → shown_row S (map (number_under a) terms) ≡ map (cell_value freeze (λ v. value_of S (a v))) cells
  values_say a [] [] z = refl
  values_say a [] (t ∷ terms) z = absurd z
  values_say a (c ∷ cells) [] z = absurd z
  values_say a (c ∷ cells) (t ∷ terms) z =
      let first = value_says a c t z.0 in
      let others = values_say a cells terms z.1 in
      (λ i. first i ∷ others i)

-- ---- members of lists that go together

-- an item doesn't depend on what stands for one that is not there
pub same_default : {X : Type 0} (us : List X) (k : ℕ) (d e : X) → k < length us → get_or us k d ≡ get_or us k e
same_default [] k d e l = absurd (omega (arith, l))
same_default (u ∷ us) zero d e l = refl
same_default (u ∷ us) (suc k) d e l = same_default us k d e (omega (arith, l))

-- ---- tables

module _ (S : List Value) (ts : List NumberTable) (fit : PartsFit S ts) (freeze : ℕ → Text) where
  abbrev I : List TableRows
  I = shown_tables S ts

  rows_shown : (t : ℕ) → t < length ts → rows_of I t ≡ map (shown_row S) (numbers_of_table ts t).rows
  rows_shown t h =
      ap (λ (u : TableRows). u.rows)
      (is_shown S ts t (numbers_of_table ts t) h (same_default ts t (record { width = 0; rows = [] }) (numbers_of_table ts t) h))

  table_there : (t : ℕ) → t < length I → t < length ts
  table_there t h = let l : length I ≡ length ts = length-map ts (shown S) in subst (λ (n : ℕ). t < n) l h

  below : (t : ℕ) (r : List ℕ) → t < length ts → r ∈ (numbers_of_table ts t).rows → NumbersBelow (length S) r
  below t r h m = (fit.each (numbers_of_table ts t) (in_at ts t (record { width = 0; rows = [] }) h)).within r m

  -- an atom of a conclusion, and what says it
  atom_stands : (values : ℕ → Value) (a : Atom) (p : PatternAtom) → SaysAtom S freeze a p → fact_of_atom freeze values a ∈ facts I
      → HasImageRow ts [] (λ v. number_of S (values v)) p
  atom_stands values a p s m =
      let t : a.table < length ts = table_there a.table (fact_table I (fact_of_atom freeze values a) m) in
      let r = from_map (shown_row S) (numbers_of_table ts a.table).rows
      (subst (λ (rs : List (List Value)). map (cell_value freeze values) a.cells ∈ rs) (rows_shown a.table t) (row_from_fact I (fact_of_atom freeze values a) m)) in
      let w = row_place (numbers_of_table ts a.table).rows r.0 r.1 in
      let e : r.0 ≡ row_under (λ v. number_of S (values v)) p = row_says S fit.apart freeze values a.cells p.terms r.0 s.cells (below a.table r.0 t r.1) r.2 in
      rw s.table (w.0, w.1, refl, w.2 ∙ e)

  atom_said : (f : ℕ → ℕ) (a : Atom) (p : PatternAtom) → a.table < length ts → SaysAtom S freeze a p → HasImageRow ts [] f p
      → fact_of_atom freeze (λ v. value_of S (f v)) a ∈ facts I
  atom_said f a p t s k =
      let stands : HasImageRow ts [] f (record { table = a.table; terms = p.terms }) = subst (λ (u : ℕ). HasImageRow ts [] f (record { table = u; terms = p.terms })) s.table k in
      let there : row_under f p ∈ (numbers_of_table ts a.table).rows =
      subst (λ (r : List ℕ). r ∈ (numbers_of_table ts a.table).rows) stands.3 (in_at (numbers_of_table ts a.table).rows stands.0 [] stands.1) in
      let row : map (cell_value freeze (λ v. value_of S (f v))) a.cells ∈ rows_of I a.table =
      rw (rows_shown a.table t) (subst (λ (r : List Value). r ∈ map (shown_row S) (numbers_of_table ts a.table).rows) (values_say S fit.apart freeze f a.cells p.terms s.cells) (in_map (shown_row S) there)) in
      fact_from_row I a.table (map (cell_value freeze (λ v. value_of S (f v))) a.cells) row

  -- a text that no number stands for is in no row
  pub cell_somewhere : (values : ℕ → Value) (a : Atom) (c : Cell) → fact_of_atom freeze values a ∈ facts I → c ∈ a.cells → cell_value freeze values c ∈ S
  cell_somewhere values a c m k =
      let t : a.table < length ts = table_there a.table (fact_table I (fact_of_atom freeze values a) m) in
      let r = from_map (shown_row S) (numbers_of_table ts a.table).rows
      (subst (λ (rs : List (List Value)). map (cell_value freeze values) a.cells ∈ rs) (rows_shown a.table t) (row_from_fact I (fact_of_atom freeze values a) m)) in
      let n = from_map (value_of S) r.0 (rw r.2 (in_map (cell_value freeze values) k)) in
      there_at S n.0 (cell_value freeze values c) (below a.table r.0 t r.1 n.0 n.1) n.2

  nowhere_said : (values : ℕ → Value) (a : Atom) (c : Cell) → fact_of_atom freeze values a ∈ facts I → c ∈ a.cells → ¬ (IsNowhere S freeze c)
  nowhere_said values a (Var x) m k n = n (cell_somewhere values a (Var x) m k)
  nowhere_said values a (Ex v) m k n = n
  nowhere_said values a (Lit s) m k n = n (cell_somewhere values a (Lit s) m k)

  module _ (atoms : List Atom) (wide : AtomsFitWidths (widths I) atoms) where
    pub none_stand : HasNowhere S freeze (cells_of atoms) → ¬ ((values : ℕ → Value) × Each atoms (λ a. fact_of_atom freeze values a ∈ facts I))
    none_stand n w =
        let a = from_flat_map (λ (a : Atom). a.cells) atoms n.1 in
        nowhere_said w.0 a.0 n.0 (w.1 a.0 a.1) a.2 n.2

    pub all_wide : (all : List PatternAtom) → AllZip (SaysAtom S freeze) atoms all → Each all (AtomFitsTable ts)
    all_wide all z p m =
        let a = from_zip (SaysAtom S freeze) atoms all p z m in
        let w = wide_table I a.0.table (length a.0.cells) (wide a.0 a.1) in
        let t = table_there a.0.table w.0 in
        record {
          table = rw a.2.table t;
          width = rw a.2.table (sym (length_zip (SaysCell S freeze) a.0.cells p.terms a.2.cells) ∙ (sym w.1 ∙ wide_shown a.0.table t));
        }
      where
        length_zip : {X Y : Type 0} (R : X → Y → Type 0) (xs : List X) (ys : List Y) → AllZip R xs ys → length xs ≡ length ys
        length_zip R [] [] z = refl
        length_zip R [] (y ∷ ys) z = absurd z
        length_zip R (x ∷ xs) [] z = absurd z
        length_zip R (x ∷ xs) (y ∷ ys) z = ap suc (length_zip R xs ys z.1)

        shown_width : (us : List NumberTable) (k : ℕ) → k < length us → (table_at (shown_tables S us) k).width ≡ (numbers_of_table us k).width
        shown_width [] k l = absurd (omega (arith, l))
        shown_width (u ∷ us) zero l = refl
        shown_width (u ∷ us) (suc k) l = shown_width us k (omega (arith, l))

        wide_shown : (t : ℕ) → t < length ts → (table_at I t).width ≡ (numbers_of_table ts t).width
        wide_shown t h = shown_width ts t h

    pub all_stand : (all : List PatternAtom) → AllZip (SaysAtom S freeze) atoms all
        → ((values : ℕ → Value) × Each atoms (λ a. fact_of_atom freeze values a ∈ facts I)) ↔ ((f : ℕ → ℕ) × Each all (HasImageRow ts [] f))
    all_stand all z = (
      (λ w. (
        (λ v. number_of S (w.0 v)),
        λ p m. let a = from_zip (SaysAtom S freeze) atoms all p z m in atom_stands w.0 a.0 p a.2 (w.1 a.0 a.1),
      )),
      (λ w. (
        (λ v. value_of S (w.0 v)),
        λ a m.
            let p = to_zip (SaysAtom S freeze) atoms all a z m in
            atom_said w.0 a p.0 (table_there a.table (wide_table I a.table (length a.cells) (wide a m)).0) p.2 (w.1 p.0 p.1),
      )),
    )

pub same_variable : (v w : ℕ) → ◌≡◌ {A = Term} (Variable v) (Variable w) → v ≡ w
same_variable v w e = cc

-- one item more of each
pub zip_more : {X Y : Type 0} (R : X → Y → Type 0) (xs : List X) (ys : List Y) (i : ℕ) (x : X) (y : Y) → i < length xs → x ≡ get_or xs i x
    → AllZip R (take i xs) ys → R x y → AllZip R (take (i + 1) xs) (ys ++ y ∷ [])
zip_more {X} {Y} R xs ys i x y h e z r =
    subst (λ (l : List X). AllZip R l (ys ++ y ∷ [])) (ap (λ (w : X). take i xs ++ w ∷ []) e ∙ sym (take_more xs i x h)) (push (take i xs) ys z)
  where
    push : (us : List X) (vs : List Y) → AllZip R us vs → AllZip R (us ++ x ∷ []) (vs ++ y ∷ [])
    push [] [] z = (r, tt)
    push [] (v ∷ vs) z = absurd z
    push (u ∷ us) [] z = absurd z
    push (u ∷ us) (v ∷ vs) z = (z.0, push us vs z.1)

-- ---- what the solver answers

pub answer_stands : {X : Type 0} (answered_by : X → ℕ → ℕ) (ts : List NumberTable) (out : List (List Bool)) (atoms : List PatternAtom) (known : List (Option ℕ)) (n : ℕ)
    (o : Option X) (b : Bool) → out ≡ [] → known ≡ replicate n nothing
    → MatchOption o ((a : ℕ → ℕ) → ¬ (Solves ts out atoms known a)) (λ xs. Solves ts out atoms known (answered_by xs)) → b ≡ is_some o
    → IsTrue b ↔ ((a : ℕ → ℕ) × Each atoms (HasImageRow ts [] a))
answer_stands f ts out atoms known n None b e k m d = (
  (λ y. absurd (true≢false (sym y ∙ d))),
  (λ w. absurd (m w.0 (record {
    stands = subst (λ (z : List (List Bool)). Each atoms (HasImageRow ts z w.0)) (sym e) w.1;
    keeps = λ v x h. absurd (none-some x (sym (ap (λ (l : List (Option ℕ)). get_or l v nothing) k ∙ none_known n v) ∙ h));
  }))),
)
answer_stands f ts out atoms known n (Some xs) b e k m d = (
  (λ y. (f xs, subst (λ (z : List (List Bool)). Each atoms (HasImageRow ts z (f xs))) e m.stands)),
  (λ w. d),
)

-- ---- whether a conclusion stands in an instance

module _ (S : List Value) (ts : List NumberTable) (fit : PartsFit S ts) (freeze : ℕ → Text) (J : List TableRows) (atoms : List Atom) (shows : shown_tables S ts ≡ J)
    (wide : AtomsFitWidths (widths J) atoms) where
  abbrev Said : List TableRows → Type 0
  Said K = (values : ℕ → Value) × Each atoms (λ a. fact_of_atom freeze values a ∈ facts K)

  wide_shown : AtomsFitWidths (widths (shown_tables S ts)) atoms
  wide_shown = subst (λ (K : List TableRows). AtomsFitWidths (widths K) atoms) (sym shows) wide

  pub told_none : HasNowhere S freeze (cells_of atoms) → IsTrue false ↔ Said J
  told_none n = (
    (λ y. absurd (true≢false (sym y))),
    (λ w. absurd (none_stand S ts fit freeze atoms wide_shown n (subst Said (sym shows) w))),
  )

  pub told_some : (all given : List PatternAtom) (r : Result Bool AllocError) → given ≡ all → AllZip (SaysAtom S freeze) atoms all
      → IfOk r (λ b. IsTrue b ↔ ((a : ℕ → ℕ) × Each given (HasImageRow ts [] a))) → IfOk r (λ b. IsTrue b ↔ Said J)
  told_some all given (Ok b) e z h =
      let k : IsTrue b ↔ ((a : ℕ → ℕ) × Each all (HasImageRow ts [] a)) = subst (λ (ps : List PatternAtom). IsTrue b ↔ ((a : ℕ → ℕ) × Each ps (HasImageRow ts [] a))) e h in
      let s = all_stand S ts fit freeze atoms wide_shown all z in
      ((λ y. subst Said shows (s.1 (k.0 y))), (λ w. k.1 (s.0 (subst Said (sym shows) w))))
  told_some all given (Err x) e z h = tt

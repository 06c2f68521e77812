-- Matches over texts and over numbers.
use Rattle.std.proofs.Common.{◌≡◌, ◌∙◌, ◌<◌, ◌+◌, ◌^◌, ◌++◌, ◌∷◌, ℕ, zero, suc, cond, List, [], Bool, true, false, refl, sym, ap, subst, arith, length, get_or, take, inl, inr, Some, slice_get, Result, Ok, Err, Option, None}
use Rattle.std.specs.Prelude.{map, flat_map, IfOk, MatchOption}
use Rattle.std.specs.declared.alloc.AllocError.{AllocError}
use Rattle.std.proofs.lemmas.Bool.{cases_Bool, true≢false}
use Rattle.std.proofs.lemmas.List.{get_or-map, length-map, append-nil, take_more}
use Rattle.dx_base.specs.Members.{◌∈◌, ◌⊆◌, here, there, Each, Distinct}
use Rattle.dx_base.proofs.Members.{in_map, from_map, in_at, in_flat_map, from_flat_map}
use Rattle.dx_base.proofs.Tests.{map_same}
use Rattle.dx_model.specs.declared.values.Value.{Value}
use Rattle.dx_model.specs.declared.values.Value.TheVariants.{Const, Null}
use Rattle.dx_model.specs.declared.rules.Cell.{Cell}
use Rattle.dx_model.specs.declared.rules.Cell.TheVariants.{Var, Ex, Lit}
use Rattle.dx_model.specs.declared.rules.Atom.{Atom}
use Rattle.dx_model.specs.Values.{Conversions, Tuple}
use Rattle.dx_base.specs.Texts.{Text}
use Rattle.std.proofs.lemmas.Simd.{map-map}
use Rattle.dx_model.specs.Rules.{cell_value, cells_of, premise_fact, after_cells}
use Rattle.dx_model.specs.Fitting.{IsVariable, cell_variable}
use Rattle.dx_instance.specs.Stored.{facts, rows_of, widths}
use Rattle.dx_instance.specs.Numbers.{ValuesDiffer, value_of}
use Rattle.dx_model.specs.Covers.{same_value}
use Rattle.dx_model.proofs.Before.{same_value-refl, same_value-true}
use Rattle.dx_instance.specs.Cells.{NumberTable}
use Rattle.dx_instance.specs.Shown.{NumbersBelow, PartsFit, numbers_of_table, shown_row, shown_tables, shown}
use Rattle.dx_instance.proofs.ShownFacts.{number_same, row_same}
use Rattle.dx_instance.proofs.StoredFacts.{row_from_fact, fact_from_row}
use Rattle.dx_joins.specs.declared.pattern.Pattern.{Pattern}
use Rattle.dx_joins.specs.Collecting.{MoreThan}
use Rattle.dx_joins.specs.Joining.{AllMarked, MatchesPatterns, MatchesPattern, variables_of_patterns}
use Rattle.dx_joins.specs.Planning.{FitPattern, IsMatchRow, HasMatchRows}
use Rattle.dx_joins.specs.Shown.{ArePatterns, AllTexts, IsPattern, IsMatchTuple, MoreTuples, StandFor, is_text, texts_of}
use Rattle.dx_instance.specs.Ranks.{text_of_value}
use Rattle.dx_joins.proofs.Distincts.{distinct_map}

-- ---- distinct tuples

pub text_back : (v : Value) → is_text v ≡ true → Const (text_of_value v) ≡ v
text_back (Const t) e = refl
text_back (Null n) e = absurd (cc e)

shown_texts : (S : List Value) (row : List ℕ) → AllTexts S row → map Const (texts_of S row) ≡ shown_row S row
shown_texts S [] h = refl
shown_texts S (n ∷ row) h =
    let first = text_back (value_of S n) (h n (here refl)).1 in
    let rest = shown_texts S row (λ m k. h m (there k)) in
    cc (first, rest)

pub texts_same : (S : List Value) (a b : List ℕ) → ValuesDiffer S → AllTexts S a → AllTexts S b → texts_of S a ≡ texts_of S b → a ≡ b
texts_same S a b p h k e = row_same S a b p (λ n m. (h n m).0) (λ n m. (k n m).0) (sym (shown_texts S a h) ∙ ap (map Const) e ∙ shown_texts S b k)

pub distinct_texts : (S : List Value) (rows : List (List ℕ)) → ValuesDiffer S → Each rows (AllTexts S) → Distinct rows → Distinct (map (texts_of S) rows)
distinct_texts S rows p w once = distinct_map (texts_of S) rows (λ a b m k e. texts_same S a b p (w a m) (w b k) e) once

-- ---- numbers of values

abbrev pub number_in : List Value → Value → ℕ
number_in [] v = 0
number_in (w ∷ ws) v = cond (same_value w v) 0 (suc (number_in ws v))

pub number_there : (S : List Value) (v : Value) → v ∈ S → (number_in S v < length S) × (value_of S (number_in S v) ≡ v)
number_there [] v m = elim m [ ]
number_there (w ∷ ws) v m = elim (cases_Bool (same_value w v)) [
  | inl t ↦ rw t (omega arith, same_value-true w v t)
  | inr f ↦ let r = number_there ws v (rest m f) in rw f (omega (arith, r.0), r.1)
]
  where
    self : (u : Value) → same_value u u ≡ false → ⊥
    self u e = true≢false (sym (same_value-refl u) ∙ e)

    rest : v ∈ (w ∷ ws) → same_value w v ≡ false → v ∈ ws
    rest (here e) f = absurd (self v (subst (λ (u : Value). same_value u v ≡ false) e f))
    rest (there k) f = k

pub number_is : (S : List Value) (n : ℕ) (v : Value) → ValuesDiffer S → n < length S → value_of S n ≡ v → number_in S v ≡ n
number_is S n v p h e =
    let r = number_there S v (subst (λ (u : Value). u ∈ S) e (in_at S n (Const []) h)) in
    number_same S (number_in S v) n p r.0 h (r.1 ∙ sym e)

-- ---- rows of tables

pub rows_shown : (S : List Value) (ts : List NumberTable) (t : ℕ) → rows_of (shown_tables S ts) t ≡ map (shown_row S) (numbers_of_table ts t).rows
rows_shown S [] t = refl
rows_shown S (u ∷ ts) zero = refl
rows_shown S (u ∷ ts) (suc t) = rows_shown S ts t

pub table_in : (ts : List NumberTable) (t : ℕ) (r : List ℕ) → r ∈ (numbers_of_table ts t).rows → numbers_of_table ts t ∈ ts
table_in [] t r m = elim m [ ]
table_in (u ∷ ts) zero r m = here refl
table_in (u ∷ ts) (suc t) r m = there (table_in ts t r m)

marked_at : (S : List Value) (n : ℕ) → n < length S → get_or (map is_text S) n false ≡ is_text (value_of S n)
marked_at S n h = get_or-map is_text S n (Const []) false h

-- ---- atoms and patterns

plain_row : (texts : ℕ → Text) (values : ℕ → Value) (cells : List Cell) → Each cells IsVariable → map (cell_value texts values) cells ≡ map (λ x. Const (texts x)) (flat_map cell_variable cells)
plain_row texts values [] h = refl
plain_row texts values (Var x ∷ cells) h = let r = plain_row texts values cells (λ c m. h c (there m)) in cc r
plain_row texts values (Ex v ∷ cells) h = absurd (h (Ex v) (here refl))
plain_row texts values (Lit t ∷ cells) h = absurd (h (Lit t) (here refl))

pub plain_length : (cells : List Cell) → Each cells IsVariable → length (flat_map cell_variable cells) ≡ length cells
plain_length [] h = refl
plain_length (Var x ∷ cells) h = let r = plain_length cells (λ c m. h c (there m)) in omega (arith, r)
plain_length (Ex v ∷ cells) h = absurd (h (Ex v) (here refl))
plain_length (Lit t ∷ cells) h = absurd (h (Lit t) (here refl))

pub pattern_there : (atoms : List Atom) (ps : List Pattern) → ArePatterns atoms ps → (a : Atom) → a ∈ atoms → (p : Pattern) × (p ∈ ps) × IsPattern a p
pattern_there [] ps h a m = elim m [ ]
pattern_there (b ∷ atoms) [] h a m = absurd h
pattern_there (b ∷ atoms) (p ∷ ps) h a (here e) = (p, here refl, subst (λ (c : Atom). IsPattern c p) e h.0)
pattern_there (b ∷ atoms) (p ∷ ps) h a (there m) = let r = pattern_there atoms ps h.1 a m in (r.0, there r.1, r.2)

pub atom_there : (atoms : List Atom) (ps : List Pattern) → ArePatterns atoms ps → (p : Pattern) → p ∈ ps → (a : Atom) × (a ∈ atoms) × IsPattern a p
atom_there [] [] h p m = elim m [ ]
atom_there [] (q ∷ ps) h p m = absurd h
atom_there (b ∷ atoms) [] h p m = elim m [ ]
atom_there (b ∷ atoms) (q ∷ ps) h p (here e) = (b, here refl, subst (λ (c : Pattern). IsPattern b c) e h.0)
atom_there (b ∷ atoms) (q ∷ ps) h p (there m) = let r = atom_there atoms ps h.1 p m in (r.0, there r.1, r.2)

pub pattern_variables : (atoms : List Atom) (ps : List Pattern) → ArePatterns atoms ps → variables_of_patterns ps ≡ flat_map cell_variable (cells_of atoms)
pattern_variables [] [] h = refl
pattern_variables [] (q ∷ ps) h = absurd h
pattern_variables (b ∷ atoms) [] h = absurd h
pattern_variables (b ∷ atoms) (q ∷ ps) h = ap (λ (l : List ℕ). l ++ variables_of_patterns ps) h.0.variables ∙ ap (λ (l : List ℕ). flat_map cell_variable b.cells ++ l) (pattern_variables atoms ps h.1) ∙ sym (split b.cells (cells_of atoms))
  where
    split : (xs ys : List Cell) → flat_map cell_variable (xs ++ ys) ≡ flat_map cell_variable xs ++ flat_map cell_variable ys
    split [] ys = refl
    split (Var x ∷ xs) ys = ap (λ (l : List ℕ). x ∷ l) (split xs ys)
    split (Ex v ∷ xs) ys = split xs ys
    split (Lit t ∷ xs) ys = split xs ys

module _ (S : List Value) (T : List NumberTable) (fits : PartsFit S T) where
  -- numbers that say an atom give texts that say it
  stands_fact : (numbers : ℕ → ℕ) (a : Atom) (p : Pattern) → Each a.cells IsVariable → IsPattern a p → MatchesPattern T (map is_text S) numbers p → premise_fact (λ x. text_of_value (value_of S (numbers x))) a ∈ facts (shown_tables S T)
  stands_fact numbers a p plain q h =
      let tab = numbers_of_table T p.table in
      let fit = fits.each tab (table_in T p.table (map numbers p.variables.items) h.0) in
      let below = fit.within (map numbers p.variables.items) h.0 in
      let texts : ℕ → Text = λ x. text_of_value (value_of S (numbers x)) in
      let row : map (λ x. Const (texts x)) p.variables.items ≡ shown_row S (map numbers p.variables.items) = map_same (λ x. Const (texts x)) (λ x. value_of S (numbers x)) p.variables.items (λ x m.
      let k = in_map numbers m in text_back (value_of S (numbers x)) (sym (marked_at S (numbers x) (below (numbers x) k)) ∙ h.1 (numbers x) k)) ∙ sym (map-map (value_of S) numbers p.variables.items) in
      let said : map (cell_value texts (λ _. Const [])) a.cells ≡ shown_row S (map numbers p.variables.items) = plain_row texts (λ _. Const []) a.cells plain ∙ ap (map (λ x. Const (texts x))) (sym q.variables) ∙ row in
      let there_shown : shown_row S (map numbers p.variables.items) ∈ rows_of (shown_tables S T) a.table = rw (rows_shown S T a.table, ← q.table) (in_map (shown_row S) h.0) in
      fact_from_row (shown_tables S T) a.table (map (cell_value texts (λ _. Const [])) a.cells) (rw said there_shown)

  matched : (texts : ℕ → Text) (vs r : List ℕ) → NumbersBelow (length S) r → shown_row S r ≡ map (λ x. Const (texts x)) vs
      → (map (λ x. number_in S (Const (texts x))) vs ≡ r) × AllMarked (map is_text S) r × ((x : ℕ) → x ∈ vs → Const (texts x) ∈ S)
  matched texts [] [] b e = (refl, (λ n m. none m), (λ x m. none m))
    where
      none : {Z : Type 0} {x : ℕ} → x ∈ [] → Z
      none m = elim m [ ]
  matched texts [] (n ∷ r) b e = absurd (cc e)
  matched texts (x ∷ vs) [] b e = absurd (cc e)
  matched texts (x ∷ vs) (n ∷ r) b e =
      let h = b n (here refl) in
      let first : value_of S n ≡ Const (texts x) = cc e in
      let others : shown_row S r ≡ map (λ y. Const (texts y)) vs = cc e in
      let k = matched texts vs r (λ m i. b m (there i)) others in
      let is = number_is S n (Const (texts x)) fits.apart h first in
      (cc (is, k.0), mark n h first k.1, there_of n h first k.2)
    where
      mark : (n : ℕ) → n < length S → value_of S n ≡ Const (texts x) → AllMarked (map is_text S) r → AllMarked (map is_text S) (n ∷ r)
      mark n h f k m (here e) = rw (← e) (marked_at S n h ∙ ap is_text f)
      mark n h f k m (there i) = k m i

      there_of : (n : ℕ) → n < length S → value_of S n ≡ Const (texts x) → ((y : ℕ) → y ∈ vs → Const (texts y) ∈ S) → (y : ℕ) → y ∈ (x ∷ vs) → Const (texts y) ∈ S
      there_of n h f k y (here e) = subst (λ (z : ℕ). Const (texts z) ∈ S) e (subst (λ (v : Value). v ∈ S) f (in_at S n (Const []) h))
      there_of n h f k y (there i) = k y i

  -- texts that say an atom have numbers that say it
  fact_stands : (texts : ℕ → Text) (a : Atom) (p : Pattern) → Each a.cells IsVariable → IsPattern a p → premise_fact texts a ∈ facts (shown_tables S T)
      → MatchesPattern T (map is_text S) (λ x. number_in S (Const (texts x))) p × ((x : ℕ) → x ∈ p.variables.items → Const (texts x) ∈ S)
  fact_stands texts a p plain q m =
      let row = row_from_fact (shown_tables S T) (premise_fact texts a) m in
      let at = rw (rows_shown S T a.table, ← q.table) at row in
      let r = from_map (shown_row S) (numbers_of_table T p.table).rows at in
      let fit = fits.each (numbers_of_table T p.table) (table_in T p.table r.0 r.1) in
      let is : shown_row S r.0 ≡ map (λ x. Const (texts x)) p.variables.items = r.2 ∙ plain_row texts (λ _. Const []) a.cells plain ∙ ap (map (λ x. Const (texts x))) (sym q.variables) in
      let k = matched texts p.variables.items r.0 (fit.within r.0 r.1) is in
      (rw k.0 (r.1, k.1), k.2)

  module _ (premise : List Atom) (ps : List Pattern) (shown : List ℕ) (plain : Each premise (λ a. Each a.cells IsVariable)) (are : ArePatterns premise ps) (known : shown ⊆ variables_of_patterns ps) (convert : Conversions) where
    abbrev pub marks : List Bool
    marks = map is_text S

    shown_pattern : (x : ℕ) → x ∈ shown → (p : Pattern) × (p ∈ ps) × (x ∈ p.variables.items)
    shown_pattern x m = from_flat_map (λ (p : Pattern). p.variables.items) ps (known x m)

    row_texts : (numbers : ℕ → ℕ) → MatchesPatterns T marks ps numbers → AllTexts S (map numbers shown)
    row_texts numbers says n m =
        let r = from_map numbers shown m in
        let p = shown_pattern r.0 r.1 in
        let s = says p.0 p.1 in
        let fit = fits.each (numbers_of_table T p.0.table) (table_in T p.0.table _ s.0) in
        let k = in_map numbers p.2 in
        let below = fit.within _ s.0 (numbers r.0) k in
        subst (λ (y : ℕ). (y < length S) × (is_text (value_of S y) ≡ true)) r.2 (below, sym (marked_at S (numbers r.0) below) ∙ s.1 (numbers r.0) k)

    to_texts : (numbers : ℕ → ℕ) → MatchesPatterns T marks ps numbers → IsMatchTuple convert premise [] (facts (shown_tables S T)) shown (texts_of S (map numbers shown))
    to_texts numbers says = (
      (λ x. text_of_value (value_of S (numbers x))),
      record {
        atoms = λ a m. let r = pattern_there premise ps are a m in stands_fact numbers a r.0 (plain a m) r.2 (says r.0 r.1);
        derives = tt;
      },
      map-map (λ n. text_of_value (value_of S n)) numbers shown,
    )

    from_texts : (t : Tuple) → IsMatchTuple convert premise [] (facts (shown_tables S T)) shown t → (numbers : ℕ → ℕ) × MatchesPatterns T marks ps numbers × (texts_of S (map numbers shown) ≡ t)
    from_texts t (texts, f, e) =
        let numbers : ℕ → ℕ = λ x. number_in S (Const (texts x)) in
        let stands : (p : Pattern) → p ∈ ps → MatchesPattern T marks numbers p × ((x : ℕ) → x ∈ p.variables.items → Const (texts x) ∈ S) = λ p m. let r = atom_there premise ps are p m in fact_stands texts r.0 p (plain r.0 r.1) r.2 (f.atoms r.0 r.1) in (
          numbers,
          (λ p m. (stands p m).0),
          map-map (λ n. text_of_value (value_of S n)) numbers shown
              ∙ map_same (λ x. text_of_value (value_of S (numbers x))) texts shown (λ x m. let p = shown_pattern x m in ap text_of_value (number_there S (Const (texts x)) ((stands p.0 p.1).1 x p.2)).1) ∙ sym e,
        )

    pub told_shown : (table : NumberTable) → HasMatchRows T marks ps shown table → StandFor (length shown) (IsMatchTuple convert premise [] (facts (shown_tables S T)) shown) S table
    told_shown table h = record {
      width = h.width;
      ascend = h.ascend;
      texts = λ row m. let r = (h.exact row).0 m in rw r.2 (row_texts r.0 r.1);
      exact = λ t. (
        (λ m. let r = from_map (texts_of S) table.rows m in
            let w = (h.exact r.0).0 r.1 in
            subst (λ (u : Tuple). IsMatchTuple convert premise [] (facts (shown_tables S T)) shown u) (ap (texts_of S) (sym w.2) ∙ r.2) (to_texts w.0 w.1)),
        (λ q. let w = from_texts t q in
            subst (λ (u : Tuple). u ∈ map (texts_of S) table.rows) w.2 (in_map (texts_of S) ((h.exact (map w.0 shown)).1 (w.0, w.1, refl)))),
      );
    }

    pub more_shown : (most : ℕ) → MoreThan most (IsMatchRow T marks ps shown) → MoreTuples most (IsMatchTuple convert premise [] (facts (shown_tables S T)) shown)
    more_shown most h =
        let texts : Each h.some (AllTexts S) = λ row m. let r = h.each row m in rw r.2 (row_texts r.0 r.1) in
        let long = length-map h.some (texts_of S) in
        record {
          tuples = map (texts_of S) h.some;
          distinct = distinct_texts S h.some fits.apart texts h.distinct;
          each = λ t m. let r = from_map (texts_of S) h.some m in
              let w = h.each r.0 r.1 in
              subst (λ (u : Tuple). IsMatchTuple convert premise [] (facts (shown_tables S T)) shown u) (ap (texts_of S) (sym w.2) ∙ r.2) (to_texts w.0 w.1);
          more = let a = h.more in omega (arith, a, long);
          few = let a = h.few in omega (arith, a, long);
        }

pub result_shown : (S : List Value) (T : List NumberTable) (fits : PartsFit S T) (premise : List Atom) (ps : List Pattern) (shown : List ℕ) (plain : Each premise (λ a. Each a.cells IsVariable)) (are : ArePatterns premise ps) (known : shown ⊆ variables_of_patterns ps) (convert : Conversions)
    (marks : List Bool) (most : ℕ) (result : Result (Option NumberTable) AllocError) → marks ≡ map is_text S
    → IfOk result (λ o. MatchOption o (MoreThan most (IsMatchRow T marks ps shown)) (λ r. HasMatchRows T marks ps shown r))
    → IfOk result (λ o. MatchOption o (MoreTuples most (IsMatchTuple convert premise [] (facts (shown_tables S T)) shown)) (λ r. StandFor (length shown) (IsMatchTuple convert premise [] (facts (shown_tables S T)) shown) S r))
result_shown S T fits premise ps shown plain are known convert marks most (Err e) is k = tt
result_shown S T fits premise ps shown plain are known convert marks most (Ok None) is k = more_shown S T fits premise ps shown plain are known convert most (rw is at k)
result_shown S T fits premise ps shown plain are known convert marks most (Ok (Some r)) is k = told_shown S T fits premise ps shown plain are known convert r (rw is at k)

-- a pattern fits if its atom does
pub pattern_fits : (S : List Value) (T : List NumberTable) (a : Atom) (p : Pattern) → slice_get (widths (shown_tables S T)) a.table ≡ Some (length a.cells) → Each a.cells IsVariable → IsPattern a p → FitPattern T p
pattern_fits S T a p w plain q =
    let r = at_table T a.table w in
    record { table = rw q.table r.0; width = rw q.table (r.1 ∙ sym (ap length q.variables ∙ plain_length a.cells plain)) }
  where
    at_table : (ts : List NumberTable) (t : ℕ) → slice_get (widths (shown_tables S ts)) t ≡ Some (length a.cells) → (t < length ts) × ((numbers_of_table ts t).width ≡ length a.cells)
    at_table [] t e = absurd (cc e)
    at_table (u ∷ ts) zero e = (omega arith, cc e)
    at_table (u ∷ ts) (suc t) e = let k = at_table ts t e in (omega (arith, k.0), k.1)

pub patterns_more : (atoms : List Atom) (ps : List Pattern) (i : ℕ) (a : Atom) (p : Pattern) → i < length atoms → a ≡ get_or atoms i a → IsPattern a p → ArePatterns (take i atoms) ps → ArePatterns (take (i + 1) atoms) (ps ++ p ∷ [])
patterns_more atoms ps i a p h e q are = rw (take_more atoms i a h, ← e) (push (take i atoms) ps are)
  where
    push : (bs : List Atom) (qs : List Pattern) → ArePatterns bs qs → ArePatterns (bs ++ a ∷ []) (qs ++ p ∷ [])
    push [] [] k = (q, tt)
    push [] (z ∷ qs) k = absurd k
    push (b ∷ bs) [] k = absurd k
    push (b ∷ bs) (z ∷ qs) k = (k.0, push bs qs k.1)

pub some_patterns : (atoms : List Atom) (ps : List Pattern) → 0 < length atoms → ArePatterns atoms ps → ¬ (ps ≡ [])
some_patterns [] ps h are e = absurd (omega arith)
some_patterns (a ∷ atoms) [] h are e = are
some_patterns (a ∷ atoms) (p ∷ ps) h are e = absurd (cc e)

pub in_variables : (x : ℕ) (cs : List Cell) → Var x ∈ cs → x ∈ flat_map cell_variable cs
in_variables x cs m = in_flat_map cell_variable m (here refl)

pub all_plain : (atoms : List Atom) → Each atoms (λ a. Each a.cells IsVariable) → Each (cells_of atoms) IsVariable
all_plain atoms h c m = let r = from_flat_map (λ (a : Atom). a.cells) atoms m in h r.0 r.1 c r.2

cells_split : (xs ys : List Cell) → flat_map cell_variable (xs ++ ys) ≡ flat_map cell_variable xs ++ flat_map cell_variable ys
cells_split [] ys = refl
cells_split (Var x ∷ xs) ys = ap (λ (l : List ℕ). x ∷ l) (cells_split xs ys)
cells_split (Ex v ∷ xs) ys = cells_split xs ys
cells_split (Lit t ∷ xs) ys = cells_split xs ys

next_cells : (cells : List Cell) (i : ℕ) (c : Cell) → i < length cells → c ≡ get_or cells i c → flat_map cell_variable (take (i + 1) cells) ≡ flat_map cell_variable (take i cells) ++ flat_map cell_variable (c ∷ [])
next_cells cells i c h e = ap (flat_map cell_variable) (take_more cells i c h ∙ ap (λ (d : Cell). take i cells ++ d ∷ []) (sym e)) ∙ cells_split (take i cells) (c ∷ [])

pub variables_more_in : (cells : List Cell) (vs : List ℕ) (i : ℕ) (c : Cell) (x : ℕ) → i < length cells → c ≡ get_or cells i c → c ≡ Var x → vs ≡ flat_map cell_variable (take i cells) → vs ++ x ∷ [] ≡ flat_map cell_variable (take (i + 1) cells)
variables_more_in cells vs i c x h e d v = ap (λ (l : List ℕ). l ++ x ∷ []) v ∙ sym (next_cells cells i c h e ∙ ap (λ (k : Cell). flat_map cell_variable (take i cells) ++ flat_map cell_variable (k ∷ [])) d)

pub no_variable_in : (cells : List Cell) (vs : List ℕ) (i : ℕ) (c : Cell) → i < length cells → c ≡ get_or cells i c → ((x : ℕ) → ¬ (c ≡ Var x)) → vs ≡ flat_map cell_variable (take i cells) → vs ≡ flat_map cell_variable (take (i + 1) cells)
no_variable_in cells vs i c h e n v = v ∙ sym (next_cells cells i c h e ∙ ap (λ (l : List ℕ). flat_map cell_variable (take i cells) ++ l) (none c n) ∙ append-nil (flat_map cell_variable (take i cells)))
  where
    none : (c : Cell) → ((x : ℕ) → ¬ (c ≡ Var x)) → flat_map cell_variable (c ∷ []) ≡ []
    none (Var x) n = absurd (n x refl)
    none (Ex v) n = refl
    none (Lit t) n = refl

pub all_fit : (S : List Value) (T : List NumberTable) (premise : List Atom) (ps : List Pattern) → Each premise (λ a. slice_get (widths (shown_tables S T)) a.table ≡ Some (length a.cells)) → Each premise (λ a. Each a.cells IsVariable) → ArePatterns premise ps → Each ps (FitPattern T)
all_fit S T premise ps w plain are p m = let r = atom_there premise ps are p m in pattern_fits S T r.0 p (w r.0 r.1) (plain r.0 r.1) r.2

pub all_known : (premise : List Atom) (ps : List Pattern) (shown : List ℕ) → ArePatterns premise ps → ((x : ℕ) → x < after_cells (cells_of premise) → Var x ∈ cells_of premise) → Each shown (λ x. x < after_cells (cells_of premise) + 0) → shown ⊆ variables_of_patterns ps
all_known premise ps shown are numbered known x m =
    let b : x < after_cells (cells_of premise) = let k = known x m in omega (arith, k) in
    rw (pattern_variables premise ps are) (in_variables x (cells_of premise) (numbered x b))

pub few_variables : (premise : List Atom) (ps : List Pattern) → ArePatterns premise ps → Each premise (λ a. Each a.cells IsVariable) → length (cells_of premise) < 2 ^ 32 → length (variables_of_patterns ps) < 2 ^ 32
few_variables premise ps are plain few = omega (arith, few, ap length (pattern_variables premise ps are), plain_length (cells_of premise) (all_plain premise plain))

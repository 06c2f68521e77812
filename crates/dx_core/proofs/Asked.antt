-- Questions to the solver, and what they tell of facts.
use Rattle.std.proofs.Common.{◌≡◌, ◌∙◌, ℕ, zero, suc, ◌<◌, ◌^◌, Bool, true, false, List, [], ◌∷◌, refl, sym, ap, subst, arith, length, get_or, map}
use Rattle.std.specs.Prelude.{MatchOption, IfSome, Option, Some, None}
use Rattle.std.proofs.lemmas.List.{get_or_default, length-map}
use Rattle.std.proofs.lemmas.Slice.Zip.{AllZip-long}
use Rattle.dx_base.specs.Members.{◌∈◌, Distinct, Each}
use Rattle.dx_base.proofs.Members.{from_map, in_at, in_map}
use Rattle.dx_model.specs.declared.values.NullId.{NullId}
use Rattle.dx_model.specs.declared.values.Value.{Value}
use Rattle.dx_model.specs.declared.values.Value.TheVariants.{Const, Null}
use Rattle.dx_model.specs.declared.facts.Fact.{Fact}
use Rattle.dx_model.specs.Instances.{fact_moved, given, moved}
use Rattle.dx_instance.specs.Cells.{NumberTable}
use Rattle.dx_instance.specs.Numbers.{value_of}
use Rattle.dx_instance.specs.Places.{row_at}
use Rattle.dx_instance.specs.Shown.{NumbersBelow, NumberedInstance, NumbersFit, PartsFit, numbers_of_table, shown, shown_row}
use Rattle.dx_instance.specs.Stored.{TableRows, facts, rows_of}
use Rattle.dx_instance.proofs.ShownFacts.{all_fit, is_shown, number_same, row_shown}
use Rattle.dx_instance.proofs.StoredFacts.{fact_from_row}
use Rattle.dx_blocks.specs.declared.numbered.At.{At}
use Rattle.dx_blocks.specs.declared.numbered.NumberBlock.{NumberBlock}
use Rattle.dx_blocks.specs.Blocks.{least}
use Rattle.dx_blocks.specs.Numbered.{IsNullNumber, IsRowIn, fact_of, null_under, shown_block}
use Rattle.dx_solver.specs.declared.atom.PatternAtom.{PatternAtom}
use Rattle.dx_solver.specs.Marks.{is_out, with_mark}
use Rattle.dx_solver.specs.Questions.{FitsAtom, Solves, HasImageRow, answered, row_under}
use Rattle.dx_core.specs.Asking.{AreAtoms, AscendStrictly, Avoids, IsAtomOf, KnownAreRigid, IsTermOf, MovesOff, pairs_by}
use Rattle.dx_blocks.specs.NullRows.{row_numbers}
use Rattle.dx_core.specs.Left.{HasMarks, facts_left, shown_by}
use Rattle.dx_core.specs.Sparing.{IsTried}
use Rattle.dx_core.proofs.Marked.{from_left, marked_inside, marked_kept, marked_out, one_place, put_back, to_left}
use Rattle.dx_core.proofs.Terms.{answer_of, ascend_few, number_is, number_in, terms_become, terms_given, terms_within}
use Rattle.dx_core.proofs.Tried.{its_null}

abbrev no_numbers : NumberTable
no_numbers = record { width = 0; rows = [] }

-- ---- rows and facts

module _ (N : NumberedInstance) (fit : PartsFit N.symbols N.tables) where
  table_fits : (t : ℕ) → t < length N.tables → NumbersFit (length N.symbols) (numbers_of_table N.tables t)
  table_fits t h = fit.each (numbers_of_table N.tables t) (in_at N.tables t no_numbers h)

  pub row_below : (at : At) → IsRowIn N at → NumbersBelow (length N.symbols) (row_numbers N at)
  row_below at r = (table_fits at.table r.table).within (row_numbers N at) (in_at (numbers_of_table N.tables at.table).rows at.place [] r.place)

  pub row_wide : (at : At) → IsRowIn N at → length (row_numbers N at) ≡ (numbers_of_table N.tables at.table).width
  row_wide at r = (table_fits at.table r.table).each (row_numbers N at) (in_at (numbers_of_table N.tables at.table).rows at.place [] r.place)

  pub row_is : (at : At) → IsRowIn N at → row_at (shown_by N) at.table at.place ≡ shown_row N.symbols (row_numbers N at)
  row_is at r =
      row_shown N.symbols N.tables (shown_by N) at.table at.place (numbers_of_table N.tables at.table) refl r.table
      (get_or_default N.tables at.table no_numbers (numbers_of_table N.tables at.table) r.table) r.place

  pub many_tables : length (shown_by N) ≡ length N.tables
  many_tables = length-map N.tables (shown N.symbols)

  pub many_rows : (t : ℕ) → t < length N.tables → length (rows_of (shown_by N) t) ≡ length (numbers_of_table N.tables t).rows
  many_rows t h =
      ap (λ (u : TableRows). length u.rows)
      (is_shown N.symbols N.tables t (numbers_of_table N.tables t) h (get_or_default N.tables t no_numbers (numbers_of_table N.tables t) h))
      ∙ length-map (numbers_of_table N.tables t).rows (shown_row N.symbols)

  pub distinct_rows : Each (shown_by N) (λ (u : TableRows). Distinct u.rows)
  distinct_rows u m = ((all_fit N.symbols N.tables fit).each u m).distinct

  pub row_within : (at : At) → IsRowIn N at → (at.table < length (shown_by N)) × (at.place < length (rows_of (shown_by N) at.table))
  row_within at r = (omega (arith, r.table, many_tables), omega (arith, r.place, many_rows at.table r.table))

  -- a row is one fact of the instance
  pub fact_there : (at : At) → IsRowIn N at → fact_of N at ∈ facts (shown_by N)
  fact_there at r = fact_from_row (shown_by N) at.table (row_at (shown_by N) at.table at.place)
      (in_at (rows_of (shown_by N) at.table) at.place [] (row_within at r).1)

  -- the fact of a row is left exactly if the row is not taken out
  pub fact_left : (out : List (List Bool)) (at : At) → IsRowIn N at → is_out out at.table at.place ≡ false → fact_of N at ∈ facts_left N out
  fact_left out at r e = to_left (shown_by N) out (fact_of N at) (at.place, (row_within at r).0, (row_within at r).1, e, refl)

  pub row_left : (out : List (List Bool)) (at : At) → IsRowIn N at → fact_of N at ∈ facts_left N out → is_out out at.table at.place ≡ false
  row_left out at r m =
      let w = from_left (shown_by N) out (fact_of N at) m in
      let d = distinct_rows _ (in_at (shown_by N) at.table (record { width = 0; rows = [] }) (row_within at r).0) in
      let e : at.place ≡ w.0 = one_place (rows_of (shown_by N) at.table) [] at.place w.0 d (row_within at r).1 w.2 (ap (λ (f : Fact). f.row) w.4) in
      rw e w.3

  -- ---- atoms

  module _ (nulls : List ℕ) (at : At) (atom : PatternAtom) (is : IsAtomOf N nulls at atom) (r : IsRowIn N at) where
    pub atom_fits : FitsAtom N.tables (length nulls) atom
    atom_fits = record {
      table = rw is.table r.table;
      width = rw is.table (AllZip-long (IsTermOf nulls) (row_numbers N at) atom.terms is.terms ∙ row_wide at r);
      variables = λ v m. terms_within nulls (row_numbers N at) atom.terms is.terms v m;
    }

    -- if a map moves the row's fact to a row that is there, its numbers make the atom that row
    pub atom_stands : (out : List (List Bool)) (g : NullId → Value)
        → ((x : ℕ) → x ∈ row_numbers N at → ¬ (x ∈ nulls) → moved g (value_of N.symbols x) ≡ value_of N.symbols x)
        → fact_moved g (fact_of N at) ∈ facts_left N out
        → HasImageRow N.tables out (answer_of N.symbols g nulls) atom
    atom_stands out g own m =
        let w = from_left (shown_by N) out (fact_moved g (fact_of N at)) m in
        let p = w.0 in
        let q : p < length (numbers_of_table N.tables at.table).rows = omega (arith, w.2, many_rows at.table r.table) in
        let to : At = record { table = at.table; place = p } in
        let there : IsRowIn N to = record { table = r.table; place = q } in
        let e : map (moved g) (shown_row N.symbols (row_numbers N at)) ≡ shown_row N.symbols (row_numbers N to) =
        ap (map (moved g)) (sym (row_is at r)) ∙ (ap (λ (f : Fact). f.row) w.4 ∙ row_is to there) in
        let b = terms_become N.symbols fit.apart nulls g (row_numbers N at) (row_numbers N to) atom.terms is.terms (row_below at r)
        (row_below to there) own e in
        (p, rw is.table q, rw is.table w.3, rw is.table b)

    -- if an answer makes the atom a row that is there, its map moves the row's fact to that row
    pub atom_moves : (out : List (List Bool)) (xs : List ℕ) → Each nulls (IsNullNumber N) → AscendStrictly nulls → length xs ≡ length nulls
        → HasImageRow N.tables out (answered xs) atom → fact_moved (given (pairs_by N nulls xs)) (fact_of N at) ∈ facts_left N out
    atom_moves out xs are up long s =
        let g = given (pairs_by N nulls xs) in
        let p = s.0 in
        let to : At = record { table = at.table; place = p } in
        let q : p < length (numbers_of_table N.tables at.table).rows = rw (← is.table) s.1 in
        let there : IsRowIn N to = record { table = r.table; place = q } in
        let d : row_numbers N to ≡ row_under (answered xs) atom = rw (← is.table) s.3 in
        let e : map (moved g) (row_at (shown_by N) at.table at.place) ≡ row_at (shown_by N) at.table p =
        ap (map (moved g)) (row_is at r)
        ∙ (sym (terms_given N fit.apart nulls xs are up long (row_numbers N at) atom.terms is.terms (row_below at r))
        ∙ (ap (shown_row N.symbols) (sym d) ∙ sym (row_is to there))) in
        let f : fact_moved g (fact_of N at) ≡ fact_of N to = λ i. record { table = at.table; row = e i } in
        rw f (fact_left out to there (rw (← is.table) s.2))

  -- ---- marks

  pub mark_table : (out : List (List Bool)) (at : At) → HasMarks (shown_by N) out → IsRowIn N at → at.table < length out
  mark_table out at has r = omega (arith, has.tables, (row_within at r).0)

  pub mark_place : (out : List (List Bool)) (at : At) → HasMarks (shown_by N) out → IsRowIn N at → at.place < length (get_or out at.table [])
  mark_place out at has r = omega (arith, has.places at.table (row_within at r).0, (row_within at r).1)

  pub back_again : (out : List (List Bool)) (at : At) → HasMarks (shown_by N) out → IsRowIn N at → is_out out at.table at.place ≡ false
      → with_mark (with_mark out at.table at.place true) at.table at.place false ≡ out
  back_again out at has r e = put_back (shown_by N) out at.table at.place has (row_within at r).0 (row_within at r).1 e

  pub few_nulls : (b : NumberBlock) → IsTried N b → length b.nulls < 2 ^ 32
  few_nulls b t =
      let k = ascend_few b.nulls (length N.symbols) t.ascend (λ x m. (t.numbers.nulls x m).within) in
      omega (arith, k, fit.small)

-- ---- questions about rows of a block

module _ (N : NumberedInstance) (fit : PartsFit N.symbols N.tables) (b : NumberBlock) (t : IsTried N b) where
  -- a null of a row of the block is one of the block's
  pub own_null : (at : At) → at ∈ b.rows → (x : ℕ) → x ∈ row_numbers N at → (n : NullId) → value_of N.symbols x ≡ Null n → x ∈ b.nulls
  own_null at m x i n e =
      let r = t.numbers.rows at m in
      let v : value_of N.symbols x ∈ row_at (shown_by N) at.table at.place = rw (row_is N fit at r) (in_map (value_of N.symbols) i) in
      let k = its_null (facts (shown_by N)) (least (shown_block N b)) (shown_block N b) t.block (fact_of N at) n (in_map (fact_of N) m) (rw e at v) in
      let w = from_map (null_under N) b.nulls k in
      let a = t.numbers.nulls w.0 w.1 in
      let q : w.0 ≡ x = number_same N.symbols w.0 x fit.apart a.within (row_below N fit at r x i) (a.is ∙ (ap Null w.2 ∙ sym e)) in
      rw (← q) w.1

  pub others_stay : (g : NullId → Value) (at : At) → at ∈ b.rows → (x : ℕ) → x ∈ row_numbers N at → ¬ (x ∈ b.nulls)
      → moved g (value_of N.symbols x) ≡ value_of N.symbols x
  others_stay g at m x i k = by (value_of N.symbols x) refl
    where
      by : (v : Value) → value_of N.symbols x ≡ v → moved g v ≡ v
      by (Const c) e = refl
      by (Null n) e = absurd (k (own_null at m x i n e))

  module _ (out : List (List Bool)) (has : HasMarks (shown_by N) out) (rows : List At) (part : Each rows (λ r. r ∈ b.rows))
      (atoms : List PatternAtom) (known : List (Option ℕ)) where
    its_row : (r : At) → r ∈ rows → IsRowIn N r
    its_row r m = t.numbers.rows r (part r m)

    module _ (at : At) (in_block : at ∈ b.rows) (are : AreAtoms N b.nulls out rows atoms)
        (kept : KnownAreRigid N (facts_left N out) b.nulls known) where
      own_row : IsRowIn N at
      own_row = t.numbers.rows at in_block

      without : List (List Bool)
      without = with_mark out at.table at.place true

      within : (at.table < length (shown_by N)) × (at.place < length (rows_of (shown_by N) at.table))
      within = row_within N fit at own_row

      pub none_avoids : ((a : ℕ → ℕ) → ¬ (Solves N.tables (with_mark out at.table at.place true) atoms known a))
          → ¬ (Avoids (facts_left N out) (map (fact_of N) rows) (fact_of N at))
      none_avoids none s = none (answer_of N.symbols s.0 b.nulls) (record {
        stands = λ atom m.
            let w = are.only atom m in
            let e = fact_left N fit out w.0 (its_row w.0 w.1) w.3 in
            atom_stands N fit b.nulls w.0 atom w.2 (its_row w.0 w.1) (with_mark out at.table at.place true) s.0
            (others_stay s.0 w.0 (part w.0 w.1))
            (marked_kept (shown_by N) out at.table at.place has within.0 within.1 (fact_moved s.0 (fact_of N w.0)) (s.1 (fact_of N w.0) e)
            (s.2 (fact_of N w.0) (in_map (fact_of N) w.1) e));
        keeps = λ v n e.
            let k = kept.rigid v n e in
            let h : v < length b.nulls = omega (arith, kept.long, known_within known v n e) in
            let i = t.numbers.nulls (get_or b.nulls v 0) (in_at b.nulls v 0 h) in
            let j : IsNullNumber N n = rw k.0 at i in
            ap (λ (x : ℕ). number_in N.symbols (moved s.0 (value_of N.symbols x))) k.0
            ∙ (ap (λ (u : Value). number_in N.symbols (moved s.0 u)) j.is
            ∙ (ap (number_in N.symbols) (k.1 s.0 s.1 ∙ sym j.is) ∙ number_is N.symbols n fit.apart j.within));
      })
        where
          known_within : (os : List (Option ℕ)) (v n : ℕ) → get_or os v None ≡ Some n → v < length os
          known_within [] v n e = absurd (cc e)
          known_within (o ∷ os) zero n e = omega arith
          known_within (o ∷ os) (suc v) n e = omega (arith, known_within os v n e)

      pub some_moves : (xs : List ℕ) → length xs ≡ length b.nulls
          → Solves N.tables (with_mark out at.table at.place true) atoms known (answered xs)
          → MovesOff (given (pairs_by N b.nulls xs)) (facts_left N out) (map (fact_of N) rows) (fact_of N at)
      some_moves xs long s e m l =
          let w = from_map (fact_of N) rows m in
          let o = row_left N fit out w.0 (its_row w.0 w.1) (subst (λ (f : Fact). f ∈ facts_left N out) (sym w.2) l) in
          let a = are.all w.0 w.1 o in
          let g = given (pairs_by N b.nulls xs) in
          let i : fact_moved g e ∈ facts_left N (with_mark out at.table at.place true) =
          subst (λ (f : Fact). fact_moved g f ∈ facts_left N (with_mark out at.table at.place true)) w.2
          (atom_moves N fit b.nulls w.0 a.0 a.2 (its_row w.0 w.1) (with_mark out at.table at.place true) xs t.numbers.nulls t.ascend long
          (s.stands a.0 a.1)) in (
            marked_inside (shown_by N) out at.table at.place has within.0 within.1 (fact_moved g e) i,
            λ d. marked_out (shown_by N) out at.table at.place has within.0 within.1 (distinct_rows N fit)
                (subst (λ (f : Fact). f ∈ facts_left N (with_mark out at.table at.place true)) d i),
          )

      pub told : {V : Type 0} (items : V → List ℕ) (o : Option V) → length known ≡ length b.nulls
          → MatchOption o ((a : ℕ → ℕ) → ¬ (Solves N.tables (with_mark out at.table at.place true) atoms known a))
          (λ v. Solves N.tables (with_mark out at.table at.place true) atoms known (answered (items v)))
          → IfSome o (λ v. length (items v) ≡ length known)
          → MatchOption o (¬ (Avoids (facts_left N out) (map (fact_of N) rows) (fact_of N at)))
          (λ v. MovesOff (given (pairs_by N b.nulls (items v))) (facts_left N out) (map (fact_of N) rows) (fact_of N at))
      told items None same e l = none_avoids e
      told items (Some v) same e l = some_moves (items v) (l ∙ same) e

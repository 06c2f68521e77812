-- What the answer for all rows of a block tells.
use Rattle.std.proofs.Common.{◌≡◌, ◌∙◌, ℕ, ◌<◌, Bool, List, [], inl, inr, refl, sym, ap, subst, arith, length, get_or, map}
use Rattle.std.specs.Prelude.{IfSome, MatchOption, Option, Some, None}
use Rattle.std.proofs.lemmas.Bool.{cases_order}
use Rattle.std.proofs.lemmas.List.{get_or_default}
use Rattle.dx_base.specs.Members.{◌∈◌, Each}
use Rattle.dx_base.proofs.Members.{contains_from_in, from_flat_map, from_map, in_at, in_map}
use Rattle.dx_model.specs.declared.values.Value.TheVariants.{Null}
use Rattle.dx_model.specs.declared.facts.Fact.{Fact}
use Rattle.dx_model.specs.Instances.{Moves, fact_moved, given}
use Rattle.dx_model.specs.Blocks.{IsEquivalentPart}
use Rattle.dx_instance.specs.Cells.{numbers_at}
use Rattle.dx_instance.specs.Numbers.{value_of}
use Rattle.dx_instance.specs.Places.{row_at}
use Rattle.dx_instance.specs.Shown.{NumberedInstance, PartsFit, numbers_of_table}
use Rattle.dx_instance.specs.Stored.{facts}
use Rattle.dx_instance.proofs.ShownFacts.{number_same}
use Rattle.dx_blocks.specs.declared.numbered.At.{At}
use Rattle.dx_blocks.specs.declared.numbered.NumberBlock.{NumberBlock}
use Rattle.dx_blocks.specs.Blocks.{least}
use Rattle.dx_blocks.specs.Numbered.{IsRowIn, fact_of, null_under, shown_block}
use Rattle.dx_solver.specs.declared.atom.PatternAtom.{PatternAtom}
use Rattle.dx_solver.specs.Questions.{Solves, answered, number_under, row_under}
use Rattle.dx_core.specs.Asking.{AreAtoms, AscendStrictly, pairs_by}
use Rattle.dx_blocks.specs.NullRows.{row_numbers}
use Rattle.dx_core.specs.Left.{facts_left, shown_by}
use Rattle.dx_core.specs.Sparing.{IsTried}
use Rattle.dx_core.proofs.Asked.{atom_moves, atom_stands, fact_there, others_stay, row_below, row_is}
use Rattle.dx_core.proofs.Terms.{answer_of, has_variable}
use Rattle.dx_core.proofs.Tried.{its_fact}

-- ascending numbers at different places differ
one_at : (ns : List ℕ) (i j : ℕ) → AscendStrictly ns → i < length ns → j < length ns → get_or ns i 0 ≡ get_or ns j 0 → i ≡ j
one_at ns i j up h k e = elim (cases_order i j) [
  | inl d ↦ d
  | inr o ↦ elim o [
    | inl l ↦ let a = up i j 0 l k in absurd (omega (arith, a, e))
    | inr l ↦ let a = up j i 0 l h in absurd (omega (arith, a, e))
  ]
]

module _ (N : NumberedInstance) (fit : PartsFit N.symbols N.tables) (b : NumberBlock) (t : IsTried N b) (out : List (List Bool))
    (atoms : List PatternAtom) (are : AreAtoms N b.nulls [] b.rows atoms) (known : List (Option ℕ)) where
  pub found : IsEquivalentPart (facts (shown_by N)) (facts_left N out) → ((v n : ℕ) → ¬ (get_or known v None ≡ Some n))
      → (a : ℕ → ℕ) × Solves N.tables out atoms known a
  found r none = (
    answer_of N.symbols r.moves.0 b.nulls,
    record {
      stands = λ atom m.
          let w = are.only atom m in
          let row = t.numbers.rows w.0 w.1 in
          atom_stands N fit b.nulls w.0 atom w.2 row out r.moves.0 (others_stay N fit b t r.moves.0 w.0 w.1)
          (r.moves.1 (fact_of N w.0) (fact_there N fit w.0 row));
      keeps = λ v n e. absurd (none v n e);
    },
  )

  module _ (xs : List ℕ) (long : length xs ≡ length b.nulls) (s : Solves N.tables out atoms known (answered xs)) where
    pub found_moves : Moves (given (pairs_by N b.nulls xs)) (map (fact_of N) b.rows) (facts_left N out)
    found_moves f m =
        let w = from_map (fact_of N) b.rows m in
        let a = are.all w.0 w.1 refl in
        subst (λ (e : Fact). fact_moved (given (pairs_by N b.nulls xs)) e ∈ facts_left N out) w.2
        (atom_moves N fit b.nulls w.0 a.0 a.2 (t.numbers.rows w.0 w.1) out xs t.numbers.nulls t.ascend long (s.stands a.0 a.1))

    -- a null of the block stands in one of its rows
    stands_in : (n : ℕ) → n ∈ b.nulls → (at : At) × (at ∈ b.rows) × (n ∈ row_numbers N at)
    stands_in n m =
        let a = t.numbers.nulls n m in
        let k = (t.block.nulls (null_under N n)).0 (in_map (null_under N) m) in
        let w = from_flat_map (λ (f : Fact). f.row) (facts (shown_by N)) k.0 in
        let i = its_fact (facts (shown_by N)) (least (shown_block N b)) (shown_block N b) t.block w.0 (null_under N n) w.1 w.2
        (in_map (null_under N) m) in
        let q = from_map (fact_of N) b.rows i in
        let row = t.numbers.rows q.0 q.1 in
        let v : Null (null_under N n) ∈ row_at (shown_by N) q.0.table q.0.place =
        subst (λ (f : Fact). Null (null_under N n) ∈ f.row) (sym q.2) w.2 in
        let x = from_map (value_of N.symbols) (row_numbers N q.0) (rw (row_is N fit q.0 row) at v) in
        let e : x.0 ≡ n = number_same N.symbols x.0 n fit.apart (row_below N fit q.0 row x.0 x.1) a.within (x.2 ∙ sym a.is) in
        (q.0, q.1, subst (λ (i : ℕ). i ∈ row_numbers N q.0) e x.1)

    at_variable : (v : ℕ) → v < length b.nulls → get_or xs v 0 < length N.symbols
    at_variable v h =
        let n = get_or b.nulls v 0 in
        let w = stands_in n (in_at b.nulls v 0 h) in
        let a = are.all w.0 w.1 refl in
        let u = has_variable b.nulls (row_numbers N w.0) a.0.terms a.2.terms n w.2 (in_at b.nulls v 0 h) in
        let same : u.0 ≡ v = one_at b.nulls u.0 v t.ascend u.2 h u.3 in
        let p = s.stands a.0 a.1 in
        let to : At = record { table = w.0.table; place = p.0 } in
        let row = t.numbers.rows w.0 w.1 in
        let there : IsRowIn N to = record { table = row.table; place = subst (λ (t : ℕ). p.0 < length (numbers_of_table N.tables t).rows) a.2.table p.1 } in
        let i : get_or xs u.0 0 ∈ map (number_under (answered xs)) a.0.terms = in_map (number_under (answered xs)) u.1 in
        let d : row_numbers N to ≡ row_under (answered xs) a.0 =
        ap (λ (t : ℕ). numbers_at (numbers_of_table N.tables t).rows p.0) (sym a.2.table) ∙ p.3 in
        let j : get_or xs u.0 0 ∈ row_numbers N to = subst (λ (row : List ℕ). get_or xs u.0 0 ∈ row) (sym d) i in
        subst (λ (k : ℕ). get_or xs k 0 < length N.symbols) same (row_below N fit to there (get_or xs u.0 0) j)

    pub found_within : Each xs (λ x. x < length N.symbols)
    found_within x m =
        let c = contains_from_in m in
        let e : get_or xs c.0 0 ≡ x = get_or_default xs c.0 0 x c.1 ∙ c.2 in
        subst (λ (k : ℕ). k < length N.symbols) e (at_variable c.0 (omega (arith, c.1, long)))

  -- ---- what an answer tells

  module _ {V : Type 0} (items : V → List ℕ) (o : Option V)
      (exact : MatchOption o ((a : ℕ → ℕ) → ¬ (Solves N.tables out atoms known a)) (λ v. Solves N.tables out atoms known (answered (items v)))) where
    pub some_found : IsEquivalentPart (facts (shown_by N)) (facts_left N out) → ((v n : ℕ) → ¬ (get_or known v None ≡ Some n)) → ¬ (o ≡ None)
    some_found r none e = by o e exact
      where
        by : (o : Option V) → o ≡ None
            → MatchOption o ((a : ℕ → ℕ) → ¬ (Solves N.tables out atoms known a)) (λ v. Solves N.tables out atoms known (answered (items v))) → ⊥
        by None e q = let f = found r none in q f.0 f.1
        by (Some v) e q = absurd (cc e)

    module _ (long : IfSome o (λ v. length (items v) ≡ length known)) (same : length known ≡ length b.nulls) where
      pub within_found : IfSome o (λ v. Each (items v) (λ x. x < length N.symbols))
      within_found = by o exact long
        where
          by : (o : Option V)
              → MatchOption o ((a : ℕ → ℕ) → ¬ (Solves N.tables out atoms known a)) (λ v. Solves N.tables out atoms known (answered (items v)))
              → IfSome o (λ v. length (items v) ≡ length known) → IfSome o (λ v. Each (items v) (λ x. x < length N.symbols))
          by None q l = tt
          by (Some v) q l = found_within (items v) (l ∙ same) q

      pub moves_found : IfSome o (λ v. Moves (given (pairs_by N b.nulls (items v))) (map (fact_of N) b.rows) (facts_left N out))
      moves_found = by o exact long
        where
          by : (o : Option V)
              → MatchOption o ((a : ℕ → ℕ) → ¬ (Solves N.tables out atoms known a)) (λ v. Solves N.tables out atoms known (answered (items v)))
              → IfSome o (λ v. length (items v) ≡ length known)
              → IfSome o (λ v. Moves (given (pairs_by N b.nulls (items v))) (map (fact_of N) b.rows) (facts_left N out))
          by None q l = tt
          by (Some v) q l = found_moves (items v) (l ∙ same) q

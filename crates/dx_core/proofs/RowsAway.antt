-- Rows that are taken out while a question is asked.
use Rattle.std.proofs.Common.{◌≡◌, ◌∙◌, ℕ, ◌+◌, ◌<◌, ◌≤◌, Bool, true, false, List, [], ◌∷◌, ◌++◌, inl, inr, refl, sym, ap, subst, arith, length, get_or, map, below_more}
use Rattle.std.specs.Prelude.{MatchOption, IfSome, Option, Some, None}
use Rattle.std.proofs.lemmas.Bool.{cases_Bool, true≢false}
use Rattle.std.proofs.lemmas.List.{get_or_default}
use Rattle.dx_base.specs.Members.{◌∈◌, Each}
use Rattle.dx_base.proofs.Members.{contains_from_in}
use Rattle.dx_model.specs.Instances.{given}
use Rattle.dx_instance.specs.Shown.{NumberedInstance, PartsFit}
use Rattle.dx_blocks.specs.declared.numbered.At.{At}
use Rattle.dx_blocks.specs.declared.numbered.NumberBlock.{NumberBlock}
use Rattle.dx_blocks.specs.Numbered.{IsRowIn, fact_of}
use Rattle.dx_solver.specs.declared.atom.PatternAtom.{PatternAtom}
use Rattle.dx_solver.specs.Marks.{is_out, with_mark}
use Rattle.dx_solver.specs.Questions.{Solves, answered}
use Rattle.dx_core.specs.Asking.{AreAtoms, KnownAreRigid, MovesOff, pairs_by}
use Rattle.dx_core.specs.Left.{HasMarks, facts_left, shown_by}
use Rattle.dx_core.specs.Sparing.{IsTried, with_back}
use Rattle.dx_core.proofs.Asked.{back_again, row_within, some_moves}
use Rattle.dx_core.proofs.Folded.{first_at}
use Rattle.dx_core.proofs.Marked.{is_marked, not_marked, still_out, was_there}
use Rattle.dx_core.proofs.Passed.{each_more}
use Rattle.dx_core.proofs.Spared.{same_moves}

-- ---- row by row

pub back_last : (out : List (List Bool)) (rows : List At) (at : At)
    → with_back out (rows ++ at ∷ []) ≡ with_back (with_mark out at.table at.place false) rows
back_last out [] at = refl
back_last out (r ∷ rows) at = ap (λ (o : List (List Bool)). with_mark o r.table r.place false) (back_last out rows at)

abbrev pub out_at : List (List Bool) → List At → ℕ → Bool
out_at out rows k = is_out out (get_or rows k first_at).table (get_or rows k first_at).place

-- the first i of the rows are out, if there are such rows; those that were not are listed, and nothing else went
pub record AreGone (N : NumberedInstance) (rows : List At) (old now : List (List Bool)) (gone : List At) (i : ℕ) : Type 0 where
  pub there : Each gone (IsRowIn N)
  pub back : with_back now gone ≡ old
  pub out : (k : ℕ) → k < i → IsRowIn N (get_or rows k first_at) → out_at now rows k ≡ true
  pub others : (t p : ℕ) → is_out now t p ≡ false → is_out old t p ≡ false

pub gone_start : (N : NumberedInstance) (rows : List At) (old : List (List Bool)) (gone : List At) → gone ≡ [] → AreGone N rows old old gone 0
gone_start N rows old gone e =
    rw e (record { there = λ r m. elim m [ ]; back = refl; out = λ k h. absurd (omega arith); others = λ t p o. o })

module _ (N : NumberedInstance) (fit : PartsFit N.symbols N.tables) (rows : List At) (old now : List (List Bool)) (gone : List At) (i : ℕ)
    (a : AreGone N rows old now gone i) where
  pub gone_already : (IsRowIn N (get_or rows i first_at) → out_at now rows i ≡ true) → AreGone N rows old now gone (i + 1)
  gone_already o = record {
    there = a.there;
    back = a.back;
    out = below_more (λ k. IsRowIn N (get_or rows k first_at) → out_at now rows k ≡ true) i a.out o;
    others = a.others;
  }

  pub gone_more : (new : List At) → HasMarks (shown_by N) now → IsRowIn N (get_or rows i first_at) → out_at now rows i ≡ false → new ≡ gone ++ get_or rows i first_at ∷ []
      → AreGone N rows old (with_mark now (get_or rows i first_at).table (get_or rows i first_at).place true) new (i + 1)
  gone_more new has row o e =
      let r : At = get_or rows i first_at in
      let w = row_within N fit r row in
      let next : List (List Bool) = with_mark now r.table r.place true in
      record {
        there = each_more gone new r e row a.there;
        back = ap (with_back next) e
            ∙ (back_last next gone r ∙ (ap (λ (m : List (List Bool)). with_back m gone) (back_again N fit now r has row o) ∙ a.back));
        out = below_more (λ k. IsRowIn N (get_or rows k first_at) → out_at next rows k ≡ true) i
            (λ k l q. still_out (shown_by N) now r.table r.place has w.0 w.1 _ _ (a.out k l q))
            (λ q. is_marked (shown_by N) now r.table r.place has w.0 w.1);
        others = λ t p q. a.others t p (was_there (shown_by N) now r.table r.place has w.0 w.1 t p q);
      }

pub all_out : (N : NumberedInstance) (rows : List At) (now : List (List Bool)) (i : ℕ) → length rows ≤ i
    → ((k : ℕ) → k < i → IsRowIn N (get_or rows k first_at) → out_at now rows k ≡ true)
    → Each rows (λ r. IsRowIn N r → is_out now r.table r.place ≡ true)
all_out N rows now i h all r m =
    let k = contains_from_in m in
    let e : get_or rows k.0 first_at ≡ r = get_or_default rows k.0 first_at r k.1 ∙ k.2 in
    subst (λ (x : At). IsRowIn N x → is_out now x.table x.place ≡ true) e (all k.0 (omega (arith, h, k.1)))

-- what is out stays out if nothing is put back
pub out_stays : (now away : List (List Bool)) → ((u q : ℕ) → is_out away u q ≡ false → is_out now u q ≡ false) → (u q : ℕ)
    → is_out now u q ≡ true → is_out away u q ≡ true
out_stays now away others u q e = elim (cases_Bool (is_out away u q)) [
  | inl o ↦ o
  | inr o ↦ absurd (true≢false (sym e ∙ others u q o))
]

-- ---- an answer without these rows is one without a row of them

module _ (N : NumberedInstance) (fit : PartsFit N.symbols N.tables) (b : NumberBlock) (t : IsTried N b)
    (out : List (List Bool)) (has : HasMarks (shown_by N) out) (atoms : List PatternAtom) (known : List (Option ℕ))
    (at : At) (in_block : at ∈ b.rows) (are : AreAtoms N b.nulls out b.rows atoms) (kept : KnownAreRigid N (facts_left N out) b.nulls known)
    (away : List (List Bool)) (gone : is_out away at.table at.place ≡ true)
    (others : (u q : ℕ) → is_out away u q ≡ false → is_out out u q ≡ false) where
  less_out : (u q : ℕ) → is_out away u q ≡ false → is_out (with_mark out at.table at.place true) u q ≡ false
  less_out =
      let w = row_within N fit at (t.numbers.rows at in_block) in
      not_marked (shown_by N) out at.table at.place has w.0 w.1 away gone others

  solves_more : (a : ℕ → ℕ) → Solves N.tables away atoms known a → Solves N.tables (with_mark out at.table at.place true) atoms known a
  solves_more a s = record {
    stands = λ atom m. let w = s.stands atom m in (w.0, w.1, less_out atom.table w.0 w.2, w.3);
    keeps = s.keeps;
  }

  pub told_away : {V : Type 0} (P : Type 0) (items : V → List ℕ) (o : Option V) → length known ≡ length b.nulls
      → MatchOption o P (λ v. Solves N.tables away atoms known (answered (items v)))
      → IfSome o (λ v. length (items v) ≡ length known)
      → IfSome o (λ v. MovesOff (given (pairs_by N b.nulls (items v))) (facts_left N out) (map (fact_of N) b.rows) (fact_of N at))
  told_away P items None same e l = tt
  told_away P items (Some v) same e l =
      some_moves N fit b t out has b.rows (λ r m. m) atoms known at in_block are kept (items v) (l ∙ same) (solves_more (answered (items v)) e)

-- an answer to a question over the same numbers and marks
pub away_same : {V : Type 0} (N M : NumberedInstance) (out mid : List (List Bool)) (nulls : List ℕ) (items : V → List ℕ) (o : Option V)
    (rows : List At) (at : At) → M ≡ N → mid ≡ out
    → IfSome o (λ x. MovesOff (given (pairs_by M nulls (items x))) (facts_left M mid) (map (fact_of M) rows) (fact_of M at))
    → IfSome o (λ x. MovesOff (given (pairs_by N nulls (items x))) (facts_left N out) (map (fact_of N) rows) (fact_of N at))
away_same N M out mid nulls items None rows at e d q = tt
away_same N M out mid nulls items (Some x) rows at e d q = same_moves N M nulls (items x) out mid rows at e d q

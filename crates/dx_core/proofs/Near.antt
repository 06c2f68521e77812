-- Rows near a row: a part of its block.
use Rattle.std.proofs.Common.{◌≡◌, ◌∙◌, ℕ, Bool, true, false, List, [], ◌∷◌, ◌++◌, inl, inr, ap, subst, map}
use Rattle.std.specs.Prelude.{MatchOption, Option, Some, None, is_some, not}
use Rattle.std.proofs.lemmas.Bool.{true≢false}
use Rattle.dx_base.specs.Members.{◌∈◌, Each, here, there}
use Rattle.dx_base.proofs.Members.{from_append, from_map, in_map}
use Rattle.dx_model.specs.declared.facts.Fact.{Fact}
use Rattle.dx_instance.specs.Shown.{NumberedInstance}
use Rattle.dx_blocks.specs.declared.numbered.At.{At}
use Rattle.dx_blocks.specs.Numbered.{fact_of}
use Rattle.dx_model.specs.Instances.{given}
use Rattle.dx_core.specs.Asking.{Avoids, MovesOff, pairs_by}
use Rattle.dx_core.specs.Left.{facts_left}

-- if some of the rows can't be moved off a fact, nor can all of them
pub part_avoids : (N : NumberedInstance) (T : List Fact) (rows all : List At) (f : Fact) → Each rows (λ r. r ∈ all)
    → ¬ (Avoids T (map (fact_of N) rows) f) → ¬ (Avoids T (map (fact_of N) all) f)
part_avoids N T rows all f part none a = none (
  a.0,
  a.1,
  λ e m j.
      let w = from_map (fact_of N) rows m in
      a.2 e (subst (λ (y : Fact). y ∈ map (fact_of N) all) w.2 (in_map (fact_of N) (part w.0 w.1))) j,
)

pub one_more : (all rows new : List At) (r : At) → r ∈ all → new ≡ rows ++ (r ∷ []) → Each rows (λ x. x ∈ all) → Each new (λ x. x ∈ all)
one_more all rows new r m e part x i = elim (from_append rows (rw e at i)) [
  | inl k ↦ part x k
  | inr k ↦ last k
]
  where
    last : x ∈ (r ∷ []) → x ∈ all
    last (here d) = rw (← d) m
    last (there k) = elim k [ ]

pub only_this : (all new : List At) (r : At) → r ∈ all → new ≡ r ∷ [] → Each new (λ x. x ∈ all)
only_this all new r m e = one_more all [] new r m e (λ x i. elim i [ ])

pub told_none : {V P : Type 0} (Q : V → Type 0) (o : Option V) (b : Bool) → is_some o ≡ not b → b ≡ true → MatchOption o P Q → P
told_none Q None b e d q = q
told_none Q (Some x) b e d q = let z : true ≡ false = e ∙ ap not d in absurd (true≢false z)

-- the answer to a question over the same numbers and marks
pub answer_same : {V : Type 0} (N M : NumberedInstance) (out mid : List (List Bool)) (nulls : List ℕ) (items : V → List ℕ) (o : Option V)
    (rows : List At) (at : At) → M ≡ N → mid ≡ out
    → MatchOption o (¬ (Avoids (facts_left M mid) (map (fact_of M) rows) (fact_of M at)))
    (λ x. MovesOff (given (pairs_by M nulls (items x))) (facts_left M mid) (map (fact_of M) rows) (fact_of M at))
    → MatchOption o (¬ (Avoids (facts_left N out) (map (fact_of N) rows) (fact_of N at)))
    (λ x. MovesOff (given (pairs_by N nulls (items x))) (facts_left N out) (map (fact_of N) rows) (fact_of N at))
answer_same N M out mid nulls items o rows at e d q =
    subst (λ (g : List (List Bool)). MatchOption o (¬ (Avoids (facts_left N g) (map (fact_of N) rows) (fact_of N at)))
    (λ x. MovesOff (given (pairs_by N nulls (items x))) (facts_left N g) (map (fact_of N) rows) (fact_of N at))) d
    (subst (λ (K : NumberedInstance). MatchOption o (¬ (Avoids (facts_left K mid) (map (fact_of K) rows) (fact_of K at)))
    (λ x. MovesOff (given (pairs_by K nulls (items x))) (facts_left K mid) (map (fact_of K) rows) (fact_of K at))) e q)

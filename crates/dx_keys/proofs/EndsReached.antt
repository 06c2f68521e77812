-- Key steps go on until keys hold or there is a clash, and they end, since each leaves fewer nulls.
use Rattle.std.proofs.Common.{◌≡◌, ℕ, zero, suc, ◌≤◌, List, [], ◌∷◌, ◌++◌, ◌⊎◌, inl, inr, refl, arith, length}
use Rattle.std.proofs.lemmas.Bool.{cases_Bool}
use Rattle.dx_model.specs.declared.values.Value.{Value}
use Rattle.dx_model.specs.declared.values.Value.TheVariants.{Const, Null}
use Rattle.dx_model.specs.declared.facts.Fact.{Fact}
use Rattle.dx_model.specs.declared.facts.NullPair.{NullPair}
use Rattle.dx_model.specs.Tables.{Table, IsInstance}
use Rattle.dx_model.specs.Instances.{given, values, image}
use Rattle.dx_model.specs.Chase.{AreSteps, IsKeyStep}
use Rattle.dx_model.proofs.Maps.{listed}
use Rattle.dx_model.proofs.Reduction.{fact_stays}
use Rattle.dx_model.proofs.Forced.{clash_after}
use Rattle.dx_model.proofs.Closed.{image_fits}
use Rattle.dx_keys.specs.Ends.{EndsInMap, EndsInClash, EndsOnce, EveryChaseEnds, StepsAreFew}
use Rattle.dx_keys.proofs.Reached.{Reached, then_pair, reached_more, reached_forced, open_nulls, fewer_open}
use Rattle.dx_keys.proofs.EndsFound.{keys_or_break, clash_or_step}

nothing_moved : (A : List Fact) → A ≡ image [] A
nothing_moved [] = refl
nothing_moved (f ∷ A) = let e = fact_stays (given []) f (λ n m. refl) in let r = nothing_moved A in cc

pub reached_first : (schema : List Table) (A : List Fact) → IsInstance schema A → Reached schema A A [] []
reached_first schema A fits = record {
  fits = fits;
  now = nothing_moved A;
  there = refl;
  steps = tt;
  null_map = tt;
  pairs = λ p m. elim m [ ];
}

-- each step leaves fewer nulls
steps_within : (schema : List Table) (A : List Fact) (more : List NullPair) (B : List Fact) (m ss : List NullPair) → Reached schema A B m ss
    → AreSteps schema B more → length more ≤ open_nulls m (values A)
steps_within schema A [] B m ss R t = omega arith
steps_within schema A (s ∷ more) B m ss R t =
    let less = fewer_open schema A B m ss s R t.0 in
    let rest = steps_within schema A more (image (s ∷ []) B) (then_pair s m) (ss ++ s ∷ []) (reached_more schema A B m ss R s t.0) t.1 in
    omega (arith, less, rest)

open_length : (m : List NullPair) (vs : List Value) → open_nulls m vs ≤ length vs
open_length m [] = omega arith
open_length m (Const t ∷ vs) = let r = open_length m vs in omega (arith, r)
open_length m (Null n ∷ vs) = elim (cases_Bool (listed n m)) [
  | inl t ↦ rw t (let r = open_length m vs in omega (arith, r))
  | inr f ↦ rw f (let r = open_length m vs in omega (arith, r))
]

pub steps_are_few : StepsAreFew
steps_are_few schema A steps fits t =
    let w = steps_within schema A steps A [] [] (reached_first schema A fits) t in
    let l = open_length [] (values A) in
    omega (arith, w, l)

abbrev Ends : List Table → List Fact → Type 0
Ends schema A = EndsInMap schema A ⊎ EndsInClash schema A

-- what is reached has ended, or has a further step
ended_or_step : (schema : List Table) (A B : List Fact) (m ss : List NullPair) → Reached schema A B m ss
    → Ends schema A ⊎ ((p : NullPair) × IsKeyStep schema B p)
ended_or_step schema A B m ss R = elim (keys_or_break schema B) [
  | inl k ↦ inl (inl (record { map = m; forced = reached_forced schema A B m ss R k; keys = rw (← R.now) k }))
  | inr w ↦ elim (clash_or_step schema B w.0 w.1 w.2 w.3 w.4) [
    | inl x ↦ inl (inr (record { steps = ss; a = w.0; b = w.1; d = w.2; c = w.3; are_steps = R.steps; clash = rw (← R.there) x }))
    | inr s ↦ inr s
  ]
]

ends_within : (schema : List Table) (A : List Fact) (fuel : ℕ) (B : List Fact) (m ss : List NullPair) → Reached schema A B m ss
    → open_nulls m (values A) ≤ fuel → Ends schema A
ends_within schema A zero B m ss R le = elim (ended_or_step schema A B m ss R) [
  | inl e ↦ e
  | inr s ↦ let less = fewer_open schema A B m ss s.0 R s.1 in absurd (omega (arith, less, le))
]
ends_within schema A (suc fuel) B m ss R le = elim (ended_or_step schema A B m ss R) [
  | inl e ↦ e
  | inr s ↦
      let less = fewer_open schema A B m ss s.0 R s.1 in
      ends_within schema A fuel (image (s.0 ∷ []) B) (then_pair s.0 m) (ss ++ s.0 ∷ []) (reached_more schema A B m ss R s.0 s.1) (omega (arith, less, le))
]

pub ends_once : EndsOnce
ends_once schema A fits M E =
    clash_after schema A E.steps E.a E.b E.d E.c E.are_steps E.clash (image M.map A) M.map
    (record { fits = image_fits schema A (given M.map) fits; keys = M.keys })
    (record { null_map = M.forced.null_map; inside = λ f k. k })

pub every_chase_ends : EveryChaseEnds
every_chase_ends schema A fits =
    ends_within schema A (open_nulls [] (values A)) A [] [] (reached_first schema A fits) (omega arith)

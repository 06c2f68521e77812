-- The universal solutions that are cores are one up to the names of their nulls, and have the fewest facts.
use Rattle.std.proofs.Common.{List, ◌∷◌, ◌⊎◌, inl, inr, refl, subst, arith}
use Rattle.std.specs.Prelude.{map}
use Rattle.std.proofs.lemmas.Bool.{cases_eq}
use Rattle.dx_base.specs.Members.{◌∈◌, ◌⊆◌, Each, here, there}
use Rattle.dx_base.proofs.Members.{from_map, in_map, no_longer, same_members}
use Rattle.dx_model.specs.declared.values.NullId.{NullId}
use Rattle.dx_model.specs.declared.values.Value.{Value}
use Rattle.dx_model.specs.declared.facts.Fact.{Fact}
use Rattle.dx_model.specs.declared.rules.Rule.{Rule}
use Rattle.dx_model.specs.Values.{Conversions}
use Rattle.dx_model.specs.Blocks.{IsEquivalentPart}
use Rattle.dx_model.specs.Instances.{IsCore, Moves, fact_moved, given, image}
use Rattle.dx_model.specs.Solutions.{IsUniversal}
use Rattle.dx_model.specs.Tables.{Table}
use Rattle.dx_model.proofs.Decided.{decide_in, same_fact}
use Rattle.dx_model.proofs.Reduction.{and_then}
use Rattle.dx_core_laws.specs.Isomorphic.{AreIsomorphic, IsFactOf, NoMoreFacts, NoMoreNulls}
use Rattle.dx_core_laws.specs.Laws.{CoreIsLeast, CoreIsPart, CoresAreAlike, CoresExactly, LeastIsCore}
use Rattle.dx_core_laws.proofs.Alike.{core_goes, equivalent_cores, hom_moves, moves_on, taken_back}
use Rattle.dx_core_laws.proofs.Backs.{Undoes, isomorphism_by}
use Rattle.dx_core_laws.proofs.Many.{facts_no_more, nulls_no_more, those}
use Rattle.dx_core_laws.proofs.Solving.{image_is_universal, universal_goes}

pub cores_are_alike : CoresAreAlike
cores_are_alike convert R schema I T U u core v other =
    let h = u.into U v.solution in
    (h.0, equivalent_cores T U h.0 core other (v.into T u.solution) h.1)

pub cores_exactly : CoresExactly
cores_exactly convert R schema I T U u core = (
  (λ p. cores_are_alike convert R schema I T U u core p.0 p.1),
  (λ p. (universal_goes convert R schema I T U p u, core_goes T U p core)),
)

-- what is left where a core moves into an instance that moves into it
module _ (convert : Conversions) (R : List Rule) (schema : List Table) (I T U : List Fact) (u : IsUniversal convert R schema I T) (core : IsCore T)
    (v : IsUniversal convert R schema I U) where
  abbrev goes : NullId → Value
  goes = given (u.into U v.solution).0

  goes_there : Moves goes T U
  goes_there = hom_moves (u.into U v.solution).0 T U (u.into U v.solution).1

  back : (w : NullId → Value) × Undoes w goes T × Moves w U T
  back = taken_back T U core goes (given (v.into T u.solution).0) goes_there (hom_moves (v.into T u.solution).0 U T (v.into T u.solution).1)

  pub is_least : NoMoreFacts T U × NoMoreNulls T U
  is_least = (facts_no_more back.0 goes T U back.1 goes_there, nulls_no_more back.0 goes T U back.1 goes_there)

  pub is_part : (P : List Fact) × IsEquivalentPart U P × IsUniversal convert R schema I P × IsCore P × AreIsomorphic T P
  is_part =
      let P = map (fact_moved goes) T in
      let iso : AreIsomorphic T P = isomorphism_by goes back.0 T P back.1 (same_members P) in (
        P,
        record {
          inside = λ f m. let r = from_map (fact_moved goes) T m in subst (λ (x : Fact). x ∈ U) r.2 (goes_there r.0 r.1);
          moves = (and_then back.0 goes, moves_on back.0 goes U T P back.2 (λ f m. in_map (fact_moved goes) m));
        },
        universal_goes convert R schema I T P iso u,
        core_goes T P iso core,
        iso,
      )

pub core_is_part : CoreIsPart
core_is_part convert R schema I T U u core v = is_part convert R schema I T U u core v

pub core_is_least : CoreIsLeast
core_is_least convert R schema I T U u core v = is_least convert R schema I T U u core v

-- ---- the least is a core

-- a part that has as many facts in the table of a fact has this fact
has_all : (T P : List Fact) (f : Fact) → f ∈ T → P ⊆ T → NoMoreFacts T P → ¬ (¬ (f ∈ P))
has_all T P f m s few n =
    let t = f.table in
    let all = those (IsFactOf T t) same_fact decide T in
    let k = few t all.0 all.1 all.2 in
    let inside : (f ∷ k.0) ⊆ all.0 = within all.0 k.0 all.3 k.2 in
    let a = no_longer (f ∷ k.0) all.0 ((λ i. n ((k.2 f i).0)), k.1) inside in
    let b = k.3 in omega (arith, a, b)
  where
    decide : (x : Fact) → IsFactOf T f.table x ⊎ (¬ (IsFactOf T f.table x))
    decide x = elim (decide_in same_fact x T) [
      | inr k ↦ inr (λ p. k p.0)
      | inl i ↦ elim (cases_eq x.table f.table) [ inl e ↦ inl (i, e) | inr d ↦ inr (λ p. d p.1) ]
    ]

    within : (ys zs : List Fact) → ((x : Fact) → x ∈ T → IsFactOf T f.table x → x ∈ ys) → Each zs (IsFactOf P f.table) → (f ∷ zs) ⊆ ys
    within ys zs h each x (here e) = subst (λ (y : Fact). y ∈ ys) e (h f m (m, refl))
    within ys zs h each x (there i) = let p = each x i in h x (s x p.0) (s x p.0, p.1)

pub least_is_core : LeastIsCore
least_is_core convert R schema I T u least h hom f m = elim (decide_in same_fact f (image h T)) [
  | inl i ↦ i
  | inr n ↦ absurd (has_all T (image h T) f m hom.inside (least (image h T) (image_is_universal convert R schema I T h u hom)) n)
]

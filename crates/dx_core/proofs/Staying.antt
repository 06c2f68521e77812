-- Reductions whose map keeps nulls as they are.
use Rattle.std.proofs.Common.{◌≡◌, ◌∙◌, List, ap, inl, inr, refl, subst, sym}
use Rattle.std.specs.FinMap as finite
use Rattle.dx_base.specs.Members.{◌∈◌, ◌⊆◌, Each}
use Rattle.dx_base.proofs.Members.{from_map, in_flat_map, in_map}
use Rattle.dx_model.specs.declared.values.NullId.{NullId}
use Rattle.dx_model.specs.declared.values.Value.TheVariants.{Null}
use Rattle.dx_model.specs.declared.facts.Fact.{Fact}
use Rattle.dx_model.specs.Instances.{IsCore, IsNullMap, fact_moved, given, image, moved, values}
use Rattle.dx_model.specs.Values.{null_cmp}
use Rattle.dx_model.proofs.Decided.{decide_in, same_value}
use Rattle.dx_model.proofs.Reduction.{fact_stays}
use Rattle.dx_instance.specs.NullMaps.{ByNull, becomes, or_itself, pairs_of}
use Rattle.dx_instance.specs.Stored.{TableRows, facts}
use Rattle.dx_instance.proofs.AfterFacts.{pairs_give}
use Rattle.dx_rigid.proofs.Settled.{listed_given}
use Rattle.dx_rigid.specs.Part.{AreRigid}
use Rattle.dx_core.specs.Reducing.{IsReduction, Reduces}
use Rattle.dx_core.specs.declared.reduced.Reduced.{Reduced}
use Rattle.dx_core.proofs.Listed.{empty_proper, listed_moves, proper_pairs}

-- a map that keeps the nulls that are left is settled
pub settled_so : (I : List TableRows) (r : Reduced) → Reduces I r → IsNullMap (pairs_of r.map)
    → Each (values (facts r.instance)) (λ v. moved (becomes r.map) v ≡ v) → IsReduction I r
settled_so I r red null_map stays = record {
  inside = red.inside;
  folded = red.folded;
  stays = λ n i. pairs_give r.map n ∙ stays (Null n) i;
  core = red.core;
  null_map = null_map;
  listed = λ p m. elim (decide_in same_value (Null p.null) (values (facts I))) [
    | inl i ↦ i
    | inr k ↦ absurd (listed_given (pairs_of r.map) null_map p m (red.others p.null k))
  ];
  widths_stay = red.widths_stay;
  ascend = red.ascend;
}

module _ (A : List Fact) (rigid : AreRigid A) where
  -- every endomorphism keeps each fact
  core_of_rigid : IsCore A
  core_of_rigid h hom f m =
      let stays = fact_stays (given h) f (λ n k. rigid n (in_flat_map (λ (d : Fact). d.row) m k) (given h)
      (λ e i. hom.inside (fact_moved (given h) e) (in_map (fact_moved (given h)) i))) in
      subst (λ (x : Fact). x ∈ image h A) stays (in_map (fact_moved (given h)) m)

-- an instance of which all nulls are rigid is its own reduction, by the map that lists nothing
pub whole_reduction : (r : Reduced) → AreRigid (facts r.instance) → r.map ≡ finite.empty → IsReduction r.instance r
whole_reduction r rigid e = record {
  inside = λ f m. m;
  folded = (into, onto);
  stays = λ n i. keeps n;
  core = core_of_rigid (facts r.instance) rigid;
  null_map = proper_pairs r.map (empty_proper r.map e);
  listed = λ p m. absurd (listed_moves r.map (empty_proper r.map e) p m (none p.null));
  widths_stay = refl;
  ascend = λ up. up;
}
  where
    none : (n : NullId) → becomes r.map n ≡ Null n
    none n = ap (λ (k : ByNull). becomes k n) e ∙ ap (or_itself n) (finite.get-empty null_cmp n)

    keeps : (n : NullId) → given (pairs_of r.map) n ≡ Null n
    keeps n = pairs_give r.map n ∙ none n

    same : (f : Fact) → fact_moved (given (pairs_of r.map)) f ≡ f
    same f = fact_stays (given (pairs_of r.map)) f (λ n k. keeps n)

    into : image (pairs_of r.map) (facts r.instance) ⊆ facts r.instance
    into f m =
        let k = from_map (fact_moved (given (pairs_of r.map))) (facts r.instance) m in
        subst (λ (x : Fact). x ∈ facts r.instance) (sym (same k.0) ∙ k.2) k.1

    onto : facts r.instance ⊆ image (pairs_of r.map) (facts r.instance)
    onto f m = subst (λ (x : Fact). x ∈ image (pairs_of r.map) (facts r.instance)) (same f) (in_map (fact_moved (given (pairs_of r.map))) m)

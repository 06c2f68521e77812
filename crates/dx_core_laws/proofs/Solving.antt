-- Solutions of images, and of isomorphic instances.
use Rattle.std.proofs.Common.{◌≡◌, ◌∙◌, ℕ, List, refl, sym, ap, subst}
use Rattle.std.specs.Prelude.{map}
use Rattle.dx_base.specs.Members.{◌∈◌, ◌⊆◌, ◌≈◌}
use Rattle.dx_base.proofs.Members.{from_map, in_map, same_members}
use Rattle.dx_model.specs.declared.values.NullId.{NullId}
use Rattle.dx_model.specs.declared.values.Value.{Value}
use Rattle.dx_model.specs.declared.values.Value.TheVariants.{Null}
use Rattle.dx_model.specs.declared.facts.Fact.{Fact}
use Rattle.dx_model.specs.declared.rules.Rule.{Rule}
use Rattle.dx_model.specs.Values.{Conversions}
use Rattle.dx_model.specs.Instances.{MapsInto, fact_moved, given, image, moved}
use Rattle.dx_model.specs.Rules.{Satisfies}
use Rattle.dx_model.specs.Solutions.{IsSolution, IsUniversal}
use Rattle.dx_model.specs.Tables.{KeysHold, Table, table_of, values_in}
use Rattle.dx_model.proofs.ByMembers.{keys_by_members, maps_join}
use Rattle.dx_model.proofs.Closed.{image_fits, links_image}
use Rattle.dx_model.proofs.Forced.{values_moved}
use Rattle.dx_model.proofs.Maps.{into_by}
use Rattle.dx_model.proofs.Reduction.{fact_stays}
use Rattle.dx_model.proofs.Universal.{said_moved}
use Rattle.dx_rigid.proofs.Cores.{core_hit}
use Rattle.dx_core.proofs.Cores.{reduction_exists}
use Rattle.dx_core_laws.specs.Laws.{ImageIsUniversal, IsomorphicToUniversal, ReductIsUniversal, UniversalHasCore}
use Rattle.dx_core_laws.proofs.Alike.{back_moves}
use Rattle.dx_core_laws.proofs.Backs.{Undoes, back_of, fact_back}

-- where something takes back what g does, keys hold in the image too
pub keys_image : (schema : List Table) (w g : NullId → Value) (A : List Fact) → Undoes w g A → KeysHold schema A → KeysHold schema (map (fact_moved g) A)
keys_image schema w g A u keys a m b n t d k e =
    let p = from_map (fact_moved g) A m in
    let q = from_map (fact_moved g) A n in
    let of_p : p.0.table ≡ a.table = ap (λ (f : Fact). f.table) p.2 in
    let of_q : q.0.table ≡ b.table = ap (λ (f : Fact). f.table) q.2 in
    let a_row : map (moved w) a.row ≡ p.0.row = ap (λ (f : Fact). f.row) (ap (fact_moved w) (sym p.2) ∙ fact_back w g A u p.0 p.1) in
    let b_row : map (moved w) b.row ≡ q.0.row = ap (λ (f : Fact). f.row) (ap (fact_moved w) (sym q.2) ∙ fact_back w g A u q.0 q.1) in
    let left : values_in d.left p.0.row ≡ values_in d.left q.0.row =
    sym (ap (values_in d.left) a_row) ∙ (values_moved w d.left a.row ∙ (ap (map (moved w)) e
    ∙ (sym (values_moved w d.left b.row) ∙ ap (values_in d.left) b_row))) in
    let right : values_in d.right p.0.row ≡ values_in d.right q.0.row =
    keys p.0 p.1 q.0 q.1 (of_p ∙ (t ∙ sym of_q)) d (subst (λ (x : ℕ). d ∈ (table_of schema x).determinations) (sym of_p) k) left in
    sym (ap (λ (f : Fact). values_in d.right f.row) p.2) ∙ (values_moved g d.right p.0.row ∙ (ap (map (moved g)) right
    ∙ (sym (values_moved g d.right q.0.row) ∙ ap (λ (f : Fact). values_in d.right f.row) q.2)))

-- what receives an instance that satisfies a rule satisfies it
satisfies_moved : (convert : Conversions) (d : Rule) (I A B : List Fact) (g : NullId → Value) → map (fact_moved g) A ⊆ B → Satisfies convert d I A
    → Satisfies convert d I B
satisfies_moved convert d I A B g s sat texts w =
    let v = sat texts w in
    ((λ x. moved g (v.0 x)), λ a k. rw (sym (said_moved g texts v.0 a)) (s _ (in_map (fact_moved g) (v.1 a k))))

-- what has the facts of an image of a solution solves too, if keys hold in it
pub image_solves : (convert : Conversions) (R : List Rule) (schema : List Table) (I A B : List Fact) (g : NullId → Value) → map (fact_moved g) A ≈ B
    → KeysHold schema B → IsSolution convert R schema I A → IsSolution convert R schema I B
image_solves convert R schema I A B g s keys sol = record {
  fits = λ f m. image_fits schema A g sol.fits f (s.1 f m);
  rules = λ d k. satisfies_moved convert d I A B g s.0 (sol.rules d k);
  keys = keys;
  links = λ a m link l. let q = links_image schema A g sol.links a (s.1 a m) link l in (q.0, s.0 q.0 q.1, q.2, q.3);
}

-- and is universal, if it maps into the solution
pub image_universal : (convert : Conversions) (R : List Rule) (schema : List Table) (I A B : List Fact) (g : NullId → Value) → map (fact_moved g) A ≈ B
    → KeysHold schema B → MapsInto B A → IsUniversal convert R schema I A → IsUniversal convert R schema I B
image_universal convert R schema I A B g s keys into u = record {
  solution = image_solves convert R schema I A B g s keys u.solution;
  into = λ K k. maps_join B A K into (u.into K k);
}

-- a part maps into the whole
pub part_maps : (A B : List Fact) → A ⊆ B → MapsInto A B
part_maps A B s = into_by Null A B (λ f m. subst (λ (x : Fact). x ∈ B) (sym (fact_stays Null f (λ n k. refl))) (s f m))

pub universal_goes : IsomorphicToUniversal
universal_goes convert R schema I A B p u =
    let h = p.0 in
    let b = back_of h A B p.1 in
    let keys = keys_by_members schema B (image h A) p.1.onto.1 (keys_image schema b.0 (given h) A b.1 u.solution.keys) in
    image_universal convert R schema I A B (given h) p.1.onto keys (into_by b.0 B A (back_moves h b.0 A B p.1 b.1)) u

-- the image of an endomorphism is a part
pub image_is_universal : ImageIsUniversal
image_is_universal convert R schema I T h u hom =
    image_universal convert R schema I T (image h T) (given h) (same_members (image h T))
    (keys_by_members schema (image h T) T hom.inside u.solution.keys) (part_maps (image h T) T hom.inside) u

pub reduct_is_universal : ReductIsUniversal
reduct_is_universal convert R schema I U T u part core =
    image_universal convert R schema I U T part.moves.0 (into, onto) (keys_by_members schema T U part.inside u.solution.keys) (part_maps T U part.inside) u
  where
    into : map (fact_moved part.moves.0) U ⊆ T
    into f m = let r = from_map (fact_moved part.moves.0) U m in subst (λ (x : Fact). x ∈ T) r.2 (part.moves.1 r.0 r.1)

    onto : T ⊆ map (fact_moved part.moves.0) U
    onto f m =
        let e = core_hit T core part.moves.0 (λ d i. part.moves.1 d (part.inside d i)) f m in
        subst (λ (x : Fact). x ∈ map (fact_moved part.moves.0) U) e.2 (in_map (fact_moved part.moves.0) (part.inside e.0 e.1))

pub universal_has_core : UniversalHasCore
universal_has_core convert R schema I U u =
    let r = reduction_exists U in (
      r.0,
      r.2,
      image_universal convert R schema I U r.0 (given r.1) r.3 (keys_by_members schema r.0 U r.2 u.solution.keys) (part_maps r.0 U r.2) u,
      r.4,
    )

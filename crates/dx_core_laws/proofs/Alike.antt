-- Cores that map into each other are one up to the names of their nulls.
use Rattle.std.proofs.Common.{◌≡◌, ◌∙◌, List, sym, ap, subst}
use Rattle.dx_base.specs.Members.{◌∈◌, ◌⊆◌}
use Rattle.dx_base.proofs.Members.{from_map, in_map}
use Rattle.dx_model.specs.declared.values.NullId.{NullId}
use Rattle.dx_model.specs.declared.values.Value.{Value}
use Rattle.dx_model.specs.declared.facts.Fact.{Fact}
use Rattle.dx_model.specs.declared.facts.NullPair.{NullPair}
use Rattle.dx_model.specs.Instances.{IsCore, IsHomomorphism, Moves, fact_moved, given, image}
use Rattle.dx_model.proofs.Reduction.{and_then, fact_twice}
use Rattle.dx_rigid.proofs.Cores.{core_hit}
use Rattle.dx_rigid.proofs.Settled.{no_two, to_null}
use Rattle.dx_core_laws.specs.Isomorphic.{IsIsomorphism}
use Rattle.dx_core_laws.specs.Laws.{EquivalentCoresAreAlike, IsomorphicAreAsMany, IsomorphicToCore}
use Rattle.dx_core_laws.proofs.Backs.{Undoes, back_of, fact_back, goes_back, is_isomorphism, moved_twice, redoes, way_back}
use Rattle.dx_core_laws.proofs.Many.{facts_no_more, nulls_no_more}

-- a homomorphism moves
pub hom_moves : (h : List NullPair) (A B : List Fact) → IsHomomorphism h A B → Moves (given h) A B
hom_moves h A B hom f m = hom.inside (fact_moved (given h) f) (in_map (fact_moved (given h)) m)

-- what is moved on is moved
pub moves_on : (g w : NullId → Value) (A B C : List Fact) → Moves g A B → Moves w B C → Moves (and_then g w) A C
moves_on g w A B C s t f m = subst (λ (x : Fact). x ∈ C) (sym (fact_twice g w f)) (t (fact_moved g f) (s f m))

-- ---- a core that is moved away and back

module _ (A B : List Fact) (core : IsCore A) (h g : NullId → Value) (there : Moves h A B) (back : Moves g B A) where
  -- there and back the core only changes places among its nulls, so that something takes back what h does, and moves B into the core
  pub taken_back : (w : NullId → Value) × Undoes w h A × Moves w B A
  taken_back =
      let k = and_then h g in
      let round : Moves k A A = moves_on h g A B A there back in
      let b = way_back k A (λ n i. let r = to_null A core k round n i in (r.0, r.2))
      (λ m n i j e. let r = to_null A core k round n j in no_two A core k round m n r.0 i j (e ∙ r.2) r.2) in (
        and_then g b.0,
        (λ n i. moved_twice g b.0 (h n) ∙ b.1 n i),
        moves_on g b.0 B A A back (λ f m.
            let e = core_hit A core k round f m in
            subst (λ (x : Fact). x ∈ A) (sym (ap (fact_moved b.0) (sym e.2) ∙ fact_back b.0 k A b.1 e.0 e.1)) e.1),
      )

-- each homomorphism of a core into an equivalent one is an isomorphism
pub equivalent_cores : EquivalentCoresAreAlike
equivalent_cores A B h core other back hom =
    let g = given back.0 in
    let there = hom_moves h A B hom in
    let returns = hom_moves back.0 B A back.1 in
    let w = taken_back A B core (given h) g there returns in
    is_isomorphism h w.0 A B hom.null_map w.1 (hom.inside, onto g there returns)
  where
    onto : (g : NullId → Value) → Moves (given h) A B → Moves g B A → B ⊆ image h A
    onto g there returns f m =
        let e = core_hit B other (and_then g (given h)) (moves_on g (given h) B A B returns there) f m in
        subst (λ (x : Fact). x ∈ image h A) (sym (fact_twice g (given h) e.0) ∙ e.2) (in_map (fact_moved (given h)) (returns e.0 e.1))

-- ---- what isomorphic instances share

-- an isomorphism moves, and its way back does
pub iso_moves : (h : List NullPair) (A B : List Fact) → IsIsomorphism h A B → Moves (given h) A B
iso_moves h A B iso f m = iso.onto.0 (fact_moved (given h) f) (in_map (fact_moved (given h)) m)

pub back_moves : (h : List NullPair) (w : NullId → Value) (A B : List Fact) → IsIsomorphism h A B → Undoes w (given h) A → Moves w B A
back_moves h w A B iso u f m = (goes_back w (given h) A u B iso.onto).0 (fact_moved w f) (in_map (fact_moved w) m)

pub core_goes : IsomorphicToCore
core_goes A B p core k hom f m =
    let h = p.0 in
    let b = back_of h A B p.1 in
    let w = b.0 in
    let there = iso_moves h A B p.1 in
    let returns = back_moves h w A B p.1 b.1 in
    let turns = hom_moves k B B hom in
    let a = from_map (fact_moved (given h)) A (p.1.onto.1 f m) in
    let c = core_hit A core (and_then (and_then (given h) (given k)) w)
    (moves_on (and_then (given h) (given k)) w A B A (moves_on (given h) (given k) A B B there turns) returns) a.0 a.1 in
    let e : fact_moved w (fact_moved (given k) (fact_moved (given h) c.0)) ≡ a.0 =
    ap (fact_moved w) (sym (fact_twice (given h) (given k) c.0)) ∙ (sym (fact_twice (and_then (given h) (given k)) w c.0) ∙ c.2) in
    let x = fact_moved (given k) (fact_moved (given h) c.0) in
    let i : x ∈ B = turns (fact_moved (given h) c.0) (there c.0 c.1) in
    let q : x ≡ f = sym (fact_back (given h) w B (redoes w (given h) A b.1 B p.1.onto) x i) ∙ (ap (fact_moved (given h)) e ∙ a.2) in
    subst (λ (y : Fact). y ∈ image k B) q (in_map (fact_moved (given k)) (there c.0 c.1))

pub as_many : IsomorphicAreAsMany
as_many A B p =
    let b = back_of p.0 A B p.1 in
    let there = iso_moves p.0 A B p.1 in
    let returns = back_moves p.0 b.0 A B p.1 b.1 in
    let again = redoes b.0 (given p.0) A b.1 B p.1.onto in (
      facts_no_more b.0 (given p.0) A B b.1 there,
      facts_no_more (given p.0) b.0 B A again returns,
      nulls_no_more b.0 (given p.0) A B b.1 there,
      nulls_no_more (given p.0) b.0 B A again returns,
    )

-- What counts of an instance are its members.
use Rattle.std.proofs.Common.{◌≡◌, List, [], ◌∷◌, refl, sym, ◌∙◌, subst}
use Rattle.std.specs.declared.cmp.Ordering.TheVariants.{Greater}
use Rattle.std.specs.Prelude.{map}
use Rattle.dx_model.specs.declared.values.NullId.{NullId}
use Rattle.dx_model.specs.declared.values.Value.{Value}
use Rattle.dx_model.specs.declared.values.Value.TheVariants.{Const, Null}
use Rattle.dx_model.specs.declared.facts.Fact.{Fact}
use Rattle.dx_model.specs.declared.facts.NullPair.{NullPair}
use Rattle.dx_base.specs.Members.{◌∈◌, ◌⊆◌}
use Rattle.dx_base.proofs.Members.{in_map, from_map, in_flat_map, from_flat_map}
use Rattle.dx_model.specs.Values.{value_cmp}
use Rattle.dx_model.specs.Instances.{moved, fact_moved, given, values, image, IsHomomorphism}
use Rattle.dx_model.specs.Tables.{Table, FactFits}
use Rattle.dx_model.specs.Rules.{fact_of_atom}
use Rattle.dx_model.specs.Chase.{ForcedEqual}
use Rattle.dx_model.specs.Following.{frozen}
use Rattle.dx_model.specs.Laws.{MovesFollow, ForcedImageStays, UncoveredIsPart, KeysByMembers, ImageByMembers, ReductByMembers, ForcedMapByMembers, NoneReceivesByMembers, UniversalByMembers, CoreByMembers, KeyedMapIsEmpty, NoKeysHold, MapsJoin, SaidByMoves, FrozenFits}
use Rattle.dx_model.proofs.MembersAre.{canonical_are, uncovered_are}
use Rattle.dx_model.proofs.Maps.{into_by, moved_same}
use Rattle.dx_model.proofs.Orders.{value_total}
use Rattle.dx_model.proofs.Reduction.{and_then, fact_twice, fact_stays}
use Rattle.dx_model.proofs.Universal.{said_moved}
use Rattle.dx_model.proofs.Pruning.{said_fits, premise_constants}

pub image_part : (h : List NullPair) (A B : List Fact) → A ⊆ B → image h A ⊆ image h B
image_part h A B s f m = let w = from_map (fact_moved (given h)) A m in subst (λ e. e ∈ image h B) w.2 (in_map (fact_moved (given h)) (s w.0 w.1))

pub values_part : (A B : List Fact) → A ⊆ B → values A ⊆ values B
values_part A B s v m = let w = from_flat_map (λ (f : Fact). f.row) A m in in_flat_map (λ (f : Fact). f.row) (s w.0 w.1) w.2

pub from_part : (h : List NullPair) (A B K : List Fact) → A ⊆ B → IsHomomorphism h B K → IsHomomorphism h A K
from_part h A B K s m = record { null_map = m.null_map; inside = λ f k. m.inside f (image_part h A B s f k) }

-- what is forced equal stays so, where there is more
pub forced_more : (schema : List Table) (A B : List Fact) (x y : Value) → A ⊆ B → ForcedEqual schema A x y → ForcedEqual schema B x y
forced_more schema A B x y s e K g k h = e K g k (from_part g A B K s h)

pub forced_map_by_members : ForcedMapByMembers
forced_map_by_members schema A B m s f = record {
  null_map = f.null_map;
  here_alone = λ p k. values_part A B s.0 (Null p.null) (f.here_alone p k);
  gives = λ n k.
      let v = f.gives n (values_part B A s.1 (Null n) k) in record {
        forced = forced_more schema A B (Null n) (given m n) s.0 v.forced;
        constant = λ t e. v.constant t (forced_more schema B A (Null n) (Const t) s.1 e);
        of_here = λ l e. values_part A B s.0 (Null l) (v.of_here l e);
        least = λ l i e. v.least l (values_part B A s.1 (Null l) i) (forced_more schema B A (Null n) (Null l) s.1 e);
      };
}

pub none_receives_by_members : NoneReceivesByMembers
none_receives_by_members schema A B s n K g k h = n K g k (from_part g A B K s h)

pub universal_by_members : UniversalByMembers
universal_by_members convert R schema I T U s u = record {
  solution = record {
    fits = λ f m. u.solution.fits f (s.1 f m);
    rules = λ d k texts m. let w = u.solution.rules d k texts m in (w.0, λ a n. s.0 _ (w.1 a n));
    keys = λ a m b n. u.solution.keys a (s.1 a m) b (s.1 b n);
    links = λ a m l k. let w = u.solution.links a (s.1 a m) l k in (w.0, s.0 w.0 w.1, w.2, w.3);
  };
  into = λ K k. let w = u.into K k in (w.0, from_part w.0 U T K s.1 w.1);
}

pub keys_by_members : KeysByMembers
keys_by_members schema A B s k a m b n = k a (s a m) b (s b n)

pub image_by_members : ImageByMembers
image_by_members h A B s = (image_part h A B s.0, image_part h B A s.1)

pub reduct_by_members : ReductByMembers
reduct_by_members A B T s r = record {
  inside = λ f m. s.0 f (r.inside f m);
  moves = (r.moves.0, λ f m. r.moves.1 f (s.1 f m));
}

pub core_by_members : CoreByMembers
core_by_members A B s c h m f k =
    image_part h A B s.0 f
    (c h (record { null_map = m.null_map; inside = λ g l. s.1 g (m.inside g (image_part h A B s.0 g l)) }) f (s.1 f k))

-- ---- instances in which keys hold

not_greater : (v : Value) → ¬ (value_cmp v v ≡ Greater)
not_greater v e =
    let t = value_total.antisymm v v in
    cc (rw e at t)

pub keyed_map_is_empty : KeyedMapIsEmpty
keyed_map_is_empty schema A k = record {
  null_map = tt;
  here_alone = λ p m. elim m [ ];
  gives = λ n m. record {
    forced = λ K g l h. refl;
    constant = λ t e. e A [] k itself;
    of_here = λ l e. subst (λ (v : Value). v ∈ values A) e m;
    least = λ l i e. subst (λ (v : Value). ¬ (value_cmp (Null n) v ≡ Greater)) (e A [] k itself) (not_greater (Null n));
  };
}
  where
    itself : IsHomomorphism [] A A
    itself = record { null_map = tt; inside = λ f m. let w = from_map (fact_moved (given [])) A m in subst (λ (e : Fact). e ∈ A) (sym (fact_stays (given []) w.0 (λ n k. refl)) ∙ w.2) w.1 }

pub no_keys_hold : NoKeysHold
no_keys_hold schema K none a m b n e d k = elim (rw (none a m) at k) [ ]

-- ---- homomorphisms one after the other

pub maps_join : MapsJoin
maps_join A B C p q =
    into_by (and_then (given p.0) (given q.0)) A C
    (λ f m. subst (λ (e : Fact). e ∈ C) (sym (fact_twice (given p.0) (given q.0) f))
    (q.1.inside _ (in_map (fact_moved (given q.0)) (p.1.inside _ (in_map (fact_moved (given p.0)) m)))))

pub moves_follow : MovesFollow
moves_follow f g h A s = moved_same h (and_then f g) A s ∙ twice A
  where
    twice : (A : List Fact) → map (fact_moved (and_then f g)) A ≡ map (fact_moved g) (map (fact_moved f) A)
    twice [] = refl
    twice (e ∷ A) = let a = fact_twice f g e in let b = twice A in cc

from_moved : (g : NullId → Value) (n : NullId) (w : Value) → moved g w ≡ Null n → (k : NullId) × (w ≡ Null k) × (g k ≡ Null n)
from_moved g n (Const t) e = absurd (cc)
from_moved g n (Null k) e = (k, refl, e)

pub forced_image_stays : ForcedImageStays
forced_image_stays schema A m n f i =
    let e = from_flat_map (λ (e : Fact). e.row) (image m A) i in
    let a = from_map (fact_moved (given m)) A e.1 in
    let v = from_map (moved (given m)) a.0.row (subst (λ (x : Fact). Null n ∈ x.row) (sym a.2) e.2) in
    let k = from_moved (given m) n v.0 v.2 in
    let stands : Null k.0 ∈ values A = in_flat_map (λ (x : Fact). x.row) a.1 (subst (λ (x : Value). x ∈ a.0.row) k.1 v.1) in
    (f.gives k.0 stands).of_here n k.2

pub uncovered_is_part : UncoveredIsPart
uncovered_is_part cover R rows f m = let w = (uncovered_are cover R rows f).0 m in (canonical_are R rows f).1 (w.0, w.1, w.2, w.4)

-- ---- what atoms say, with nulls for existential variables

pub said_by_moves : SaidByMoves
said_by_moves texts atoms K = (
  (λ w. (
    (λ n. w.0 n.var),
    λ f m.
        let a = from_map (fact_of_atom texts (λ v. Null (record { rule = 0; var = v; row = 0 }))) atoms m in
        subst (λ (e : Fact). fact_moved (λ n. w.0 n.var) e ∈ K) a.2 (rw (said_moved (λ n. w.0 n.var) texts (λ v. Null (record { rule = 0; var = v; row = 0 })) a.0) (w.1 a.0 a.1)),
  )),
  (λ w. (
    (λ v. w.0 (record { rule = 0; var = v; row = 0 })),
    λ a m. rw (← said_moved w.0 texts (λ v. Null (record { rule = 0; var = v; row = 0 })) a) (w.1 _ (in_map (fact_of_atom texts (λ v. Null (record { rule = 0; var = v; row = 0 }))) m)),
  )),
)

pub frozen_fits : FrozenFits
frozen_fits freeze source target d r = (
  (λ f m. let w = from_map _ d.premise m in subst (FactFits source) w.2 (said_fits source freeze (λ _. Const []) w.0 (r.premise w.0 w.1))),
  (λ v m.
      let w = from_flat_map (λ (f : Fact). f.row) (frozen freeze d) m in
      let a = from_map _ d.premise w.1 in
      premise_constants freeze a.0.cells v (subst (λ (f : Fact). v ∈ f.row) (sym a.2) w.2)),
)

-- A plain exchange is one, and one in core mode is one up to the names of nulls.
use Rattle.std.proofs.Common.{◌≡◌, ◌∙◌, ℕ, Bool, true, false, cond, List, [], ◌∷◌, inl, inr, Option, Some, None, refl, sym, ap, subst, arith, map}
use Rattle.std.specs.FinMap as finite
use Rattle.std.specs.FinMap.Entries.{find}
use Rattle.std.specs.Ordering.{is_eq}
use Rattle.std.proofs.lemmas.Option.{none-some}
use Rattle.dx_base.specs.Members.{◌∈◌, ◌⊆◌, ◌≈◌, Distinct, here, there}
use Rattle.dx_base.proofs.Members.{same_sym, same_trans}
use Rattle.dx_model.specs.declared.values.NullId.{NullId}
use Rattle.dx_model.specs.declared.values.Value.{Value}
use Rattle.dx_model.specs.declared.values.Value.TheVariants.{Null}
use Rattle.dx_model.specs.declared.facts.Fact.{Fact}
use Rattle.dx_model.specs.declared.facts.NullPair.{NullPair}
use Rattle.dx_model.specs.declared.rules.Rule.{Rule}
use Rattle.dx_model.specs.Values.{Conversions, Rows, RowsAscend, null_cmp, row_cmp}
use Rattle.dx_model.specs.Chase.{IsForcedMap}
use Rattle.dx_model.specs.Instances.{IsCore, IsNullMap, given, image, values}
use Rattle.dx_model.specs.Rules.{AreRows, canonical}
use Rattle.dx_model.specs.Solutions.{IsUniversal}
use Rattle.dx_model.specs.Tables.{Table}
use Rattle.dx_model.proofs.Ascending.{ascending_distinct, one_ascending}
use Rattle.dx_model.proofs.Decided.{decide_in, same_value}
use Rattle.dx_model.proofs.OneMap.{one_map}
use Rattle.dx_model.proofs.Orders.{null_exact, null_total}
use Rattle.dx_model.proofs.RowsExist.{rows_of_all, rows_of_all_by_members}
use Rattle.dx_instance.specs.NullMaps.{ByNull, becomes, or_itself, pairs_of}
use Rattle.dx_instance.specs.Stored.{TableRows, facts, rows_of, widths}
use Rattle.dx_instance.proofs.AfterFacts.{pairs_give, tie}
use Rattle.dx_instance.proofs.NullFacts.{pair_of}
use Rattle.dx_instance.proofs.Placed.{row_total}
use Rattle.dx_instance.proofs.StoredFacts.{fact_from_row, row_from_fact, same_tables}
use Rattle.dx_rigid.proofs.Settled.{listed_given, unlisted}
use Rattle.dx_exchange.specs.declared.mode.Mode.{Mode}
use Rattle.dx_exchange.specs.declared.mode.Mode.TheVariants.{Plain, Core}
use Rattle.dx_exchange.specs.declared.result.Exchange.{Exchange}
use Rattle.dx_exchange.specs.Exchanging.{ExchangeInput, IsCoreMode, IsExchange, IsOfMode}
use Rattle.dx_core_laws.specs.Isomorphic.{OfOneSource}
use Rattle.dx_core_laws.specs.Laws.{CoreModeIsLeast, CoreModeIsOne, CoreModeIsPart, PlainIsOne, PlainPassesOne, in_plain_mode}
use Rattle.dx_core_laws.proofs.Least.{core_is_least, core_is_part, cores_are_alike}
use Rattle.dx_core_laws.proofs.Many.{rows_no_more}
use Rattle.dx_core_laws.proofs.More.{brought}

-- ---- finite maps that give the same

-- a value that is found is that of a pair
found_pair : (es : List (NullId × Value)) (n : NullId) (v : Value) → find null_cmp n es ≡ Some v
    → (p : NullPair) × (p ∈ map pair_of es) × (p.null ≡ n) × (p.value ≡ v)
found_pair [] n v e = absurd (none-some v e)
found_pair (x ∷ es) n v e = by (found_pair es n v) (is_eq (null_cmp n x.0)) refl e
  where
    by : (find null_cmp n es ≡ Some v → (p : NullPair) × (p ∈ map pair_of es) × (p.null ≡ n) × (p.value ≡ v)) → (b : Bool) → is_eq (null_cmp n x.0) ≡ b
        → cond b (Some x.1) (find null_cmp n es) ≡ Some v → (p : NullPair) × (p ∈ map pair_of (x ∷ es)) × (p.null ≡ n) × (p.value ≡ v)
    by rest true t q = let same : x.1 ≡ v = cc q in (pair_of x, here refl, sym (null_exact n x.0 (tie (null_cmp n x.0) t)), same)
    by rest false t q = let r = rest q in (r.0, there r.1, r.2, r.3)

proper : (m : ByNull) → IsNullMap (pairs_of m) → (n : NullId) (v : Value) → finite.get m n ≡ Some v → ¬ (v ≡ Null n)
proper m d n v e q =
    let r = found_pair (finite.entries m) n v (sym (finite.get-entries m n) ∙ e) in
    listed_given (pairs_of m) d r.0 r.1
    (subst (λ (x : NullId). given (pairs_of m) x ≡ Null x) (sym r.2) (pairs_give m n ∙ (ap (or_itself n) e ∙ q)))

same_get : (m k : ByNull) → IsNullMap (pairs_of m) → IsNullMap (pairs_of k) → ((n : NullId) → becomes m n ≡ becomes k n) → (n : NullId)
    → finite.get m n ≡ finite.get k n
same_get m k d c s n = by (finite.get m n) (finite.get k n) refl refl (s n)
  where
    by : (o p : Option Value) → finite.get m n ≡ o → finite.get k n ≡ p → or_itself n o ≡ or_itself n p → o ≡ p
    by None None a b e = refl
    by None (Some v) a b e = absurd (proper k c n v b (sym e))
    by (Some v) None a b e = absurd (proper m d n v a e)
    by (Some v) (Some w) a b e = ap Some e

-- the forced map, as it is stored, is one
one_fold : (schema : List Table) (A : List Fact) (m k : ByNull) → IsForcedMap schema A (pairs_of m) → IsForcedMap schema A (pairs_of k) → m ≡ k
one_fold schema A m k f g =
    finite.same_map null_total null_exact m k
    (same_get m k f.null_map g.null_map (λ n. sym (pairs_give m n) ∙ (same n ∙ pairs_give k n)))
  where
    stays : (h : ByNull) → IsForcedMap schema A (pairs_of h) → (n : NullId) → ¬ (Null n ∈ values A) → given (pairs_of h) n ≡ Null n
    stays h l n d = unlisted (pairs_of h) n (λ p i e. d (subst (λ (x : NullId). Null x ∈ values A) e (l.here_alone p i)))

    same : (n : NullId) → given (pairs_of m) n ≡ given (pairs_of k) n
    same n = elim (decide_in same_value (Null n) (values A)) [
      | inl i ↦ one_map schema A (pairs_of m) (pairs_of k) f g n i
      | inr d ↦ stays m f n d ∙ sym (stays k g n d)
    ]

-- ---- instances whose rows ascend

one_target : (I K : List TableRows) → widths I ≡ widths K → ((t : ℕ) → RowsAscend (rows_of I t)) → ((t : ℕ) → RowsAscend (rows_of K t))
    → facts I ≈ facts K → I ≡ K
one_target I K w a b s =
    same_tables I K w (λ t.
    one_ascending row_cmp row_total (rows_of I t) (rows_of K t) (a t) (b t) (rows_in I K t s.0) (rows_in K I t s.1))
  where
    rows_in : (X Y : List TableRows) (t : ℕ) → facts X ⊆ facts Y → rows_of X t ⊆ rows_of Y t
    rows_in X Y t h row m = row_from_fact Y (record { table = t; row = row }) (h (record { table = t; row = row }) (fact_from_row X t row m))

once : (I : List TableRows) → ((t : ℕ) → RowsAscend (rows_of I t)) → (t : ℕ) → Distinct (rows_of I t)
once I up t = ascending_distinct row_cmp row_total (rows_of I t) (up t)

-- ---- two exchanges of one source

module _ (convert : Conversions) (a b : ExchangeInput) (e d : Exchange) (one : OfOneSource a b) (x : IsExchange convert a e) (y : IsExchange convert b d) where
  pub one_matches : e.matches ≡ d.matches
  one_matches =
      (rows_of_all convert a.rules a.rows e.matches d.matches x.matches
      (rows_of_all_by_members convert a.rules b.rows a.rows d.matches (same_sym one.rows)
      (subst (λ (R : List Rule). AreRows convert R b.rows d.matches) (sym one.rules) y.matches))).0

  pub one_widths : widths e.target ≡ widths d.target
  one_widths = x.widths_are ∙ (ap (λ (s : List Table). map (λ (t : Table). t.width) s) one.schema ∙ sym y.widths_are)

  pub brought_universal : IsUniversal convert a.rules a.schema a.rows (facts d.target)
  brought_universal = brought convert a.rules b.rules a.schema b.schema a.rows b.rows (facts d.target) one.rules one.schema one.rows y.universal

  one_canonical : canonical 0 b.rules d.matches ≡ canonical 0 a.rules e.matches
  one_canonical = ap (λ (R : List Rule). canonical 0 R d.matches) (sym one.rules) ∙ ap (λ (M : Rows). canonical 0 a.rules M) (sym one_matches)

  pub plain_one : a.mode ≡ Plain → b.mode ≡ Plain → e ≡ d
  plain_one p q =
      let C = canonical 0 a.rules e.matches in
      let f : IsForcedMap a.schema C (pairs_of e.fold) =
      subst (λ (m : Mode). IsOfMode m a.schema a.rules e.matches (pairs_of e.fold) (facts e.target)) p x.by_mode in
      let own : IsForcedMap b.schema (canonical 0 b.rules d.matches) (pairs_of d.fold) =
      subst (λ (m : Mode). IsOfMode m b.schema b.rules d.matches (pairs_of d.fold) (facts d.target)) q y.by_mode in
      let g : IsForcedMap a.schema C (pairs_of d.fold) =
      subst (λ (A : List Fact). IsForcedMap a.schema A (pairs_of d.fold)) one_canonical
      (subst (λ (s : List Table). IsForcedMap s (canonical 0 b.rules d.matches) (pairs_of d.fold)) (sym one.schema) own) in
      let fold : e.fold ≡ d.fold = one_fold a.schema C e.fold d.fold f g in
      let other : image (pairs_of e.fold) C ≈ facts d.target =
      subst (λ (m : ByNull). image (pairs_of m) C ≈ facts d.target) (sym fold)
      (subst (λ (A : List Fact). image (pairs_of d.fold) A ≈ facts d.target) one_canonical y.folded) in
      let target : e.target ≡ d.target = one_target e.target d.target one_widths x.ascend y.ascend (same_trans (same_sym x.folded) other) in
      let matches = one_matches in
      λ i. record { matches = matches i; fold = fold i; target = target i }

-- the target of core mode is a core
pub target_is_core : (convert : Conversions) (a : ExchangeInput) (e : Exchange) → a.mode ≡ Core → IsExchange convert a e → IsCore (facts e.target)
target_is_core convert a e p x =
    let k : IsCoreMode a.schema a.rules e.matches (pairs_of e.fold) (facts e.target) =
    subst (λ (m : Mode). IsOfMode m a.schema a.rules e.matches (pairs_of e.fold) (facts e.target)) p x.by_mode in
    k.core

pub plain_is_one : PlainIsOne
plain_is_one convert a b e d one p q x y = plain_one convert a b e d one x y p q

pub plain_passes_one : PlainPassesOne
plain_passes_one convert c a e d x y =
    plain_is_one convert (in_plain_mode a) (in_plain_mode a) e d
    (record { rules = refl; schema = refl; rows = ((λ f m. m), (λ f m. m)) }) refl refl x y

pub core_mode_is_least : CoreModeIsLeast
core_mode_is_least convert a e K p x u =
    let least = core_is_least convert a.rules a.schema a.rows (facts e.target) (facts K) x.universal (target_is_core convert a e p x) u in
    (rows_no_more e.target K (once e.target x.ascend) least.0, least.1)

pub core_mode_is_one : CoreModeIsOne
core_mode_is_one convert a b e d one p q x y =
    let u = brought_universal convert a b e d one x y in
    let c = target_is_core convert a e p x in
    let k = target_is_core convert b d q y in
    let few = core_is_least convert a.rules a.schema a.rows (facts e.target) (facts d.target) x.universal c u in
    let more = core_is_least convert a.rules a.schema a.rows (facts d.target) (facts e.target) u k x.universal in
    record {
      matches = one_matches convert a b e d one x y;
      widths_are = one_widths convert a b e d one x y;
      targets = cores_are_alike convert a.rules a.schema a.rows (facts e.target) (facts d.target) x.universal c u k;
      many = λ t.
          let m = rows_no_more e.target d.target (once e.target x.ascend) few.0 t in
          let n = rows_no_more d.target e.target (once d.target y.ascend) more.0 t in
          omega (arith, m, n);
    }

pub core_mode_is_part : CoreModeIsPart
core_mode_is_part convert a b e d one p q x y =
    let u = brought_universal convert a b e d one x y in
    let c = target_is_core convert a e p x in
    let k = core_is_part convert a.rules a.schema a.rows (facts e.target) (facts d.target) x.universal c u in
    ((k.0, k.1.inside, k.4), (core_mode_is_least convert a e d.target p x u).0)

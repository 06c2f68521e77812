-- What the code finds in a stored instance, as a verdict.
use Rattle.std.proofs.Common.{◌≡◌, ◌⊎◌, ℕ, ◌≤◌, List, [], inl, inr, refl, sym, subst, get_or, Some, None, Result, Ok, Err}
use Rattle.std.specs.Prelude.{map, IfOk}
use Rattle.std.specs.declared.alloc.AllocError.{AllocError}
use Rattle.std.specs.declared.cmp.Ordering.TheVariants.{Less}
use Rattle.dx_base.specs.Members.{◌∈◌, ◌⊆◌, ◌≈◌, Each}
use Rattle.dx_base.proofs.Members.{in_at, same_sym, same_trans}
use Rattle.dx_model.specs.declared.facts.Fact.{Fact}
use Rattle.dx_model.specs.declared.rules.Rule.{Rule}
use Rattle.dx_model.specs.Values.{Conversions, Rows, RowsAscend, row_cmp}
use Rattle.dx_model.specs.Instances.{MapsInto, image}
use Rattle.dx_model.specs.Tables.{IsInstance, Table}
use Rattle.dx_model.specs.Chase.{NoneReceives}
use Rattle.dx_model.specs.Covers.{IsPlace}
use Rattle.dx_model.specs.Rules.{AreRows, canonical}
use Rattle.dx_model.specs.Solutions.{IsClosed, IsSolution, IsUniversal}
use Rattle.dx_model.proofs.ByMembers.{core_by_members, forced_map_by_members, image_by_members, keys_by_members, maps_join, universal_by_members}
use Rattle.dx_model.proofs.Closed.{chased_universal}
use Rattle.dx_model.proofs.Reduced.{no_solution}
use Rattle.dx_instance.specs.NullMaps.{pairs_of}
use Rattle.dx_instance.specs.Stored.{IsSorting, TableRows, facts, rows_of}
use Rattle.dx_instance.proofs.StoredFacts.{fact_from_row, sorting_facts}
use Rattle.dx_blocks.proofs.NullLists.{ascends_at}
use Rattle.dx_core.specs.declared.reduced.Reduced.{Reduced}
use Rattle.dx_core.specs.Reducing.{IsReduction}
use Rattle.dx_judge.specs.declared.verdict.Why.{Why}
use Rattle.dx_judge.specs.declared.verdict.Verdict.{Verdict}
use Rattle.dx_judge.specs.declared.verdict.Verdict.TheVariants as verdicts
use Rattle.dx_judge.specs.Open.{IsFirstReason, IsKeyOrLink}
use Rattle.dx_judge.specs.Parts.{IsChasedOf, IsSolutionVerdict, IsUniversalOne}
use Rattle.dx_stages.specs.Worlds.{World}
use Rattle.dx_tgd.specs.declared.fault.CanonFault.{CanonFault}
use Rattle.dx_tgd.specs.declared.fault.CanonFault.TheVariants as canon
use Rattle.dx_tgd.specs.Counting.{canonical_cells}
use Rattle.dx_tgd.specs.Found.{IsCanonicalRefusal}
use Rattle.dx_judge.specs.declared.fault.JudgeFault.TheVariants as faults
use Rattle.dx_judge.specs.Faults.{judge_fault_of}
use Rattle.dx_judge.specs.Verdicts.{HasNoVerdict, IsJudgement, IsReason, IsVerdict, JudgeInput, PlaceHolds}
use Rattle.dx_judge.proofs.Members.{verdict_by_members}
use Rattle.dx_judge.proofs.Deciding.{rules_hold_by}

-- what is judged, with the facts of a stored instance
abbrev pub judged : List Rule → List Table → List Fact → List TableRows → ℕ → JudgeInput
judged R schema I G limit = record { rules = R; schema = schema; rows = I; given = facts G; limit = limit }

module _ (convert : Conversions) (R : List Rule) (schema : List Table) (I : List Fact) (rows : Rows) (are : AreRows convert R I rows)
    (G : List TableRows) (limit : ℕ) where
  abbrev a : JudgeInput
  a = judged R schema I G limit

  abbrev AllHold : Type 0
  AllHold = (i k : ℕ) → IsPlace R rows i k → PlaceHolds R rows (facts G) i k

  key_or_link : ((t : ℕ) → RowsAscend (rows_of G t)) → AllHold → (w : Why) → IsKeyOrLink schema G (Some w) → IsReason convert a w
  key_or_link ascend hold w (inl k) =
      let b = k.0 in
      let is = k.1 in
      let less = is.in_order in
      subst (IsReason convert a) (sym k.2) (record {
        rules_hold = rules_hold_by convert R I (facts G) rows are hold;
        first = is.first;
        break = is.break;
        lesser = ascends_at (λ r s. row_cmp r s ≡ Less) (rows_of G b.table) (ascend b.table) b.left b.right [] is.in_order is.within;
      })
  key_or_link ascend hold w (inr k) =
      let r = k.1 in
      let is = k.2 in
      subst (IsReason convert a) (sym k.3) (record {
        rules_hold = rules_hold_by convert R I (facts G) rows are hold;
        keys_hold = k.0;
        first = is.first;
        is_there = fact_from_row G r.table (get_or (rows_of G r.table) r.place []) (in_at (rows_of G r.table) r.place [] is.within);
        alone = is.alone;
      })

  -- a reason that was found is one
  pub is_reason : ((t : ℕ) → RowsAscend (rows_of G t)) → (w : Why) → IsFirstReason R rows schema G (Some w) → IsReason convert a w
  is_reason ascend w (inl p) = subst (IsReason convert a) (sym p.2) (record { matches = rows; are = are; first = p.1 })
  is_reason ascend w (inr k) = key_or_link ascend k.0 w k.1

  -- if none was found, it is a solution
  pub is_solution : IsInstance schema (facts G) → IsFirstReason R rows schema G None → IsSolution convert R schema I (facts G)
  is_solution fits k = record {
    fits = fits;
    rules = rules_hold_by convert R I (facts G) rows are k.0;
    keys = k.1;
    links = k.2;
  }

  -- ---- the verdict on a solution

  pub received : (C : List TableRows) → facts C ⊆ canonical 0 R rows → IsSolution convert R schema I (facts G) → ¬ (NoneReceives schema (facts C))
  received C s solution none = no_solution convert R schema I (facts C) (facts G) rows are s none solution

  -- what the chase makes of the canonical instance is universal
  pub chased_one : (C K : List TableRows) → facts C ≈ canonical 0 R rows → Each R (IsClosed schema) → IsChasedOf schema C K
      → IsUniversal convert R schema I (facts K)
  chased_one C K same closed c =
      let m = pairs_of c.0 in
      let D = canonical 0 R rows in
      let forced = forced_map_by_members schema (facts C) D m same c.1.forced in
      let folded : image m D ≈ facts K = same_trans (image_by_members m D (facts C) (same_sym same)) c.1.imaged.is in
      universal_by_members convert R schema I (image m D) (facts K) folded
      (chased_universal convert R schema I rows m are closed forced (keys_by_members schema (image m D) (facts K) folded.0 c.1.keyed.keys))

  universal_one : IsUniversal convert R schema I (facts G) → (v : Verdict) → IsUniversalOne G v → IsVerdict convert a v
  universal_one u (verdicts.NotSolution why) k = absurd k
  universal_one u (verdicts.Solution other) k = absurd k
  universal_one u (verdicts.Universal map missed) k = record { universal = u; endomorphism = k.0; is_there = k.1; lacks = k.2 }
  universal_one u verdicts.Core k = record { universal = u; core = k }

  pub solution_verdict : (C : List TableRows) → facts C ≈ canonical 0 R rows → Each R (IsClosed schema) → IsSolution convert R schema I (facts G)
      → (v : Verdict) → IsSolutionVerdict schema C G v → IsVerdict convert a v
  solution_verdict C same closed solution v k = go k.2
    where
      T : IsUniversal convert R schema I (facts k.0)
      T = chased_one C k.0 same closed k.1

      go : (MapsInto (facts G) (facts k.0) × IsUniversalOne G v) ⊎ ((¬ (MapsInto (facts G) (facts k.0))) × (v ≡ verdicts.Solution k.0))
          → IsVerdict convert a v
      go (inl w) = universal_one
          (record { solution = solution; into = λ L other. maps_join (facts G) (facts k.0) L w.0 (T.into L other) }) v w.1
      go (inr w) = subst (IsVerdict convert a) (sym w.1) (record { solution = solution; other_too = T.solution; misses = w.0 })

pub universal_answered : (schema : List Table) (C K I : List TableRows) (r : Result Verdict AllocError) → IsChasedOf schema C K
    → MapsInto (facts I) (facts K) → IfOk r (IsUniversalOne I) → IfOk r (IsSolutionVerdict schema C I)
universal_answered schema C K I (Ok v) chased into k = (K, chased, inl (into, k))
universal_answered schema C K I (Err e) chased into k = tt

-- ---- what a reduction tells

pub no_fact_missed : (G S : List TableRows) (r : Reduced) → facts S ≈ facts G → IsReduction S r → facts G ⊆ facts r.instance
    → IsUniversalOne G verdicts.Core
no_fact_missed G S r same k all =
    core_by_members (facts r.instance) (facts G) ((λ f m. same.0 f (k.inside f m)), all) k.core

pub fact_missed : (G S : List TableRows) (r : Reduced) (f : Fact) → facts S ≈ facts G → IsReduction S r → f ∈ facts G → ¬ (f ∈ facts r.instance)
    → IsUniversalOne G (verdicts.Universal r.map f)
fact_missed G S r f same k m n = (
  record {
    null_map = k.null_map;
    inside = λ g i. same.0 g (k.inside g (k.folded.0 g ((image_by_members (pairs_of r.map) (facts G) (facts S) (same_sym same)).0 g i)));
  },
  m,
  (λ i. n (k.folded.0 f ((image_by_members (pairs_of r.map) (facts G) (facts S) (same_sym same)).0 f i))),
)

-- ---- the answers of the judge

-- a verdict on the facts put in order is one on the facts as they were given
pub as_given : (convert : Conversions) (R : List Rule) (schema : List Table) (I : List Fact) (G S : List TableRows) (limit : ℕ) (v : Verdict)
    → IsSorting G S → IsVerdict convert (judged R schema I S limit) v → IsVerdict convert (judged R schema I G limit) v
as_given convert R schema I G S limit v s r =
    verdict_by_members convert (judged R schema I S limit) (facts G) v (sorting_facts G S s) r

-- a fault of the canonical instance is one of the judge
pub canonical_refused : (convert : Conversions) (a : JudgeInput) (f : CanonFault) → IsCanonicalRefusal convert a.rules a.rows a.limit f
    → (judge_fault_of f ≡ faults.Memory) ⊎ (World → HasNoVerdict convert a (judge_fault_of f))
canonical_refused convert a (canon.Limit l) k = inr (λ world. k)
canonical_refused convert a canon.Memory k = inl refl

-- the verdict, within the limit
pub judgement : (convert : Conversions) (R : List Rule) (schema : List Table) (I : List Fact) (G : List TableRows) (limit : ℕ) (M : Rows) (v : Verdict)
    → AreRows convert R I M → canonical_cells R M ≤ limit → IsVerdict convert (judged R schema I G limit) v
    → World → IsJudgement convert (judged R schema I G limit) v
judgement convert R schema I G limit M v are few is world = record { matches = M; are = are; within = few; verdict = is }

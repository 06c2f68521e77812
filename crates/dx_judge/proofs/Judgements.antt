-- The laws of verdicts.
use Rattle.std.proofs.Common.{◌≡◌, ◌∙◌, ◌⊎◌, List, None, inl, inr, refl, sym, ap, subst, arith}
use Rattle.std.specs.Prelude.{map}
use Rattle.std.proofs.lemmas.Bool.{cases_lt}
use Rattle.dx_base.specs.Members.{◌∈◌}
use Rattle.dx_base.specs.declared.file.Count.TheVariants.{TargetCells}
use Rattle.dx_base.specs.declared.file.Limit.{Limit as LimitOf}
use Rattle.dx_funcs.specs.declared.conversion.Conversion.{Conversion}
use Rattle.dx_model.specs.declared.facts.Fact.{Fact}
use Rattle.dx_model.specs.declared.rules.Rule.{Rule}
use Rattle.dx_model.specs.declared.values.NullId.{NullId}
use Rattle.dx_model.specs.declared.values.Value.{Value}
use Rattle.dx_model.specs.Values.{Conversions, Rows}
use Rattle.dx_model.specs.Instances.{fact_moved, image}
use Rattle.dx_model.specs.Tables.{KeysHold, Table}
use Rattle.dx_model.specs.Rules.{AreRows, canonical}
use Rattle.dx_model.specs.Covers.{IsPlace}
use Rattle.dx_model.specs.Following.{SatisfyAll}
use Rattle.dx_model.specs.Solutions.{IsSolution, IsUniversal}
use Rattle.dx_model.proofs.ByMembers.{core_by_members, maps_join}
use Rattle.dx_model.proofs.Decided.{decide_in, same_fact}
use Rattle.dx_model.proofs.Reduced.{no_solution}
use Rattle.dx_model.proofs.RowsExist.{rows_of_all}
use Rattle.dx_instance.specs.NullMaps.{pairs_of}
use Rattle.dx_instance.specs.Stored.{facts}
use Rattle.dx_core.proofs.Cores.{reduction_exists}
use Rattle.dx_tgd.specs.Counting.{canonical_cells}
use Rattle.dx_tgd.proofs.Founds.{rows_all_exist}
use Rattle.dx_exchange.specs.declared.fault.ExFault.{ExFault}
use Rattle.dx_exchange.specs.declared.fault.ExFault.TheVariants as ex
use Rattle.dx_exchange.specs.declared.mode.Mode.TheVariants.{Plain}
use Rattle.dx_exchange.specs.declared.result.Exchange.{Exchange}
use Rattle.dx_exchange.specs.Exchanging.{ExchangeInput, HasNoExchange as NoExchange}
use Rattle.dx_exchange.proofs.Decided.{exchange_or_none}
use Rattle.dx_exchange.proofs.Listing.{listing, null_map, same_given}
use Rattle.dx_stages.proofs.Decided.{notions_decided}
use Rattle.dx_fails.specs.Firsts.{DeterminationHolds, HasDetermination, HasLink, IsFirstFailing, LinkHolds}
use Rattle.dx_judge.specs.declared.verdict.Why.{Why}
use Rattle.dx_judge.specs.declared.verdict.Why.TheVariants as whys
use Rattle.dx_judge.specs.declared.verdict.Verdict.{Verdict}
use Rattle.dx_judge.specs.declared.verdict.Verdict.TheVariants as verdicts
use Rattle.dx_judge.specs.declared.fault.JudgeFault.{JudgeFault}
use Rattle.dx_judge.specs.declared.fault.JudgeFault.TheVariants as faults
use Rattle.dx_judge.specs.Verdicts.{HasNoVerdict, IsJudgement, IsReason, IsVerdict, JudgeInput, PlaceHolds}
use Rattle.dx_judge.specs.Laws.{SameFault, SameKind, SameWhy, EachHasVerdict, InputFits, JudgedOrLimit, NoClash, VerdictSays, VerdictsAreOne, VerdictsSay}
use Rattle.dx_judge.proofs.Numbered.{each_or, one_first}
use Rattle.dx_judge.proofs.Holding.{determination_holds, determination_or, keys_or, link_holds, link_or, links_or}
use Rattle.dx_judge.proofs.Deciding.{maps_or, places_hold, rules_or}

-- ---- the canonical instance of a solution

pub no_clash : NoClash
no_clash convert R schema I K rows are solution none =
    no_solution convert R schema I (canonical 0 R rows) K rows are (λ f m. m) none solution

-- ---- what a verdict says

module _ (convert : Conversions) (a : JudgeInput) where
  reason_so : (why : Why) → IsReason convert a why → ¬ (IsSolution convert a.rules a.schema a.rows a.given)
  reason_so (whys.Rule i k) r s =
      r.first.fails (places_hold convert a.rules a.rows a.given r.matches r.are s.rules i k r.first.is_there)
  reason_so (whys.Key t k one other c) r s = r.first.fails (determination_holds a.schema a.given s.keys t k r.first.is_there)
  reason_so (whys.Link t row l) r s = r.first.fails (link_holds a.schema a.given s.links t l r.first.is_there)

  says : (v : Verdict) → IsVerdict convert a v → VerdictSays convert a v
  says (verdicts.NotSolution why) r = reason_so why r
  says (verdicts.Solution other) r = (r.solution, (λ u. r.misses (u.into (facts other) r.other_too)))
  says (verdicts.Universal map missed) r = (r.universal, (λ core. r.lacks (core (pairs_of map) r.endomorphism missed r.is_there)))
  says verdicts.Core r = (r.universal, r.core)

  -- ---- of one kind

  one_why : (v w : Why) → IsReason convert a v → IsReason convert a w → SameWhy v w
  one_why (whys.Rule i k) (whys.Rule j l) p q =
      let same : q.matches ≡ p.matches = (rows_of_all convert a.rules a.rows q.matches p.matches q.are p.are).0 in
      one_first (IsPlace a.rules p.matches) (PlaceHolds a.rules p.matches a.given) i k j l p.first
      (subst (λ (rows : Rows). IsFirstFailing (IsPlace a.rules rows) (PlaceHolds a.rules rows a.given) j l) same q.first)
  one_why (whys.Rule i k) (whys.Key t l one other c) p q =
      absurd (p.first.fails (places_hold convert a.rules a.rows a.given p.matches p.are q.rules_hold i k p.first.is_there))
  one_why (whys.Rule i k) (whys.Link t row l) p q =
      absurd (p.first.fails (places_hold convert a.rules a.rows a.given p.matches p.are q.rules_hold i k p.first.is_there))
  one_why (whys.Key t k one other c) (whys.Rule i l) p q =
      absurd (q.first.fails (places_hold convert a.rules a.rows a.given q.matches q.are p.rules_hold i l q.first.is_there))
  one_why (whys.Key t k one other c) (whys.Key u l two more d) p q =
      one_first (HasDetermination a.schema) (DeterminationHolds a.schema a.given) t k u l p.first q.first
  one_why (whys.Key t k one other c) (whys.Link u row l) p q =
      absurd (p.first.fails (determination_holds a.schema a.given q.keys_hold t k p.first.is_there))
  one_why (whys.Link t row l) (whys.Rule i k) p q =
      absurd (q.first.fails (places_hold convert a.rules a.rows a.given q.matches q.are p.rules_hold i k q.first.is_there))
  one_why (whys.Link t row l) (whys.Key u k one other c) p q =
      absurd (q.first.fails (determination_holds a.schema a.given p.keys_hold u k q.first.is_there))
  one_why (whys.Link t row l) (whys.Link u other m) p q =
      one_first (HasLink a.schema) (LinkHolds a.schema a.given) t l u m p.first q.first

  one_kind : (v w : Verdict) → IsVerdict convert a v → IsVerdict convert a w → SameKind v w
  one_kind (verdicts.NotSolution v) (verdicts.NotSolution w) p q = one_why v w p q
  one_kind (verdicts.NotSolution v) (verdicts.Solution L) p q = absurd (reason_so v p q.solution)
  one_kind (verdicts.NotSolution v) (verdicts.Universal k g) p q = absurd (reason_so v p q.universal.solution)
  one_kind (verdicts.NotSolution v) verdicts.Core p q = absurd (reason_so v p q.universal.solution)
  one_kind (verdicts.Solution K) (verdicts.NotSolution w) p q = absurd (reason_so w q p.solution)
  one_kind (verdicts.Solution K) (verdicts.Solution L) p q = tt
  one_kind (verdicts.Solution K) (verdicts.Universal k g) p q = absurd ((says (verdicts.Solution K) p).1 q.universal)
  one_kind (verdicts.Solution K) verdicts.Core p q = absurd ((says (verdicts.Solution K) p).1 q.universal)
  one_kind (verdicts.Universal h f) (verdicts.NotSolution w) p q = absurd (reason_so w q p.universal.solution)
  one_kind (verdicts.Universal h f) (verdicts.Solution L) p q = absurd ((says (verdicts.Solution L) q).1 p.universal)
  one_kind (verdicts.Universal h f) (verdicts.Universal k g) p q = tt
  one_kind (verdicts.Universal h f) verdicts.Core p q = absurd ((says (verdicts.Universal h f) p).1 q.core)
  one_kind verdicts.Core (verdicts.NotSolution w) p q = absurd (reason_so w q p.universal.solution)
  one_kind verdicts.Core (verdicts.Solution L) p q = absurd ((says (verdicts.Solution L) q).1 p.universal)
  one_kind verdicts.Core (verdicts.Universal k g) p q = absurd ((says (verdicts.Universal k g) q).1 p.core)
  one_kind verdicts.Core verdicts.Core p q = tt

pub verdicts_say : VerdictsSay
verdicts_say convert a v r = says convert a v r

pub verdicts_are_one : VerdictsAreOne
verdicts_are_one convert a v w p q = one_kind convert a v w p q

-- ---- each has one

module _ (convert : Conversions) (list : List Conversion) (source : List Table) (a : JudgeInput) (asked : InputFits list source a) where
  rows_there : (rows : Rows) × AreRows convert a.rules a.rows rows
  rows_there = rows_all_exist convert a.rules a.rows (λ d m. (asked.fits.fit d m).rule)

  -- an exchange of the rows, whose target is universal
  exchange_there : IsSolution convert a.rules a.schema a.rows a.given
      → (x : Exchange) × IsUniversal convert a.rules a.schema a.rows (facts x.target)
  exchange_there solution =
      let M = rows_there.0 in
      let are = rows_there.1 in
      let e : ExchangeInput = record { rules = a.rules; schema = a.schema; rows = a.rows; mode = Plain; limit = canonical_cells a.rules M } in
      elim ((exchange_or_none convert list source).either (λ _. None) e asked.fits) [
        | inl x ↦ (x.0, x.1.universal)
        | inr n ↦ absurd (none e refl refl refl refl n.0 n.1)
      ]
    where
      none : (e : ExchangeInput) → e.rules ≡ a.rules → e.schema ≡ a.schema → e.rows ≡ a.rows → e.limit ≡ canonical_cells a.rules rows_there.0
          → (f : ExFault) → NoExchange convert e f → ⊥
      none e r s i l (ex.Limit k) n =
          let same : n.matches ≡ rows_there.0 =
          (rows_of_all convert a.rules a.rows n.matches rows_there.0 (subst (λ (R : List Rule). AreRows convert R a.rows n.matches) r
          (subst (λ (I : List Fact). AreRows convert e.rules I n.matches) i n.are)) rows_there.1).0 in
          let cells : canonical_cells e.rules n.matches ≡ canonical_cells a.rules rows_there.0 =
          ap (λ (R : List Rule). canonical_cells R n.matches) r ∙ ap (canonical_cells a.rules) same in
          let more = n.many in
          omega (arith, cells, more, l)
      none e r s i l (ex.Clash c) n =
          n.no_solution a.given (subst (λ (R : List Rule). IsSolution convert R e.schema e.rows a.given) (sym r)
          (subst (λ (S : List Table). IsSolution convert a.rules S e.rows a.given) (sym s)
          (subst (λ (I : List Fact). IsSolution convert a.rules a.schema I a.given) (sym i) solution)))
      none e r s i l ex.Memory n = n

  -- a universal solution is a core, or some image of it lacks a fact
  core_or : IsUniversal convert a.rules a.schema a.rows a.given → (v : Verdict) × IsVerdict convert a v
  core_or universal =
      let K = a.given in
      let r = reduction_exists K in
      elim (each_or (λ f. f ∈ r.0) (λ f. ¬ (f ∈ r.0)) K (λ f m. decide_in same_fact f r.0)) [
        | inl all ↦ (verdicts.Core, record { universal = universal; core = core_by_members r.0 K (r.2, all) r.4 })
        | inr w ↦
            let h = r.1 in
            let same : image (pairs_of (listing h)) K ≡ image h K = ap (λ (g : NullId → Value). map (fact_moved g) K) (same_given h r.5) in (
              verdicts.Universal (listing h) w.0,
              record {
                universal = universal;
                endomorphism = record {
                  null_map = null_map h r.5;
                  inside = λ f m. r.2 f (r.3.0 f (subst (λ (A : List Fact). f ∈ A) same m));
                };
                is_there = w.1;
                lacks = λ m. w.2 (r.3.0 w.0 (subst (λ (A : List Fact). w.0 ∈ A) same m));
              },
            )
      ]

  solution_verdict : IsSolution convert a.rules a.schema a.rows a.given → (v : Verdict) × IsVerdict convert a v
  solution_verdict solution =
      let x = exchange_there solution in
      elim (maps_or a.given (facts x.0.target)) [
        | inr n ↦ (verdicts.Solution x.0.target, record { solution = solution; other_too = x.1.solution; misses = n })
        | inl into ↦ core_or (record {
          solution = solution;
          into = λ L other. maps_join a.given (facts x.0.target) L into (x.1.into L other);
        })
      ]

  links_verdict : SatisfyAll convert a.rules a.rows a.given → KeysHold a.schema a.given → (v : Verdict) × IsVerdict convert a v
  links_verdict rules keys = elim (links_or a.schema a.given) [
    | inl links ↦ solution_verdict (record { fits = asked.given_fits; rules = rules; keys = keys; links = links })
    | inr w ↦ elim (link_or a.schema a.given w.0 w.1) [
      | inl holds ↦ absurd (w.2.fails holds)
      | inr s ↦ (
        verdicts.NotSolution (whys.Link w.0 s.0 w.1),
        record { rules_hold = rules; keys_hold = keys; first = w.2; is_there = s.1; alone = s.2 },
      )
    ]
  ]

  keys_verdict : SatisfyAll convert a.rules a.rows a.given → (v : Verdict) × IsVerdict convert a v
  keys_verdict rules = elim (keys_or a.schema a.given) [
    | inl keys ↦ links_verdict rules keys
    | inr w ↦ elim (determination_or a.schema a.given w.0 w.1 w.2.is_there) [
      | inl holds ↦ absurd (w.2.fails holds)
      | inr s ↦ (
        verdicts.NotSolution (whys.Key w.0 w.1 s.one s.other s.column),
        record { rules_hold = rules; first = w.2; break = s.break; lesser = s.lesser },
      )
    ]
  ]

  verdict_there : (v : Verdict) × IsVerdict convert a v
  verdict_there = elim (rules_or convert a.rules a.rows a.given rows_there.0 rows_there.1) [
    | inl rules ↦ keys_verdict rules
    | inr w ↦ (verdicts.NotSolution (whys.Rule w.0 w.1), record { matches = rows_there.0; are = rows_there.1; first = w.2 })
  ]

pub each_has_verdict : EachHasVerdict
each_has_verdict convert list source a asked = verdict_there convert list source a asked

-- ---- within the limit

pub judged_or_limit : JudgedOrLimit
judged_or_limit convert list source = notions_decided SameFault (InputFits list source) (HasNoVerdict convert) (IsJudgement convert) alike never either
  where
    alike : (a : JudgeInput) (e f : JudgeFault) → InputFits list source a → HasNoVerdict convert a e → HasNoVerdict convert a f → SameFault e f
    alike a (faults.Limit l) (faults.Limit k) g p q = ap (λ (x : LimitOf). faults.Limit x) (p.0 ∙ sym q.0)
    alike a (faults.Limit l) faults.Memory g p q = absurd q
    alike a faults.Memory f g p q = absurd p

    never : (a : JudgeInput) (v : Verdict) (e : JudgeFault) → InputFits list source a → IsJudgement convert a v → ¬ (HasNoVerdict convert a e)
    never a v (faults.Limit l) g is n =
        let same = (rows_of_all convert a.rules a.rows n.1.rows is.matches n.1.are is.are).0 in
        let cells : canonical_cells a.rules n.1.rows ≡ canonical_cells a.rules is.matches = ap (canonical_cells a.rules) same in
        let more = n.1.more in
        let few = is.within in
        omega (arith, cells, more, few)
    never a v faults.Memory g is n = n

    either : (a : JudgeInput) → InputFits list source a
        → ((v : Verdict) × IsJudgement convert a v) ⊎ ((e : JudgeFault) × HasNoVerdict convert a e)
    either a g =
        let r = rows_all_exist convert a.rules a.rows (λ d m. (g.fits.fit d m).rule) in
        elim (cases_lt a.limit (canonical_cells a.rules r.0)) [
          | inl many ↦ inr (
            faults.Limit (record { what = TargetCells; number = a.limit }),
            (refl, record { rows = r.0; are = r.1; more = many }),
          )
          | inr few ↦ let v = each_has_verdict convert list source a g in inl (
            v.0,
            record { matches = r.0; are = r.1; within = few; verdict = v.1 },
          )
        ]

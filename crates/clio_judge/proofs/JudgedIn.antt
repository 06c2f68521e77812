-- A given target, judged in a world: what is known of the verdict, and that there is one or a reason to refuse.
use Rattle.std.proofs.Common.{◌≡◌, ◌∙◌, ℕ, List, [], refl, sym, ap, subst}
use Rattle.dx_model.specs.Tables.{IsInstance}
use Rattle.dx_model.specs.Values.{Conversions}
use Rattle.dx_instance.specs.Stored.{TableRows, facts}
use Rattle.dx_schema.specs.Forest.{Forest}
use Rattle.dx_schema.specs.Tables.{model_tables}
use Rattle.dx_judge.specs.declared.fault.JudgeFault.TheVariants as judge_faults
use Rattle.dx_judge.specs.declared.verdict.Verdict.{Verdict}
use Rattle.dx_judge.specs.Laws.{SameFault as FaultsAlike, InputFits}
use Rattle.dx_judge.specs.Verdicts.{IsJudgement, judging}
use Rattle.dx_judge.proofs.Judgements.{judged_or_limit}
use Rattle.dx_stages.specs.Worlds.{World}
use Rattle.dx_stages.specs.Laws.{HasWords, IsDecided, PassesOne}
use Rattle.dx_stages.specs.Stages.{next, over, saying, saying_if}
use Rattle.dx_stages.proofs.Decided.{Any, into_decided, into_one, next_decided, one_word, over_decided, over_one, saying_decided, saying_if_decided}
use Rattle.clio_accept.specs.declared.mapping.Mapping.{Mapping}
use Rattle.clio_accept.specs.Laws.{MappingFits}
use Rattle.clio_accept.proofs.Accepted.{accepted_fits}
use Rattle.clio_source.specs.Source.{source_left, source_stages, storing}
use Rattle.clio_source.proofs.Decided.{left_decided, left_one}
use Rattle.clio_given.specs.Given.{given_stages}
use Rattle.clio_given.proofs.Decided.{given_decided, given_one}
use Rattle.clio_given.proofs.Fitted.{given_fits}
use Rattle.clio_files.specs.Verdicts.{verdict_text}
use Rattle.clio_ending.specs.declared.ending.Refusal.TheVariants as refusals
use Rattle.clio_ending.specs.Ending.{AreAlike, source_refusal}
use Rattle.clio_ending.proofs.Alike.{same_alike}
use Rattle.clio_steps.specs.declared.texts.Side.TheVariants.{First}
use Rattle.clio_steps.specs.Steps.{Program, mapping_stages, wanted}
use Rattle.clio_judge.specs.Judging.{RowsAndTarget, RowsAndBytes, given_rows, verdict_of_mapping, judge_refusal, judge_stages, judged, judged_plan, judged_rows, judging_rows, rows_and_bytes, verdicts, wanted_given}
use Rattle.clio_judge.specs.Outcomes.{IsJudgedIn}
use Rattle.clio_steps.specs.Outcomes.{Writing}
use Rattle.clio_steps.proofs.Mappings.{is_small}
use Rattle.clio_steps.proofs.Plans.{rules_fit}
use Rattle.clio_steps.proofs.Decided.{text_decided, text_one}
use Rattle.clio_steps.proofs.Spine.{accepted_in}

-- ---- a verdict that was made

with_given : List TableRows → RowsAndBytes → RowsAndTarget
with_given K p = (p.0, K)

with_verdict : Verdict → RowsAndTarget → Mapping × Verdict
with_verdict v p = (p.0.0, v)

-- what was read, without the number of bytes that are left
read_of : (P : Program) (c : World) (M : Mapping) (I : List TableRows) (left : ℕ)
    → (source_left P.passes).passes c (wanted M) (I, left) → (source_stages P.passes).passes c (wanted M) I
read_of P c M I left (r, files, (J, stored, is)) =
    let rows = sym (ap (λ (q : List TableRows × ℕ). q.0) is) in
    (r, files, subst (λ (K : List TableRows). (storing P.passes M.conditions M.source).passes c r K) rows stored)

pub judged_in : (P : Program) (c : World) (q : Mapping × Verdict) (Wrote : Writing) → (verdicts P).passes c (tt {0}) q
    → Wrote [] (verdict_text q.0.target q.1) → IsJudgedIn P c q.1 Wrote
unfolding with_given with_verdict
judged_in P c q Wrote
    (M, m, (sized, ((I, left), source, sized_is), (handed, (K, given, handed_is), (v, judgement, q_is)))) wrote =
    let to : handed ≡ ((M, I), K) = handed_is ∙ ap (with_given K) sized_is in
    let whole : q ≡ (M, v) = q_is ∙ ap (with_verdict v) to in
    subst (λ (z : Mapping × Verdict). IsJudgedIn P c z.1 Wrote) (sym whole) (record {
      mapping = M;
      rows = I;
      read = record { accepted = accepted_in P First c M m; source = read_of P c M I left source };
      left = left;
      left_is = source;
      target = K;
      given = subst (λ (z : RowsAndBytes). given_stages.passes c (wanted_given z) K) sized_is given;
      judgement = subst (λ (z : RowsAndTarget). IsJudgement P.apply (judged z) v) to judgement;
      written = subst (λ (z : Mapping × Verdict). Wrote [] (verdict_text z.0.target z.1)) whole wrote;
    })

-- ---- a verdict, or a reason to refuse

FitsList : Program → Mapping → Type 0
FitsList P M = MappingFits P.list P.tests M

FitsSized : Program → RowsAndBytes → Type 0
FitsSized P p = MappingFits P.list P.tests p.0.0

pub record FitsHanded (P : Program) (p : RowsAndTarget) : Type 0 where
  pub mapping : MappingFits P.list P.tests p.0.0
  pub given : IsInstance (model_tables p.0.0.target) (facts p.1)

asked : (P : Program) (p : RowsAndTarget) → FitsHanded P p → InputFits P.list (model_tables p.0.0.source) (judged p)
asked P p h = record { fits = rules_fit P p.0.0 h.mapping; given_fits = h.given }

-- each reason why there is no verdict has its word
pub verdicts_have_words : (convert : Conversions) → HasWords judge_refusal (judging convert)
verdicts_have_words convert c asked (judge_faults.Limit limit) none = (refusals.Limit limit, refl)
verdicts_have_words convert c asked judge_faults.Memory none = absurd none

judging_decided : (P : Program) → IsDecided AreAlike (FitsHanded P) (judging_rows P)
judging_decided P = into_decided AreAlike (FitsHanded P) (λ (p : RowsAndTarget) (v : Verdict). (p.0.0, v)) (judged_rows P.apply) (record {
  one = λ c p e f h. (of_source p.0.0.source).one c (judged p) e f (asked P p h);
  never_both = λ c p v e h. (of_source p.0.0.source).never_both c (judged p) v e (asked P p h);
  either = λ c p h. (of_source p.0.0.source).either c (judged p) (asked P p h);
})
  where
    of_source : (source : Forest) → IsDecided AreAlike (InputFits P.list (model_tables source)) (saying_if judge_refusal (judging P.apply))
    of_source source =
        saying_if_decided FaultsAlike AreAlike (InputFits P.list (model_tables source)) judge_refusal (judging P.apply)
        (λ e k x y is p q. same_alike x y (one_word judge_refusal e k x y is p q)) (verdicts_have_words P.apply) (judged_or_limit P.apply P.list (model_tables source))

given_rows_one : PassesOne given_rows
given_rows_one =
    into_one (λ (p : RowsAndBytes) (K : List TableRows). (p.0, K)) (over wanted_given (saying source_refusal given_stages))
    (over_one wanted_given (saying source_refusal given_stages) given_one)

given_rows_decided : (P : Program) → IsDecided AreAlike (FitsSized P) given_rows
given_rows_decided P =
    into_decided AreAlike (FitsSized P) (λ (p : RowsAndBytes) (K : List TableRows). (p.0, K)) (over wanted_given (saying source_refusal given_stages))
    (over_decided AreAlike (FitsSized P) Any wanted_given (saying source_refusal given_stages) (λ p g. tt)
    (saying_decided (λ e k. e ≡ k) AreAlike Any source_refusal given_stages (λ e k is. same_alike (source_refusal e) (source_refusal k) (ap source_refusal is)) given_decided))

sized_one : (P : Program) → PassesOne (rows_and_bytes P)
sized_one P =
    into_one (λ (M : Mapping) (q : List TableRows × ℕ). ((M, q.0), q.1)) (over wanted (saying source_refusal (source_left P.passes)))
    (over_one wanted (saying source_refusal (source_left P.passes)) (left_one P.passes))

sized_decided : (P : Program) → IsDecided AreAlike (FitsList P) (rows_and_bytes P)
sized_decided P =
    into_decided AreAlike (FitsList P) (λ (M : Mapping) (q : List TableRows × ℕ). ((M, q.0), q.1)) (over wanted (saying source_refusal (source_left P.passes)))
    (over_decided AreAlike (FitsList P) Any wanted (saying source_refusal (source_left P.passes)) (λ M g. tt)
    (saying_decided (λ e k. e ≡ k) AreAlike Any source_refusal (source_left P.passes) (λ e k is. same_alike (source_refusal e) (source_refusal k) (ap source_refusal is))
    (left_decided P.passes)))

verdicts_decided : (P : Program) → IsDecided AreAlike Any (verdicts P)
unfolding FitsList FitsSized
verdicts_decided P =
    next_decided AreAlike Any (FitsList P) (mapping_stages P) (verdict_of_mapping P) (text_one P First)
    (λ c a M g p. accepted_fits P.list P.tests c p.0 M (is_small p.0 p.1.1) p.2) (text_decided P First)
    (next_decided AreAlike (FitsList P) (FitsSized P) (rows_and_bytes P) (next given_rows (judging_rows P)) (sized_one P) rows_lead (sized_decided P)
    (next_decided AreAlike (FitsSized P) (FitsHanded P) given_rows (judging_rows P) given_rows_one given_lead (given_rows_decided P) (judging_decided P)))
  where
    rows_lead : (c : World) (M : Mapping) (p : RowsAndBytes) → FitsList P M → (rows_and_bytes P).passes c M p → FitsSized P p
    rows_lead c M p h (q, source, is) = subst (FitsSized P) (sym is) h

    given_lead : (c : World) (p : RowsAndBytes) (k : RowsAndTarget) → FitsSized P p → given_rows.passes c p k → FitsHanded P k
    given_lead c p k h (K, given, is) = subst (FitsHanded P) (sym is) (record { mapping = h; given = given_fits c (wanted_given p) K given })

pub judge_decided : (P : Program) → IsDecided AreAlike Any (judge_stages P)
judge_decided P = into_decided AreAlike Any (λ (u : Unit {0}) (q : Mapping × Verdict). judged_plan q) (verdicts P) (verdicts_decided P)

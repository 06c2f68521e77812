-- The answers of a query: one reason to refuse them, or a list of them, and never both.
use Rattle.std.proofs.Common.{◌≡◌, ◌⊎◌, ℕ, List, refl, sym, ◌∙◌, ap, subst, inl, inr, arith}
use Rattle.dx_base.specs.declared.file.Count.TheVariants.{AnswerCells}
use Rattle.dx_model.specs.declared.facts.Fact.{Fact}
use Rattle.dx_model.specs.declared.rules.Rule.{Rule}
use Rattle.dx_model.specs.Tables.{Table}
use Rattle.dx_model.specs.Values.{Conversions}
use Rattle.dx_model.specs.Solutions.{IsUniversal}
use Rattle.dx_instance.specs.Stored.{TableRows, facts}
use Rattle.dx_schema.specs.Tables.{model_tables, schema_widths}
use Rattle.dx_queries.specs.declared.query.Query.{Query}
use Rattle.dx_queries.specs.Results.{FitsQuery, AnswersPassLimit}
use Rattle.dx_queries.proofs.Certain.{never_both, universal_tells}
use Rattle.dx_queries.proofs.Exist.{answers_exist, within_or_passes}
use Rattle.dx_exchange.specs.declared.mode.Mode.TheVariants.{Plain}
use Rattle.dx_exchange.specs.declared.result.Exchange.{Exchange}
use Rattle.dx_exchange.specs.Exchanging.{IsExchange}
use Rattle.dx_stages.specs.Worlds.{World}
use Rattle.dx_stages.specs.Stages.{Stage, by, next, over, saying}
use Rattle.dx_stages.specs.Laws.{IsDecided, Leads, PassesOne}
use Rattle.dx_stages.proofs.Decided.{Any, into_decided, into_one, next_decided, notions_decided, over_decided, over_one, saying_decided}
use Rattle.clio_accept.specs.declared.mapping.Mapping.{Mapping}
use Rattle.clio_accept.specs.Laws.{MappingFits}
use Rattle.clio_accept.proofs.Accepted.{accepted_fits}
use Rattle.clio_source.specs.Source.{SourceRequest, source_stages}
use Rattle.clio_source.proofs.Decided.{source_decided, source_one}
use Rattle.clio_ending.specs.declared.ending.Answers.{Answers}
use Rattle.clio_ending.specs.declared.ending.Refusal.{Refusal}
use Rattle.clio_ending.specs.declared.ending.Refusal.TheVariants as refusals
use Rattle.clio_ending.specs.Ending.{AreAlike, source_refusal}
use Rattle.clio_ending.proofs.Alike.{same_alike}
use Rattle.clio_steps.specs.declared.texts.Side.TheVariants.{First}
use Rattle.clio_steps.specs.Steps.{Program, exchange_input, mapping_stages, named_stage, wanted}
use Rattle.clio_answer.specs.Answering.{AreAnswers, QueryAndExchange, PassAnswerCells, MappingAndQuery, answer_cells, answer_stages, answered_plan, answers, with_source_rows, listed_answers, query_answers, query_rows, query_target, query_stages}
use Rattle.clio_steps.proofs.Mappings.{is_small}
use Rattle.clio_steps.proofs.Decided.{PairReady, target_decided, text_decided, text_one}
use Rattle.clio_answer.proofs.Queried.{query_decided, query_fits, query_one}

-- ---- a stage that refuses all that another may pass alike

-- as next_decided, if the first may pass several values, each of which the second refuses for the reasons of any other
next_decided_alike : {E A B C : Type 0} (Alike : E → E → Type 0) (Given : A → Type 0) (Between : B → Type 0) (s : Stage E A B) (t : Stage E B C)
    → ((c : World) (a : A) (b d : B) (e : E) → Given a → s.passes c a b → s.passes c a d → t.refuses c d e → t.refuses c b e) → Leads Given Between s
    → IsDecided Alike Given s → IsDecided Alike Between t → IsDecided Alike Given (next s t)
next_decided_alike {E} {A} {B} {C} Alike Given Between s t same leads u v = record { one = one; never_both = never; either = λ c a g. first c a g (u.either c a g) }
  where
    one : (c : World) (a : A) (e f : E) → Given a → (next s t).refuses c a e → (next s t).refuses c a f → Alike e f
    one c a e f g (inl x) (inl y) = u.one c a e f g x y
    one c a e f g (inl x) (inr y) = absurd (u.never_both c a y.0 e g y.1 x)
    one c a e f g (inr x) (inl y) = absurd (u.never_both c a x.0 f g x.1 y)
    one c a e f g (inr x) (inr y) = v.one c x.0 e f (leads c a x.0 g x.1) x.2 (same c a x.0 y.0 f g x.1 y.1 y.2)

    never : (c : World) (a : A) (x : C) (e : E) → Given a → (next s t).passes c a x → ¬ ((next s t).refuses c a e)
    never c a x e g y (inl r) = u.never_both c a y.0 e g y.1 r
    never c a x e g y (inr r) = v.never_both c y.0 x e (leads c a y.0 g y.1) y.2 (same c a y.0 r.0 e g y.1 r.1 r.2)

    after : (c : World) (a : A) (b : B) → s.passes c a b → ((x : C) × t.passes c b x) ⊎ ((e : E) × t.refuses c b e)
        → ((x : C) × (next s t).passes c a x) ⊎ ((e : E) × (next s t).refuses c a e)
    after c a b p (inl y) = inl (y.0, (b, p, y.1))
    after c a b p (inr r) = inr (r.0, inr (b, p, r.1))

    first : (c : World) (a : A) → Given a → ((b : B) × s.passes c a b) ⊎ ((e : E) × s.refuses c a e)
        → ((x : C) × (next s t).passes c a x) ⊎ ((e : E) × (next s t).refuses c a e)
    first c a g (inl y) = after c a y.0 y.1 (v.either c y.0 (leads c a y.0 g y.1))
    first c a g (inr r) = inr (r.0, inl r.1)

-- ---- the list of answers

-- the query fits some widths
abbrev pub IsFit : QueryAndExchange → Type 0
IsFit p = (widths : List ℕ) × FitsQuery widths p.0

never_within : (p : QueryAndExchange) (a : Answers) (e : Refusal) → AreAnswers p a → ¬ (PassAnswerCells p e)
never_within p a e (exchange, are, within) (passes, is) =
    let more = never_both (facts p.1.target) p.0 a.rows answer_cells passes are in
    absurd (omega (arith, more, within))

listed_or_not : (p : QueryAndExchange) → IsFit p → ((a : Answers) × AreAnswers p a) ⊎ ((e : Refusal) × PassAnswerCells p e)
listed_or_not p (widths, fits) =
    let rows = answers_exist widths (facts p.1.target) p.0 fits in
    elim (within_or_passes (facts p.1.target) p.0 rows.0 answer_cells rows.1) [
      | inl within ↦ inl (record { exchange = p.1; rows = rows.0 }, (refl, rows.1, within))
      | inr passes ↦ inr (refusals.Limit (record { what = AnswerCells; number = answer_cells }), (passes, refl))
    ]

listed_decided : IsDecided AreAlike IsFit listed_answers
listed_decided =
    notions_decided AreAlike IsFit PassAnswerCells AreAnswers (λ p e f g a b. same_alike e f (a.1 ∙ sym b.1)) (λ p a e g. never_within p a e) listed_or_not

-- ---- what is ready

-- a mapping that fits, with a query that fits its target
pub record IsPosed (P : Program) (p : MappingAndQuery) : Type 0 where
  pub mapping : MappingFits P.list P.tests p.0
  pub query : FitsQuery (schema_widths p.0.target) p.1

FitsList : Program → Mapping → Type 0
FitsList P M = MappingFits P.list P.tests M

BlocksFilled : Program → MappingAndQuery × List TableRows → Type 0
BlocksFilled P p = IsPosed P p.0

AreAsked : Program → MappingAndQuery × Exchange → Type 0
AreAsked P p = IsPosed P p.0

query_leads : (P : Program) → Leads (FitsList P) (IsPosed P) query_stages
unfolding FitsList
query_leads P c M p fits (q, passed, is) = subst (IsPosed P) (sym is) (record { mapping = fits; query = query_fits c M q passed })

rows_leads : (P : Program) → Leads (IsPosed P) (BlocksFilled P) (query_rows P)
unfolding BlocksFilled
rows_leads P c p q h (I, source, is) = subst (λ (r : MappingAndQuery × List TableRows). IsPosed P r.0) (sym is) h

target_leads : (P : Program) → Leads (BlocksFilled P) (AreAsked P) (query_target P)
unfolding BlocksFilled AreAsked
target_leads P c p q h (e, exchange, is) = subst (λ (r : MappingAndQuery × Exchange). IsPosed P r.0) (sym is) h

-- ---- the rows and the exchange

with_rows : MappingAndQuery → List TableRows → MappingAndQuery × List TableRows
with_rows p I = (p, I)

abbrev wants : MappingAndQuery → SourceRequest
wants p = wanted p.0

rows_one : (P : Program) → PassesOne (query_rows P)
unfolding with_rows
rows_one P = into_one with_rows (over wants (saying source_refusal (source_stages P.passes))) (over_one wants (saying source_refusal (source_stages P.passes)) (source_one P.passes))

rows_decided : (P : Program) → IsDecided AreAlike (IsPosed P) (query_rows P)
unfolding with_rows
rows_decided P =
    into_decided AreAlike (IsPosed P) with_rows (over wants (saying source_refusal (source_stages P.passes)))
    (over_decided AreAlike (IsPosed P) Any wants (saying source_refusal (source_stages P.passes)) (λ p h. tt)
    (saying_decided (λ e k. e ≡ k) AreAlike Any source_refusal (source_stages P.passes) (λ e k is. same_alike (source_refusal e) (source_refusal k) (ap source_refusal is)) (source_decided P.passes)))

with_exchange : MappingAndQuery × List TableRows → Exchange → MappingAndQuery × Exchange
with_exchange p e = (p.0, e)

exchanged_decided : (P : Program) → IsDecided AreAlike (BlocksFilled P) (query_target P)
unfolding BlocksFilled PairReady with_exchange
exchanged_decided P =
    into_decided AreAlike (BlocksFilled P) with_exchange (over with_source_rows (by (named_stage P.apply Plain)))
    (over_decided AreAlike (BlocksFilled P) (PairReady P) with_source_rows (by (named_stage P.apply Plain)) (λ p h. h.mapping) (target_decided P Plain))

-- ---- the answers on each universal target

-- they pass the limit on one exactly if they do on another
same_passes : (convert : Conversions) (R : List Rule) (schema : List Table) (I S T : List Fact) (q : Query) (limit : ℕ) → IsUniversal convert R schema I S → IsUniversal convert R schema I T
    → AnswersPassLimit T q limit → AnswersPassLimit S q limit
same_passes convert R schema I S T q limit s t h = record {
  rows = h.rows;
  distinct = h.distinct;
  each = λ u m. (universal_tells convert R schema I S q u s).1 ((universal_tells convert R schema I T q u t).0 (h.each u m));
  more = h.more;
}

asking : MappingAndQuery × Exchange → QueryAndExchange
asking p = (p.0.1, p.1)

-- an exchange that was passed on, beside what was posed
its_target : (P : Program) (c : World) (p : MappingAndQuery × List TableRows) (b : MappingAndQuery × Exchange) → (query_target P).passes c p b → (b.0 ≡ p.0) × IsExchange P.apply (exchange_input Plain (with_source_rows p)) b.1
its_target P c p b (e, exchange, is) =
    (ap (λ (r : MappingAndQuery × Exchange). r.0) is, subst (IsExchange P.apply (exchange_input Plain (with_source_rows p))) (sym (ap (λ (r : MappingAndQuery × Exchange). r.1) is)) exchange)

refused_alike : (P : Program) (c : World) (p : MappingAndQuery × List TableRows) (b d : MappingAndQuery × Exchange) (e : Refusal) → BlocksFilled P p → (query_target P).passes c p b → (query_target P).passes c p d
    → query_answers.refuses c d e → query_answers.refuses c b e
refused_alike P c p b d e h x y (passes, is) =
    let s = its_target P c p b x in
    let t = its_target P c p d y in
    let q : d.0.1 ≡ b.0.1 = ap (λ (r : MappingAndQuery). r.1) (t.0 ∙ sym s.0) in
    let on = same_passes P.apply p.0.0.rules (model_tables p.0.0.target) (facts p.1) (facts b.1.target) (facts d.1.target) d.0.1 answer_cells s.1.universal t.1.universal passes in
    (subst (λ (r : Query). AnswersPassLimit (facts b.1.target) r answer_cells) q on, is)

answers_decided : (P : Program) → IsDecided AreAlike (AreAsked P) query_answers
unfolding AreAsked
answers_decided P =
    into_decided AreAlike (AreAsked P) (λ (p : MappingAndQuery × Exchange) (a : Answers). (p.0, a)) (over (λ (p : MappingAndQuery × Exchange). (p.0.1, p.1)) listed_answers)
    (over_decided AreAlike (AreAsked P) IsFit (λ (p : MappingAndQuery × Exchange). (p.0.1, p.1)) listed_answers (λ p h. (schema_widths p.0.0.target, h.query)) listed_decided)

-- ---- the command

all_decided : (P : Program) → IsDecided AreAlike Any (answers P)
unfolding FitsList
all_decided P =
    next_decided AreAlike Any (FitsList P) (mapping_stages P) (next query_stages (next (query_rows P) (next (query_target P) query_answers))) (text_one P First)
    (λ c a M g p. accepted_fits P.list P.tests c p.0 M (is_small p.0 p.1.1) p.2) (text_decided P First)
    (next_decided AreAlike (FitsList P) (IsPosed P) query_stages (next (query_rows P) (next (query_target P) query_answers)) query_one (query_leads P) (query_decided (FitsList P))
    (next_decided AreAlike (IsPosed P) (BlocksFilled P) (query_rows P) (next (query_target P) query_answers) (rows_one P) (rows_leads P) (rows_decided P)
    (next_decided_alike AreAlike (BlocksFilled P) (AreAsked P) (query_target P) query_answers (refused_alike P) (target_leads P) (exchanged_decided P) (answers_decided P))))

pub answer_decided : (P : Program) → IsDecided AreAlike Any (answer_stages P)
answer_decided P = into_decided AreAlike Any (λ (u : Unit {0}) (q : MappingAndQuery × Answers). answered_plan q) (answers P) (all_decided P)

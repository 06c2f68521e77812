-- How an answer to a query runs: what stops it, and what it passes on.
use Rattle.std.proofs.Common.{◌≡◌, ◌⊎◌, ℕ, List, get_or, refl, sym, ◌∙◌, ap, subst, inl, inr, arith, Result, Ok, Err}
use Rattle.dx_ports.specs.States.{InputState}
use Rattle.dx_instance.specs.Stored.{TableRows, widths}
use Rattle.dx_schema.proofs.ModelWidths.{model_widths}
use Rattle.dx_queries.specs.declared.query.Query.{Query}
use Rattle.dx_queries.specs.Results.{FitsQuery}
use Rattle.dx_exchange.specs.declared.mode.Mode.TheVariants.{Plain}
use Rattle.dx_exchange.specs.declared.result.Exchange.{Exchange}
use Rattle.dx_stages.specs.declared.stop.Stop.{Stop}
use Rattle.dx_stages.specs.declared.stop.Stop.TheVariants as stops
use Rattle.dx_stages.specs.Ending.{PlanContent}
use Rattle.dx_stages.specs.Worlds.{World}
use Rattle.dx_stages.specs.Stages.{Stage, by, next, over, saying}
use Rattle.dx_stages.specs.Running.{Gives, Ran}
use Rattle.dx_stages.specs.Laws.{AsksOtherFiles, AsksOnly}
use Rattle.dx_stages.proofs.Decided.{apart_by, next_only}
use Rattle.dx_stages.proofs.Running.{ran_by, ran_into, ran_into_stop, ran_memory, ran_next, ran_over, ran_passes, ran_stop, ran_value, silent_apart}
use Rattle.clio_accept.specs.declared.mapping.Mapping.{Mapping}
use Rattle.clio_source.specs.Source.{SourceRequest, source_stages}
use Rattle.clio_ending.specs.declared.ending.Answers.{Answers}
use Rattle.clio_ending.specs.declared.ending.Done.{Done}
use Rattle.clio_ending.specs.declared.ending.Refusal.{Refusal}
use Rattle.clio_ending.specs.Ending.{source_refusal}
use Rattle.clio_steps.specs.declared.texts.Side.TheVariants.{First}
use Rattle.clio_steps.specs.Steps.{Program, mapping_stages, named_stage, text_name, wanted}
use Rattle.clio_answer.specs.Answering.{MappingAndQuery, answer_stages, answered_plan, answers, listed_answers, query_answers, query_over, query_rows, query_target, query_name, query_stages}
use Rattle.clio_steps.proofs.Names.{IsData, no_data, no_text, source_asks, text_asks}
use Rattle.clio_answer.proofs.Queried.{query_asks, query_fits}

-- ---- names

rows_asks : (P : Program) → AsksOnly IsData (query_rows P)
rows_asks P c p n h = source_asks P.passes c (wanted p.0) n h

-- the exchange and its answers ask for no file
at_end : (P : Program) → Stage Refusal (MappingAndQuery × List TableRows) (MappingAndQuery × Answers)
at_end P = next (query_target P) query_answers

pub end_silent : (P : Program) (c : World) (p : MappingAndQuery × List TableRows) (n : List ℕ) → ¬ ((next (query_target P) query_answers).asks c p n)
end_silent P c p n (inl h) = h
end_silent P c p n (inr (b, x, h)) = h

none_asked : (P : Program) (c : World) (p : MappingAndQuery × List TableRows) (n : List ℕ) → ¬ ((at_end P).asks c p n)
unfolding at_end
none_asked = end_silent

after_query : Program → Stage Refusal MappingAndQuery (MappingAndQuery × Answers)
after_query P = next (query_rows P) (at_end P)

after_mapping : Program → Stage Refusal Mapping (MappingAndQuery × Answers)
after_mapping P = next query_stages (after_query P)

query_after : (P : Program) → AsksOnly IsData (after_query P)
unfolding after_query
query_after P = next_only IsData (query_rows P) (at_end P) (rows_asks P) (λ c p n h. absurd (none_asked P c p n h))

no_query : ¬ (IsData query_name)
no_query = no_data query_name 111 refl (λ e. absurd (omega (arith, e))) (λ e. absurd (omega (arith, e)))

query_apart : (P : Program) → AsksOtherFiles query_stages (after_query P)
query_apart P = apart_by (λ n. n ≡ query_name) IsData query_stages (after_query P) query_asks (query_after P) (λ n e d. no_query (subst IsData e d))

abbrev IsLater : List ℕ → Type 0
IsLater n = (n ≡ query_name) ⊎ IsData n

mapping_after : (P : Program) → AsksOnly IsLater (after_mapping P)
unfolding after_mapping
mapping_after P = next_only IsLater query_stages (after_query P) (λ c M n h. inl (query_asks c M n h)) (λ c p n h. inr (query_after P c p n h))

no_later : (n : List ℕ) → n ≡ text_name First → ¬ (IsLater n)
no_later n e (inl q) = let h : 109 ≡ 113 = ap (λ (v : List ℕ). get_or v 0 0) (sym e ∙ q) in absurd (omega (arith, h))
no_later n e (inr d) = no_text First (subst IsData e d)

mapping_apart : (P : Program) → AsksOtherFiles (mapping_stages P) (after_mapping P)
mapping_apart P = apart_by (λ n. n ≡ text_name First) IsLater (mapping_stages P) (after_mapping P) (text_asks P First) (mapping_after P) no_later

-- ---- the steps

beside : Mapping → Query → MappingAndQuery
beside M q = (M, q)

with_rows : MappingAndQuery → List TableRows → MappingAndQuery × List TableRows
with_rows p I = (p, I)

abbrev wants : MappingAndQuery → SourceRequest
wants p = wanted p.0

module _ (P : Program) where
  -- the mapping stops it
  pub mapping_stops : (e : Stop Refusal) (old new : InputState) → Ran (mapping_stages P) (tt {0}) (Err e) old new → Ran (answers P) (tt {0}) (Err e) old new
  unfolding after_mapping after_query at_end
  mapping_stops e old new x = ran_stop (mapping_stages P) (after_mapping P) (tt {0}) e old new x

  -- after the mapping
  further : (M : Mapping) (r : Result (MappingAndQuery × Answers) (Stop Refusal)) (old mid new : InputState) → Ran (mapping_stages P) (tt {0}) (Ok M) old mid → Ran (after_mapping P) M r mid new
      → Ran (answers P) (tt {0}) r old new
  unfolding after_mapping after_query at_end
  further M r old mid new x y = ran_next (mapping_stages P) (after_mapping P) (tt {0}) M r old mid new (mapping_apart P) x y

  -- the query stops it
  pub query_stops : (M : Mapping) (e : Stop Refusal) (old mid new : InputState) → Ran (mapping_stages P) (tt {0}) (Ok M) old mid → Ran (query_over M) M (Err e) mid new → Ran (answers P) (tt {0}) (Err e) old new
  unfolding beside after_mapping
  query_stops M e old mid new x y =
      further M (Err e) old mid new x (ran_stop query_stages (after_query P) M e mid new (ran_into_stop beside (by query_over) M e mid new (ran_by query_over M (Err e) mid new y)))

  -- after the query
  posed : (M : Mapping) (q : Query) (r : Result (MappingAndQuery × Answers) (Stop Refusal)) (old mid on new : InputState) → Ran (mapping_stages P) (tt {0}) (Ok M) old mid → Ran (query_over M) M (Ok q) mid on
      → Ran (after_query P) (M, q) r on new → Ran (answers P) (tt {0}) r old new
  unfolding beside after_mapping
  posed M q r old mid on new x y z =
      further M r old mid new x
      (ran_next query_stages (after_query P) M (M, q) r mid on new (query_apart P) (ran_into beside (by query_over) M q mid on (ran_by query_over M (Ok q) mid on y)) z)

  -- the rows stop it
  pub rows_stop : (M : Mapping) (q : Query) (e : Stop Refusal) (old mid on new : InputState) → Ran (mapping_stages P) (tt {0}) (Ok M) old mid → Ran (query_over M) M (Ok q) mid on
      → Ran (saying source_refusal (source_stages P.passes)) (wanted M) (Err e) on new → Ran (answers P) (tt {0}) (Err e) old new
  unfolding with_rows after_query
  rows_stop M q e old mid on new x y z =
      posed M q (Err e) old mid on new x y
      (ran_stop (query_rows P) (at_end P) (M, q) e on new
      (ran_into_stop with_rows (over wants (saying source_refusal (source_stages P.passes))) (M, q) e on new
      (ran_over wants (saying source_refusal (source_stages P.passes)) (M, q) (Err e) on new z)))

  -- what the exchange of the rows and its answers give
  pub finished : (M : Mapping) (q : Query) (I : List TableRows) (r : Result (MappingAndQuery × Answers) (Stop Refusal)) (old mid on new : InputState) → Ran (mapping_stages P) (tt {0}) (Ok M) old mid
      → Ran (query_over M) M (Ok q) mid on → Ran (saying source_refusal (source_stages P.passes)) (wanted M) (Ok I) on new → Gives (next (query_target P) query_answers) ((M, q), I) r
      → Ran (answers P) (tt {0}) r old new
  unfolding with_rows after_query at_end
  finished M q I r old mid on new x y z g =
      posed M q r old mid on new x y
      (ran_next (query_rows P) (at_end P) (M, q) ((M, q), I) r on new new (silent_apart (query_rows P) (at_end P) (none_asked P))
      (ran_into with_rows (over wants (saying source_refusal (source_stages P.passes))) (M, q) I on new
      (ran_over wants (saying source_refusal (source_stages P.passes)) (M, q) (Ok I) on new z))
      (ran_value (at_end P) ((M, q), I) r new g))

  -- ---- the exchange and its answers

  pub exchange_stops : (M : Mapping) (q : Query) (I : List TableRows) (e : Stop Refusal) → Gives (by (named_stage P.apply Plain)) (M, I) (Err e) → Gives (next (query_target P) query_answers) ((M, q), I) (Err e)
  exchange_stops M q I (stops.Refused e) g = λ c. inl (g c)
  exchange_stops M q I (stops.Failed n) g = g
  exchange_stops M q I stops.Memory g = g

  pub answers_stop : (M : Mapping) (q : Query) (I : List TableRows) (e : Exchange) (k : Stop Refusal) → Gives (by (named_stage P.apply Plain)) (M, I) (Ok e) → Gives listed_answers (q, e) (Err k)
      → Gives (next (query_target P) query_answers) ((M, q), I) (Err k)
  answers_stop M q I e (stops.Refused k) g h = λ c. inr (((M, q), e), (e, g c, refl), h c)
  answers_stop M q I e (stops.Failed n) g h = h
  answers_stop M q I e stops.Memory g h = h

  pub answers_made : (M : Mapping) (q : Query) (I : List TableRows) (e : Exchange) (a : Answers) → Gives (by (named_stage P.apply Plain)) (M, I) (Ok e) → Gives listed_answers (q, e) (Ok a)
      → Gives (next (query_target P) query_answers) ((M, q), I) (Ok ((M, q), a))
  answers_made M q I e a g h = λ c. (((M, q), e), (e, g c, refl), (a, h c, refl))

  -- the target of an exchange is as wide as the query asks for
  pub target_widths : (M : Mapping) (q : Query) (J : List TableRows) (e : Exchange) (old new : InputState) → Ran (query_over M) M (Ok q) old new → Gives (by (named_stage P.apply Plain)) (M, J) (Ok e) → FitsQuery (widths e.target) q
  target_widths M q J e old new x g =
      let p = ran_passes (query_over M) M q old new x in
      subst (λ ws. FitsQuery ws q) (sym ((g p.0).widths_are ∙ model_widths M.target)) (query_fits p.0 M q p.1)

  -- ---- what is written

  pub plan_stops : (e : Stop Refusal) (old new : InputState) → Ran (answers P) (tt {0}) (Err e) old new → Ran (answer_stages P) (tt {0}) (Err e) old new
  plan_stops e old new x = ran_into_stop (λ (u : Unit {0}) (r : MappingAndQuery × Answers). answered_plan r) (answers P) (tt {0}) e old new x

  pub plan_made : (r : MappingAndQuery × Answers) (p : PlanContent Done) (old new : InputState) → p ≡ answered_plan r → Ran (answers P) (tt {0}) (Ok r) old new → Ran (answer_stages P) (tt {0}) (Ok p) old new
  plan_made r p old new is x =
      subst (λ v. Ran (answer_stages P) (tt {0}) (Ok v) old new) (sym is) (ran_into (λ (u : Unit {0}) (r : MappingAndQuery × Answers). answered_plan r) (answers P) (tt {0}) r old new x)

  -- memory did not hold what is written
  pub plan_none : (r : MappingAndQuery × Answers) (old new : InputState) → Ran (answers P) (tt {0}) (Ok r) old new → Ran (answer_stages P) (tt {0}) (Err stops.Memory) old new
  plan_none r old new x = ran_memory (answer_stages P) (tt {0}) (answered_plan r) old new (plan_made r (answered_plan r) old new refl x)

-- From what the calls of `answer_files` give to what its stages gave: a lemma for each way out, so that a proof cites one with variables alone.
use Rattle.std.proofs.Common.{ℕ, List, Result, Ok, Err}
use Rattle.dx_base.specs.Members.{Each}
use Rattle.dx_ports.specs.States.{InputState}
use Rattle.dx_instance.specs.Stored.{TableRows}
use Rattle.dx_used.specs.Used.{Marks, UsesOnly}
use Rattle.dx_queries.specs.declared.query.Query.{Query}
use Rattle.dx_exchange.specs.declared.mode.Mode.TheVariants.{Plain}
use Rattle.dx_exchange.specs.declared.result.Exchange.{Exchange}
use Rattle.dx_stages.specs.declared.stop.Stop.{Stop}
use Rattle.dx_stages.specs.Stages.{by, saying}
use Rattle.dx_stages.specs.Running.{Gives, Ran}
use Rattle.clio_accept.specs.declared.mapping.Mapping.{Mapping}
use Rattle.clio_source.specs.Agreeing.{RanAgreeing}
use Rattle.clio_source.specs.Source.{source_left, source_stages}
use Rattle.clio_source.proofs.Left.{ran_first}
use Rattle.clio_ending.specs.declared.ending.Answers.{Answers}
use Rattle.clio_ending.specs.declared.ending.Refusal.{Refusal}
use Rattle.clio_ending.specs.Ending.{source_refusal}
use Rattle.clio_steps.specs.Steps.{Program, mapping_stages, named_stage, wanted}
use Rattle.clio_steps.proofs.SameExchange.{same_exchange}
use Rattle.clio_answer.specs.Answering.{answers, listed_answers, query_over}
use Rattle.clio_answer.proofs.AnswerRuns.{answers_made, answers_stop, exchange_stops, finished, rows_stop}

-- the rows that were read agree on some columns with those of the files, and the rules use these alone
abbrev pub MarksRead : Program → Mapping → Result (List TableRows × ℕ) (Stop Refusal) → InputState → InputState → Type 0
MarksRead P M r old new =
    (used : Marks) × Each M.rules (UsesOnly used) × RanAgreeing used (saying source_refusal (source_left P.passes)) (wanted M) r old new

module _ (P : Program) (M : Mapping) (q : Query) (old mid on new : InputState) where
  -- the rows stop it
  pub no_rows : (e : Stop Refusal) → Ran (mapping_stages P) (tt {0}) (Ok M) old mid → Ran (query_over M) M (Ok q) mid on → MarksRead P M (Err e) on new → Ran (answers P) (tt {0}) (Err e) old new
  no_rows e x y z = rows_stop P M q e old mid on new x y (ran_first source_refusal P.passes (wanted M) (Err e) on new z.2)

  files_read : (I : List TableRows) (left : ℕ) → Ran (saying source_refusal (source_left P.passes)) (wanted M) (Ok (I, left)) on new
      → Ran (saying source_refusal (source_stages P.passes)) (wanted M) (Ok I) on new
  files_read I left x = ran_first source_refusal P.passes (wanted M) (Ok (I, left)) on new x

  -- their exchange stops it
  pub no_exchange : (J : List TableRows) (left : ℕ) (e : Stop Refusal) → Ran (mapping_stages P) (tt {0}) (Ok M) old mid → Ran (query_over M) M (Ok q) mid on → MarksRead P M (Ok (J, left)) on new
      → Gives (by (named_stage P.apply Plain)) (M, J) (Err e) → Ran (answers P) (tt {0}) (Err e) old new
  no_exchange J left e x y z g =
      finished P M q z.2.0 (Err e) old mid on new x y (files_read z.2.0 left z.2.3)
      (exchange_stops P M q z.2.0 e (same_exchange P Plain M z.0 z.2.0 J (Err e) z.1 z.2.1 g))

  -- the answers on its target stop it
  pub no_answers : (J : List TableRows) (left : ℕ) (e : Exchange) (k : Stop Refusal) → Ran (mapping_stages P) (tt {0}) (Ok M) old mid → Ran (query_over M) M (Ok q) mid on
      → MarksRead P M (Ok (J, left)) on new → Gives (by (named_stage P.apply Plain)) (M, J) (Ok e) → Gives listed_answers (q, e) (Err k) → Ran (answers P) (tt {0}) (Err k) old new
  no_answers J left e k x y z g h =
      finished P M q z.2.0 (Err k) old mid on new x y (files_read z.2.0 left z.2.3)
      (answers_stop P M q z.2.0 e k (same_exchange P Plain M z.0 z.2.0 J (Ok e) z.1 z.2.1 g) h)

  -- there are answers
  pub all_answered : (J : List TableRows) (left : ℕ) (e : Exchange) (a : Answers) → Ran (mapping_stages P) (tt {0}) (Ok M) old mid → Ran (query_over M) M (Ok q) mid on
      → MarksRead P M (Ok (J, left)) on new → Gives (by (named_stage P.apply Plain)) (M, J) (Ok e) → Gives listed_answers (q, e) (Ok a) → Ran (answers P) (tt {0}) (Ok ((M, q), a)) old new
  all_answered J left e a x y z g h =
      finished P M q z.2.0 (Ok ((M, q), a)) old mid on new x y (files_read z.2.0 left z.2.3)
      (answers_made P M q z.2.0 e a (same_exchange P Plain M z.0 z.2.0 J (Ok e) z.1 z.2.1 g) h)

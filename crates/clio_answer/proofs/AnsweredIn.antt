-- The answers that are passed on are the certain ones, in the world of the run.
use Rattle.std.proofs.Common.{◌≡◌, List, sym, ◌∙◌, ap, subst}
use Rattle.dx_instance.specs.Stored.{TableRows, facts}
use Rattle.dx_schema.specs.Tables.{model_tables}
use Rattle.dx_queries.specs.declared.query.Query.{Query}
use Rattle.dx_queries.specs.Results.{AreConstantAnswers}
use Rattle.dx_queries.proofs.Certain.{listed_are_certain}
use Rattle.dx_exchange.specs.declared.mode.Mode.TheVariants.{Plain}
use Rattle.dx_exchange.specs.declared.result.Exchange.{Exchange}
use Rattle.dx_exchange.specs.Exchanging.{IsExchange}
use Rattle.dx_stages.specs.Worlds.{World}
use Rattle.clio_accept.specs.declared.mapping.Mapping.{Mapping}
use Rattle.clio_source.specs.Source.{source_stages}
use Rattle.clio_files.specs.Answers.{answer_files}
use Rattle.clio_files.specs.Files.{files_of, summary_of}
use Rattle.clio_ending.specs.declared.ending.Answers.{Answers}
use Rattle.clio_answer.specs.Answering.{MappingAndQuery, answers, with_source_rows}
use Rattle.clio_answer.specs.Outcomes.{HasQueryIn, IsAnsweredIn}
use Rattle.clio_steps.specs.Outcomes.{ReadIn, Writing}
use Rattle.clio_steps.specs.Steps.{MappingAndRows, Program, exchange_input, wanted}
use Rattle.clio_steps.specs.declared.texts.Side.TheVariants.{First}
use Rattle.clio_steps.proofs.Spine.{accepted_in, exchanged_in}

-- what is known of answers
record Known (P : Program) (c : World) (M : Mapping) (q : Query) (I : List TableRows) (a : Answers) : Type 0 where
  read : ReadIn P c M I
  asked : HasQueryIn M.target c
  asked_is : asked.query ≡ q
  exchange : IsExchange P.apply (exchange_input Plain (M, I)) a.exchange
  are : AreConstantAnswers (facts a.exchange.target) q a.rows

answered_with : (P : Program) (c : World) (M : Mapping) (q : Query) (I : List TableRows) (a : Answers) (Wrote : Writing)
    → Known P c M q I a → Wrote (files_of (answer_files q.width a.rows)) (summary_of (answer_files q.width a.rows))
    → IsAnsweredIn P c a Wrote
answered_with P c M q I a Wrote k wrote =
    let is = sym k.asked_is in
    let are = subst (λ (r : Query). AreConstantAnswers (facts a.exchange.target) r a.rows) is k.are in
    record {
      mapping = M;
      rows = I;
      exchanged = exchanged_in P Plain c M I a.exchange k.read k.exchange;
      asked = k.asked;
      certain = listed_are_certain P.apply M.rules (model_tables M.target) (facts I) (facts a.exchange.target)
          k.asked.query a.rows k.exchange.universal are;
      written = subst
          (λ (r : Query). Wrote (files_of (answer_files r.width a.rows)) (summary_of (answer_files r.width a.rows)))
          is wrote;
    }

pub answered_in : (P : Program) (c : World) (r : MappingAndQuery × Answers) (Wrote : Writing)
    → (answers P).passes c (tt {0}) r
    → Wrote (files_of (answer_files r.0.1.width r.1.rows)) (summary_of (answer_files r.0.1.width r.1.rows))
    → IsAnsweredIn P c r.1 Wrote
answered_in P c r Wrote (M, m, (p, (q, (query_text, held, (b, said, (few, b_is))), p_is), (f, (I, source, f_is), (x, (e, exchange, x_is), (a, (from, are, within), r_is))))) wrote =
    let posed_is : x.0 ≡ (M, q) =
    ap (λ (y : MappingAndQuery × Exchange). y.0) x_is ∙ (ap (λ (y : MappingAndQuery × List TableRows). y.0) f_is ∙ p_is) in
    let target_is : a.exchange ≡ e = from ∙ ap (λ (y : MappingAndQuery × Exchange). y.1) x_is in
    let filled_is : with_source_rows f ≡ (M, I) = ap with_source_rows f_is ∙ ap (λ (y : MappingAndQuery). (y.0, I)) p_is in
    let found = subst (λ (y : MappingAndQuery). (source_stages P.passes).passes c (wanted y.0) I) p_is source in
    let made = subst (λ (y : MappingAndRows). IsExchange P.apply (exchange_input Plain y) e) filled_is exchange in
    let listed = subst (λ (y : MappingAndQuery). AreConstantAnswers (facts x.1.target) y.1 a.rows) posed_is are in
    let known : Known P c M q I a = record {
      read = record { accepted = accepted_in P First c M m; source = found };
      asked = record { text = query_text; held = held.0; few = held.1; query = b; said = said; atoms = few };
      asked_is = sym b_is;
      exchange = subst (IsExchange P.apply (exchange_input Plain (M, I))) (sym target_is) made;
      are = subst (λ (y : Exchange). AreConstantAnswers (facts y.target) q a.rows) (sym from) listed;
    } in
    let width_is : r.0.1 ≡ q = ap (λ (y : MappingAndQuery × Answers). y.0.1) r_is ∙ ap (λ (y : MappingAndQuery). y.1) posed_is in
    let rows_are : r.1 ≡ a = ap (λ (y : MappingAndQuery × Answers). y.1) r_is in
    let written = subst (λ (y : Query). Wrote (files_of (answer_files y.width r.1.rows)) (summary_of (answer_files y.width r.1.rows))) width_is wrote in
    let all = subst (λ (y : Answers). Wrote (files_of (answer_files q.width y.rows)) (summary_of (answer_files q.width y.rows))) rows_are written in
    subst (λ (y : Answers). IsAnsweredIn P c y Wrote) (sym rows_are) (answered_with P c M q I a Wrote known all)

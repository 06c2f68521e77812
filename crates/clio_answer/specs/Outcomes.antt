-- The answers to a query in a world, and what there has to be for them.
use Rattle.std.specs.Prelude.{◌≡◌, ℕ, List, length, Some, ◌≤◌, ◌*◌}
use Rattle.dx_model.specs.Values.{Tuple}
use Rattle.dx_stages.specs.Worlds.{World}
use Rattle.dx_schema.specs.Forest.{Forest}
use Rattle.dx_schema.specs.Tables.{model_tables}
use Rattle.dx_instance.specs.Stored.{TableRows, facts}
use Rattle.dx_exchange.specs.declared.mode.Mode.TheVariants.{Plain}
use Rattle.dx_queries.specs.declared.query.Query.{Query}
use Rattle.dx_queries.specs.Results.{AreCertain}
use Rattle.dx_query_text.specs.Queries.{IsQueryOver, HasFewAtoms}
use Rattle.clio_accept.specs.declared.mapping.Mapping.{Mapping}
use Rattle.clio_files.specs.Answers.{answer_files}
use Rattle.clio_files.specs.Files.{files_of, summary_of}
use Rattle.clio_ending.specs.declared.ending.Answers.{Answers}
use Rattle.clio_steps.specs.Steps.{Program}
use Rattle.clio_steps.specs.Outcomes.{ExchangedIn, HasSolutionIn, Writing}
use Rattle.clio_answer.specs.Answering.{query_name, answer_cells, query_bytes}

-- ---- the query

-- the text of a query over a target, none of whose parts has too many atoms
pub record HasQueryIn (target : Forest) (c : World) : Type 0 where
  pub text : List ℕ
  pub held : c query_name ≡ Some text
  pub few : length text ≤ query_bytes
  pub query : Query
  pub said : IsQueryOver target text query
  pub atoms : HasFewAtoms query

-- ---- answers

-- the exchange in plain mode in a world; the certain answers to the query that a text there says over its target; and
-- the one file of these, written, before the summary was said
pub record IsAnsweredIn (P : Program) (c : World) (a : Answers) (Wrote : Writing) : Type 0 where
  pub mapping : Mapping
  pub rows : List TableRows
  pub exchanged : ExchangedIn P Plain c mapping rows a.exchange
  pub asked : HasQueryIn mapping.target c
  pub certain : AreCertain P.apply mapping.rules (model_tables mapping.target) (facts rows) asked.query a.rows
  pub written : Wrote (files_of (answer_files asked.query.width a.rows))
      (summary_of (answer_files asked.query.width a.rows))

-- the certain answers of the query have no more cells than they may have
abbrev pub HasFewAnswers : (P : Program) (c : World) (h : HasSolutionIn P c) → HasQueryIn h.mapping.target c → Type 0
HasFewAnswers P c h k =
    (rows : List Tuple) → AreCertain P.apply h.mapping.rules (model_tables h.mapping.target) (facts h.rows) k.query rows
    → length rows * k.query.width ≤ answer_cells

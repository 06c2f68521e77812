-- The stages of `answer`: the mapping, the query, the rows, their exchange in plain mode, its certain answers.
use Rattle.std.specs.Prelude.{◌≡◌, ◌<◌, ◌≤◌, ◌*◌, ℕ, List, codes, length}
use Rattle.dx_base.specs.Members.{◌∈◌}
use Rattle.dx_base.specs.declared.file.Count.TheVariants.{AnswerCells, QueryAtoms, QueryBytes}
use Rattle.dx_base.specs.declared.limits.TheConstants.{ANSWER_CELLS, QUERY_ATOMS, QUERY_BYTES}
use Rattle.dx_stages.specs.Ending.{PlanContent}
use Rattle.dx_stages.specs.Stages.{Stage, next, by, over, into, file, saying, saying_if, checking, notions}
use Rattle.dx_schema.specs.Forest.{Forest}
use Rattle.dx_tokens.specs.declared.faults.TextFault.{TextFault}
use Rattle.dx_instance.specs.Stored.{TableRows, facts}
use Rattle.dx_exchange.specs.declared.mode.Mode.TheVariants.{Plain}
use Rattle.dx_exchange.specs.declared.result.Exchange.{Exchange}
use Rattle.dx_queries.specs.declared.query.Part.{Part}
use Rattle.dx_queries.specs.declared.query.Query.{Query}
use Rattle.dx_queries.specs.Results.{AreConstantAnswers, AnswersPassLimit}
use Rattle.dx_query_text.specs.Queries.{HasFewAtoms, IsFaultOver, IsQueryOver}
use Rattle.clio_accept.specs.declared.mapping.Mapping.{Mapping}
use Rattle.clio_source.specs.Source.{source_stages}
use Rattle.clio_files.specs.Answers.{answer_files}
use Rattle.clio_files.specs.Files.{files_of, summary_of}
use Rattle.clio_ending.specs.declared.ending.Answers.{Answers}
use Rattle.clio_ending.specs.declared.ending.Done.{Done}
use Rattle.clio_ending.specs.declared.ending.Done.TheVariants.{Answered}
use Rattle.clio_ending.specs.declared.ending.Refusal.{Refusal}
use Rattle.clio_ending.specs.declared.ending.Refusal.TheVariants as refusals
use Rattle.clio_ending.specs.declared.faults.QueryFault.TheVariants as query_faults
use Rattle.clio_ending.specs.Ending.{query_refusal, source_refusal}
use Rattle.clio_steps.specs.Steps.{MappingAndRows, Program, mapping_stages, named_stage, wanted}

-- ---- the query

-- how many bytes the text of a query may have
abbrev pub query_bytes : ℕ
query_bytes = QUERY_BYTES

-- how many cells the answers may have
abbrev pub answer_cells : ℕ
answer_cells = ANSWER_CELLS

abbrev pub query_name : List ℕ
query_name = codes "query.clio"

abbrev pub absent_query : Refusal
absent_query = refusals.Query query_faults.Absent

abbrev pub long_query : Refusal
long_query = refusals.Limit (record { what = QueryBytes; number = query_bytes })

abbrev pub query_file : Stage Refusal Mapping (List ℕ)
query_file = file query_name query_bytes absent_query long_query

-- the query that a text says over a target, or the text's first fault
abbrev pub query_in_text : Forest → Stage TextFault (List ℕ) Query
query_in_text target = notions (IsFaultOver target) (IsQueryOver target)

-- a part has too many atoms
abbrev pub HasManyAtoms : Query → Refusal → Type 0
HasManyAtoms q e =
    (p : Part) × (p ∈ q.parts) × (QUERY_ATOMS < length p.atoms)
    × (e ≡ refusals.Limit (record { what = QueryAtoms; number = QUERY_ATOMS }))

abbrev pub few_atoms : Stage Refusal Query Query
few_atoms = checking HasManyAtoms HasFewAtoms

-- the query of a text, none of whose parts has more
abbrev pub text_query : Forest → Stage Refusal (List ℕ) Query
text_query target = next (saying_if query_refusal (query_in_text target)) few_atoms

-- a mapping, and a query over its target
abbrev pub MappingAndQuery : Type 0
MappingAndQuery = Mapping × Query

-- the query over the target of a mapping
abbrev pub query_over : Mapping → Stage Refusal Mapping Query
query_over M = next query_file (text_query M.target)

abbrev pub query_stages : Stage Refusal Mapping MappingAndQuery
query_stages = into (λ (M : Mapping) (q : Query). (M, q)) (by query_over)

-- ---- the target, beside the query

-- the rows of the source files that pass the mapping's conditions
abbrev pub query_rows : Program → Stage Refusal MappingAndQuery (MappingAndQuery × List TableRows)
query_rows P =
    into (λ (p : MappingAndQuery) (I : List TableRows). (p, I))
    (over (λ (p : MappingAndQuery). wanted p.0) (saying source_refusal (source_stages P.passes)))

-- the mapping with the rows
abbrev pub with_source_rows : MappingAndQuery × List TableRows → MappingAndRows
with_source_rows p = (p.0.0, p.1)

-- their exchange in plain mode
abbrev pub query_target : Program → Stage Refusal (MappingAndQuery × List TableRows) (MappingAndQuery × Exchange)
query_target P =
    into (λ (p : MappingAndQuery × List TableRows) (e : Exchange). (p.0, e))
    (over with_source_rows (by (named_stage P.apply Plain)))

-- ---- the answers on the target

-- a query, and an exchange into its target
abbrev pub QueryAndExchange : Type 0
QueryAndExchange = Query × Exchange

-- the answers have more cells than they may have
abbrev pub PassAnswerCells : QueryAndExchange → Refusal → Type 0
PassAnswerCells p e =
    AnswersPassLimit (facts p.1.target) p.0 answer_cells
    × (e ≡ refusals.Limit (record { what = AnswerCells; number = answer_cells }))

-- the rows of constants among the answers, ascending
abbrev pub AreAnswers : QueryAndExchange → Answers → Type 0
AreAnswers p a =
    (a.exchange ≡ p.1) × AreConstantAnswers (facts p.1.target) p.0 a.rows
    × (length a.rows * p.0.width ≤ answer_cells)

abbrev pub listed_answers : Stage Refusal QueryAndExchange Answers
listed_answers = notions PassAnswerCells AreAnswers

-- the answers, beside the mapping and the query
abbrev pub query_answers : Stage Refusal (MappingAndQuery × Exchange) (MappingAndQuery × Answers)
query_answers =
    into (λ (p : MappingAndQuery × Exchange) (a : Answers). (p.0, a))
    (over (λ (p : MappingAndQuery × Exchange). (p.0.1, p.1)) listed_answers)

-- a mapping text, a query, the source files, their exchange, and its answers
abbrev pub answers : Program → Stage Refusal (Unit {0}) (MappingAndQuery × Answers)
answers P =
    next (mapping_stages P) (next query_stages (next (query_rows P) (next (query_target P) query_answers)))

-- the one file of answers, and its line
abbrev pub answered_plan : MappingAndQuery × Answers → PlanContent Done
answered_plan q =
    let files = answer_files q.0.1.width q.1.rows in
    record { done = Answered q.1; files = files_of files; text = summary_of files }

abbrev pub answer_stages : Program → Stage Refusal (Unit {0}) (PlanContent Done)
answer_stages P = into (λ (u : Unit {0}) (q : MappingAndQuery × Answers). answered_plan q) (answers P)

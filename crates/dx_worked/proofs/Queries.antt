-- The steps of a query: its text, its two limits and that of its answers, and the one file.
use Rattle.std.proofs.Common.{◌≡◌, ℕ, List, [], ◌∷◌, ◌++◌, None, codes, refl, replicate, arith}
use Rattle.std.specs.Fmt.{decimal}
use Rattle.dx_base.specs.Members.{here, there}
use Rattle.dx_base.specs.declared.file.Count.TheVariants.{AnswerCells, QueryAtoms, QueryBytes}
use Rattle.dx_model.specs.Values.{Tuple}
use Rattle.dx_tokens.specs.declared.faults.TextFault.TheVariants as text_faults
use Rattle.dx_queries.specs.declared.query.Query.{Query}
use Rattle.dx_query_text.specs.Queries.{HasFewAtoms}
use Rattle.dx_instance.specs.Stored.{TableRows}
use Rattle.dx_exchange.specs.declared.result.Exchange.{Exchange}
use Rattle.clio_accept.specs.declared.mapping.Mapping.{Mapping}
use Rattle.clio_files.specs.Answers.{answer_files, answers_sheet}
use Rattle.clio_files.specs.Files.{files_of, summary_of}
use Rattle.clio_files.specs.Sheets.{file_of}
use Rattle.clio_ending.specs.declared.ending.Answers.{Answers}
use Rattle.clio_ending.specs.declared.ending.Done.TheVariants.{Answered}
use Rattle.clio_ending.specs.declared.ending.Refusal.{Refusal}
use Rattle.clio_ending.specs.declared.ending.Refusal.TheVariants as refusals
use Rattle.clio_ending.specs.declared.faults.QueryFault.TheVariants as query_faults
use Rattle.clio_ending.specs.Ending.{query_refusal}
use Rattle.clio_answer.specs.Answering.{HasManyAtoms, PassAnswerCells, QueryAndExchange, absent_query, answer_cells, answered_plan, long_query, query_bytes, query_name, with_source_rows}

-- ---- the text

its_file : query_name ≡ codes "query.clio"
its_file = refl

none_there : absent_query ≡ refusals.Query query_faults.Absent
none_there = refl

its_bytes : query_bytes ≡ 65536
its_bytes = refl

too_long : long_query ≡ refusals.Limit (record { what = QueryBytes; number = 65536 })
too_long = refl

memory_refuses_none : query_refusal text_faults.Memory ≡ None
memory_refuses_none = refl

-- ---- how many atoms

abbrev with_atoms : ℕ → Query
with_atoms n = record { width = 0; parts = record { answer = []; atoms = replicate n (record { table = 0; cells = [] }) } ∷ [] }

sixty_four_are_few : HasFewAtoms (with_atoms 64)
sixty_four_are_few p (here e) = rw (← e) (omega arith)
sixty_four_are_few p (there m) = elim m [ ]

sixty_five_are_many : HasManyAtoms (with_atoms 65) (refusals.Limit (record { what = QueryAtoms; number = 64 }))
sixty_five_are_many = (_, here refl, omega arith, refl)

-- each part is asked, and a refusal names the number of the limit
the_number_of_atoms : (q : Query) (e : Refusal) → HasManyAtoms q e → e ≡ refusals.Limit (record { what = QueryAtoms; number = 64 })
the_number_of_atoms q e h = h.3

-- ---- how many answers

its_cells : answer_cells ≡ 4000000
its_cells = refl

the_number_of_cells : (p : QueryAndExchange) (e : Refusal) → PassAnswerCells p e → e ≡ refusals.Limit (record { what = AnswerCells; number = 4000000 })
the_number_of_cells p e h = h.1

-- ---- what is written

-- the rows that are exchanged are those of the source files, under the mapping
exchanged : (M : Mapping) (q : Query) (I : List TableRows) → with_source_rows ((M, q), I) ≡ (M, I)
exchanged M q I = refl

-- two answers of two columns, in one of which is no text
abbrev rows : List Tuple
rows = (codes "ann" ∷ [] ∷ []) ∷ (codes "bob" ∷ codes "1" ∷ []) ∷ []

abbrev answered : Exchange → Answers
answered e = record { exchange = e; rows = rows }

-- of the width of the query, whatever the answers are
its_sheet : answers_sheet 2 rows ≡ record {
  name = codes "answers.csv";
  header = (codes "c" ++ decimal 0) ∷ (codes "c" ++ decimal 1) ∷ [];
  records = (codes "ann" ∷ [] ∷ []) ∷ (codes "bob" ∷ codes "1" ∷ []) ∷ [];
}
its_sheet = refl

its_files : answer_files 2 rows ≡ file_of (answers_sheet 2 rows) ∷ []
its_files = refl

-- the file and its line are all that is put and said: nothing of the exchange is
its_plan : (M : Mapping) (e : Exchange) → answered_plan ((M, record { width = 2; parts = [] }), answered e)
    ≡ record { done = Answered (answered e); files = files_of (answer_files 2 rows); text = summary_of (answer_files 2 rows) }
its_plan M e = refl

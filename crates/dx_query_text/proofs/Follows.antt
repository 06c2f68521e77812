-- Each reader reads its form, and tells it of tokens.
use Rattle.std.proofs.Common.{Bool, List, refl}
use Rattle.std.specs.Prelude.{codes, true}
use Rattle.dx_tokens.specs.declared.scanner.Lexeme.{Lexeme}
use Rattle.dx_grammar.specs.Forms.{repeated}
use Rattle.dx_grammar.specs.Readers.{token, many, whole, TellsOfTokens}
use Rattle.dx_grammar.proofs.Verdicts.{IsReader, Anything, Stops, Begins}
use Rattle.dx_grammar.proofs.Combined.{then_reads, then_any, last_reads, many_reads, begins_one, stops_end, consumes}
use Rattle.dx_grammar.proofs.Loops.{Consumes}
use Rattle.dx_grammar.proofs.Told.{answers}
use Rattle.dx_schema_text.specs.Grammar.{word_is, digit_is, mark_is, mark, cells, atoms}
use Rattle.dx_schema_text.specs.Reading.{cells_reader, atoms_reader}
use Rattle.dx_schema_text.proofs.Apart.{apart_marks}
use Rattle.dx_schema_text.proofs.Follows.{a, atoms_reads, begins_with, cells_reads, comma_stops}
use Rattle.dx_query_text.specs.Grammar.{part, query}
use Rattle.dx_query_text.specs.Reading.{part_reader, query_reader}

abbrev comma : Lexeme → Bool
comma = mark_is (codes ",")

-- what begins a part
abbrev pub begins_part : Lexeme → Bool
begins_part = word_is (codes "answer")

part_begins : Begins begins_part part
unfolding part
part_begins = begins_with begins_part _

part_reads : IsReader Anything part part_reader
unfolding part part_reader
part_reads =
    then_any Anything _ _ _ _ (a begins_part) (λ k.
    then_any Anything _ _ _ _ (a (mark_is (codes "("))) (λ o.
    then_reads Anything (Stops comma) (cells true) _ (cells_reader true) _ (cells_reads true) (λ inside.
    then_any Anything _ _ _ _ (a (mark_is (codes ")"))) (λ c.
    then_any Anything _ _ _ _ (a (word_is (codes "from"))) (λ f.
    then_reads Anything (Stops comma) (atoms true) (mark (codes ";")) (atoms_reader true) _ (atoms_reads true) (λ facts.
    last_reads Anything (mark (codes ";")) (token (mark_is (codes ";"))) _ (a (mark_is (codes ";"))))
    (λ more ok. comma_stops (codes ";") _ more (apart_marks (codes ",") (codes ";") refl) (begins_one (mark_is (codes ";")))))))
    (λ more ok. comma_stops (codes ")") _ more (apart_marks (codes ",") (codes ")") refl) (begins_with (mark_is (codes ")")) _))))

pub part_consumes : Consumes part_reader
part_consumes = consumes begins_part part part_reader part_reads part_begins

query_reads : IsReader (Stops begins_part) query query_reader
unfolding query query_reader
query_reads =
    then_any (Stops begins_part) _ _ _ _ (a (word_is (codes "query"))) (λ k.
    then_any (Stops begins_part) _ _ _ _ (a (digit_is (codes "1"))) (λ n.
    then_any (Stops begins_part) _ _ _ _ (a (mark_is (codes ";"))) (λ e.
    then_any (Stops begins_part) part _ part_reader _ part_reads (λ first.
    last_reads (Stops begins_part) (repeated part) (many begins_part part_reader) _ (many_reads begins_part part part_reader part_reads part_begins)))))

-- what the answer of the reader says of tokens
pub query_tells : (xs : List Lexeme) → TellsOfTokens query xs (whole query_reader xs)
query_tells xs = answers (Stops begins_part) query query_reader query_reads (stops_end begins_part) xs

use Rattle.std.proofs.Common.{◌≡◌, length}
use Rattle.std.specs.Prelude.{codes}
use Rattle.dx_grammar.specs.Readers.{many, with_front}
use Rattle.dx_schema_text.specs.Grammar.{word_is}
use Rattle.dx_query_text.specs.Reading.{part_reader}
use Rattle.dx_query_text.proofs.parts.more_parts.Given as goal

abbrev pub invariant-parts : goal.invariant-parts
invariant-parts l = with_front l.parts (many (word_is (codes "answer")) part_reader l.rest) ≡ with_front l.fn.parts (many (word_is (codes "answer")) part_reader l.fn.tokens)

abbrev pub decreases-parts : goal.decreases-parts
decreases-parts l = length l.rest

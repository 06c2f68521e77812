use Rattle.std.proofs.Common.{◌≡◌, length}
use Rattle.std.specs.Prelude.{codes}
use Rattle.dx_grammar.specs.Readers.{many, with_front}
use Rattle.dx_schema_text.specs.Grammar.{word_is}
use Rattle.dx_schema_text.specs.Reading.{set_reader}
use Rattle.dx_schema_text.proofs.mapping.sets.Given as goal

abbrev pub invariant-sets : goal.invariant-sets
invariant-sets l = with_front l.sets (many (word_is (codes "set")) (set_reader l.version l.levels) l.rest) ≡ many (word_is (codes "set")) (set_reader l.version l.levels) l.fn.tokens

abbrev pub decreases-sets : goal.decreases-sets
decreases-sets l = length l.rest

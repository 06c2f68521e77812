use Rattle.std.proofs.Common.{◌≡◌, length}
use Rattle.std.specs.Prelude.{codes}
use Rattle.dx_grammar.specs.Readers.{many, with_front}
use Rattle.dx_schema_text.specs.Grammar.{mark_is}
use Rattle.dx_schema_text.specs.Reading.{comma_word}
use Rattle.dx_schema_text.proofs.lexemes.more_names.Given as goal

abbrev pub invariant-names : goal.invariant-names
invariant-names l = with_front l.names (many (mark_is (codes ",")) comma_word l.rest) ≡ with_front l.fn.names (many (mark_is (codes ",")) comma_word l.fn.tokens)

abbrev pub decreases-names : goal.decreases-names
decreases-names l = length l.rest

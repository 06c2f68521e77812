use Rattle.std.proofs.Common.{◌≡◌, length}
use Rattle.std.specs.Prelude.{codes}
use Rattle.dx_grammar.specs.Readers.{many, with_front}
use Rattle.dx_schema_text.specs.Grammar.{mark_is}
use Rattle.dx_schema_text.specs.Reading.{comma_derived}
use Rattle.dx_schema_text.proofs.rules.more_derived.Given as goal

abbrev pub invariant-all : goal.invariant-all
invariant-all l = with_front l.all (many (mark_is (codes ",")) comma_derived l.rest) ≡ with_front l.fn.all (many (mark_is (codes ",")) comma_derived l.fn.tokens)

abbrev pub decreases-all : goal.decreases-all
decreases-all l = length l.rest

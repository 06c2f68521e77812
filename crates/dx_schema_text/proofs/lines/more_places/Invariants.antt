use Rattle.std.proofs.Common.{◌≡◌, length}
use Rattle.std.specs.Prelude.{codes}
use Rattle.dx_grammar.specs.Readers.{many, with_front}
use Rattle.dx_schema_text.specs.Grammar.{mark_is}
use Rattle.dx_schema_text.specs.Reading.{comma_place}
use Rattle.dx_schema_text.proofs.lines.more_places.Given as goal

abbrev pub invariant-places : goal.invariant-places
invariant-places l = with_front l.places (many (mark_is (codes ",")) comma_place l.rest) ≡ with_front l.fn.places (many (mark_is (codes ",")) comma_place l.fn.tokens)

abbrev pub decreases-places : goal.decreases-places
decreases-places l = length l.rest

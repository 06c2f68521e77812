use Rattle.std.proofs.Common.{◌≡◌, length}
use Rattle.std.specs.Prelude.{codes}
use Rattle.dx_grammar.specs.Readers.{many, with_front}
use Rattle.dx_schema_text.specs.Grammar.{mark_is}
use Rattle.dx_schema_text.specs.Reading.{comma_cell}
use Rattle.dx_schema_text.proofs.rules.more_cells.Given as goal

abbrev pub invariant-cells : goal.invariant-cells
invariant-cells l = with_front l.cells (many (mark_is (codes ",")) (comma_cell l.strings) l.rest) ≡ with_front l.fn.cells (many (mark_is (codes ",")) (comma_cell l.strings) l.fn.tokens)

abbrev pub decreases-cells : goal.decreases-cells
decreases-cells l = length l.rest

use Rattle.std.proofs.Common.{◌≡◌, length}
use Rattle.dx_grammar.specs.Readers.{many, with_front}
use Rattle.dx_grammar.specs.Lists.{past}
use Rattle.dx_script_text.specs.Grammar.{is_comma}
use Rattle.dx_script_text.specs.Reading.{alias_cell_reader}
use Rattle.dx_script_text.proofs.matches.more_cells.Given as goal

abbrev pub invariant-all : goal.invariant-all
invariant-all l = with_front l.all (many is_comma (past is_comma alias_cell_reader) l.rest) ≡ with_front l.fn.all (many is_comma (past is_comma alias_cell_reader) l.fn.tokens)

abbrev pub decreases-all : goal.decreases-all
decreases-all l = length l.rest

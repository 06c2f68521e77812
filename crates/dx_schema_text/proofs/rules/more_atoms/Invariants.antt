use Rattle.std.proofs.Common.{◌≡◌, length}
use Rattle.std.specs.Prelude.{codes}
use Rattle.dx_grammar.specs.Readers.{many, with_front}
use Rattle.dx_schema_text.specs.Grammar.{mark_is}
use Rattle.dx_schema_text.specs.Reading.{comma_atom}
use Rattle.dx_schema_text.proofs.rules.more_atoms.Given as goal

abbrev pub invariant-atoms : goal.invariant-atoms
invariant-atoms l = with_front l.atoms (many (mark_is (codes ",")) (comma_atom l.strings) l.rest) ≡ with_front l.fn.atoms (many (mark_is (codes ",")) (comma_atom l.strings) l.fn.tokens)

abbrev pub decreases-atoms : goal.decreases-atoms
decreases-atoms l = length l.rest

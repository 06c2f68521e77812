use Rattle.std.proofs.Common.{◌≡◌, ◌+◌, ◌*◌, length}
use Rattle.dx_grammar.specs.Readers.{many, with_front}
use Rattle.dx_schema_text.specs.Reading.{begins_clause, clause_reader}
use Rattle.dx_schema_text.proofs.clauses.+sets.Given as goal

abbrev pub decreases-set_among : goal.decreases-set_among
decreases-set_among l = 5 * l.levels + 4

abbrev pub decreases-clause_with : goal.decreases-clause_with
decreases-clause_with l = 5 * l.levels + 5

abbrev pub decreases-one_clause : goal.decreases-one_clause
decreases-one_clause l = 5 * l.levels + 1

abbrev pub decreases-clauses : goal.decreases-clauses
decreases-clauses l = 5 * l.levels + 2

abbrev pub decreases-set : goal.decreases-set
decreases-set l = 5 * l.levels + 3

abbrev pub invariant-clauses-clauses : goal.invariant-clauses-clauses
invariant-clauses-clauses l = with_front l.clauses (many (begins_clause l.version l.levels) (clause_reader l.version l.levels) l.rest) ≡ many (begins_clause l.version l.levels) (clause_reader l.version l.levels) l.fn.tokens

abbrev pub decreases-clauses-clauses : goal.decreases-clauses-clauses
decreases-clauses-clauses l = length l.rest

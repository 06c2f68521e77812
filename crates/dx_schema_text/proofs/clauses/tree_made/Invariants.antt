use Rattle.std.proofs.Common.{◌≡◌}
use Rattle.dx_schema_text.specs.Reading.{keys_among, deps_among, refs_among, sets_among}
use Rattle.dx_schema_text.proofs.clauses.tree_made.Given as goal

abbrev pub invariant-clauses : goal.invariant-clauses
invariant-clauses l = record { keys_are : l.keys ≡ keys_among l.yielded; deps_are : l.deps ≡ deps_among l.yielded; refs_are : l.refs ≡ refs_among l.yielded; sets_are : l.inner ≡ sets_among l.yielded }

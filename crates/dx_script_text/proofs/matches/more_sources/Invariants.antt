use Rattle.std.proofs.Common.{◌≡◌, length}
use Rattle.dx_script_text.specs.Reading.{and_counted, comma_source}
use Rattle.dx_script_text.proofs.matches.more_sources.Given as goal

abbrev pub invariant-all : goal.invariant-all
invariant-all l = and_counted comma_source l.all l.rest ≡ and_counted comma_source l.fn.all l.fn.tokens

abbrev pub decreases-all : goal.decreases-all
decreases-all l = length l.rest

use Rattle.std.proofs.Common.{◌≡◌, drop}
use Rattle.std.specs.Prelude.{[], map}
use Rattle.dx_ways.specs.Tried.{is_like, with_unlike}
use Rattle.dx_ways.proofs.seen.unlike.Given as goal

abbrev pub invariant-loop-occurrence : goal.invariant-loop-occurrence
invariant-loop-occurrence l = with_unlike (is_like l.places) (map (λ r. r.now) l.found.items) (drop l.occurrence-index l.occurrences) ≡ with_unlike (is_like l.places) [] l.occurrences

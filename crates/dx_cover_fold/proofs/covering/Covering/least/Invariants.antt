use Rattle.std.proofs.Common.{◌≡◌, length}
use Rattle.std.specs.Prelude.{[], slice_index_or}
use Rattle.dx_cover_fold.specs.Found.{FindsAmong}
use Rattle.dx_cover_fold.specs.Matched.{matched_tuples}
use Rattle.dx_cover_fold.proofs.CoverFacts.{choices_below}
use Rattle.dx_cover_fold.proofs.covering.Covering.least.Given as goal

abbrev pub invariant-loop-other : goal.invariant-loop-other
invariant-loop-other l = (length l.found.items ≡ length (slice_index_or (matched_tuples l.self.matches.now) l.self.rule [])) × FindsAmong l.self.rules.now (matched_tuples l.self.matches.now) l.self.rule (choices_below l.self.rules.now (matched_tuples l.self.matches.now) l.self.rule l.other) l.found.items

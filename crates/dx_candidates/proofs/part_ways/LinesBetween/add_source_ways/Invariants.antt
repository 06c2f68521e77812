use Rattle.std.proofs.Common.{◌≡◌, ◌++◌, take}
use Rattle.std.specs.Prelude.{map}
use Rattle.dx_lines.specs.Ways.{ways}
use Rattle.dx_candidates.proofs.part_ways.LinesBetween.add_source_ways.Given as goal

abbrev pub invariant-loop-part : goal.invariant-loop-part
invariant-loop-part l = l.found ≡ l.initial.found ++ map (λ part. ways l.self.lines.now part l.self.to.now) (take l.part-index l.parts)

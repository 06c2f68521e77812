use Rattle.std.proofs.Common.{◌≡◌, ◌≤◌, [], length, drop}
use Rattle.std.specs.Prelude.{flat_map}
use Rattle.dx_lines.specs.Ways.{line_ways}
use Rattle.dx_ways.specs.Laws.{PicksAscend}
use Rattle.dx_ways.specs.Tried.{put_all}
use Rattle.dx_ways.proofs.finding.ways.Given as goal

abbrev pub invariant-loop-line : goal.invariant-loop-line
invariant-loop-line l = record {
  same : put_all l.found.items (flat_map (line_ways l.from l.to) (drop l.line-index l.lines)) ≡ put_all [] (flat_map (line_ways l.from l.to) l.lines);
  ascends : PicksAscend l.found.items;
  few : length l.found.items ≤ 64;
}

use Rattle.std.proofs.Common.{◌≡◌, ◌≤◌}
use Rattle.dx_json.specs.Lines.{constants_in}
use Rattle.dx_json.proofs.facts.row_of.Given as goal

abbrev pub invariant-loop-place : goal.invariant-loop-place
invariant-loop-place l = record {
  row : l.row ≡ constants_in l.texts l.start l.place;
  from : l.start ≤ l.place;
}

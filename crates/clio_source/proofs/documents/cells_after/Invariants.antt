use Rattle.std.proofs.Common.{◌≡◌, ◌+◌, take}
use Rattle.clio_source.specs.Source.{fact_cells}
use Rattle.clio_source.proofs.documents.cells_after.Given as goal

abbrev pub invariant-loop-place : goal.invariant-loop-place
invariant-loop-place l = l.rest + fact_cells l.schema (take l.place l.facts) ≡ l.left

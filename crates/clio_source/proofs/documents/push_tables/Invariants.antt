use Rattle.clio_source.specs.Fitting.{AddsEmpty}
use Rattle.clio_source.proofs.documents.push_tables.Given as goal

abbrev pub invariant-loop-table : goal.invariant-loop-table
invariant-loop-table l = AddsEmpty l.schema l.table l.initial.tables.items l.tables.items

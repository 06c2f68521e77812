use Rattle.std.proofs.Common.{◌<◌, length}
use Rattle.dx_solver.specs.Domains.{choice_count, term_at}
use Rattle.dx_solver.proofs.choosing.least_column.Given as goal

abbrev pub invariant-loop-column : goal.invariant-loop-column
invariant-loop-column l = record {
  within : l.best < length l.terms;
  free : 1 < choice_count l.domains (term_at l.terms l.best);
}

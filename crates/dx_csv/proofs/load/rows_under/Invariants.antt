use Rattle.std.proofs.Common.{◌+◌, ◌∷◌, length}
use Rattle.dx_csv.proofs.TableFacts.{Loaded}
use Rattle.dx_csv.proofs.load.rows_under.Given as goal

abbrev pub invariant-under : goal.invariant-under
invariant-under l = Loaded (l.columns ∷ l.initial.records) l.columns l.rows.items l.records (l.number + 1)

abbrev pub decreases-under : goal.decreases-under
decreases-under l = length l.records

use Rattle.std.proofs.Common.{◌+◌, ◌∷◌, length}
use Rattle.dx_csv.proofs.TableFacts.{Collected}
use Rattle.dx_csv.proofs.load.fields_under.Given as goal

abbrev pub invariant-under : goal.invariant-under
invariant-under l = Collected (l.columns ∷ l.initial.records) l.columns l.fields l.records (l.number + 1)

abbrev pub decreases-under : goal.decreases-under
decreases-under l = length l.records

use Rattle.std.proofs.Common.{◌≡◌, ◌≤◌, ◌-◌, length}
use Rattle.dx_schema.specs.Tables.{model_tables}
use Rattle.dx_closing.specs.Closing.{gone, begun}
use Rattle.dx_closing.specs.Laws.{IsRoomy}
use Rattle.dx_closing.proofs.closing.close.Given as goal

abbrev pub invariant-atoms : goal.invariant-atoms
invariant-atoms l =
    (l.growing ≡ gone (model_tables l.target) (begun l.fn.rule.conclusion) l.place)
    × IsRoomy (model_tables l.target) l.growing
    × (l.place ≤ length l.growing.atoms)

abbrev pub decreases-atoms : goal.decreases-atoms
decreases-atoms l = 65 - l.place

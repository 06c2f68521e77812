use Rattle.std.proofs.Common.{◌≡◌, take}
use Rattle.std.specs.Prelude.{map}
use Rattle.dx_tgd.specs.Gained.{GainsFacts}
use Rattle.dx_tgd.specs.Planned.{built, planned_fact}
use Rattle.dx_tgd.proofs.building.add_place.Given as goal

abbrev pub invariant-loop-atom : goal.invariant-loop-atom
invariant-loop-atom l = record { symbols : l.target.symbols ≡ l.fn.target.symbols; gains : GainsFacts (built l.fn.target) (built l.target) (map (planned_fact l.fn.target.symbols l.row l.place) (take l.atom-index l.atoms)) }

use Rattle.std.proofs.Common.{◌≡◌, take}
use Rattle.std.specs.Prelude.{map}
use Rattle.dx_model.specs.Rules.{at_places}
use Rattle.dx_tgd.specs.Gained.{GainsFacts}
use Rattle.dx_tgd.specs.Planned.{built}
use Rattle.dx_joins.specs.Shown.{texts_of}
use Rattle.dx_tgd.proofs.building.add_rule.Given as goal

abbrev pub invariant-loop-place : goal.invariant-loop-place
invariant-loop-place l = record { symbols : l.target.symbols ≡ l.initial.target.symbols; gains : GainsFacts (built l.fn.target) (built l.target) (at_places l.number l.rule 0 (take l.place (map (texts_of l.fn.target.symbols) l.rows.rows))) }

use Rattle.std.proofs.Common.{take}
use Rattle.dx_model.specs.Rules.{canonical}
use Rattle.dx_instance.specs.Numbers.{Extends}
use Rattle.dx_tgd.specs.Gained.{GainsFacts}
use Rattle.dx_tgd.specs.Planned.{built}
use Rattle.dx_tgd.specs.Texts.{tuples_in}
use Rattle.dx_tgd.proofs.building.canonical_of_rows.Given as goal

abbrev pub invariant-loop-i : goal.invariant-loop-i
invariant-loop-i l = record { grows : Extends l.initial.target.symbols l.target.symbols; gains : GainsFacts (built l.initial.target) (built l.target) (canonical 0 (take l.i l.rules) (take l.i (tuples_in l.initial.target.symbols l.rows))) }

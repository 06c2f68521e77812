use Rattle.std.proofs.Common.{◌≡◌, take}
use Rattle.std.specs.Prelude.{map}
use Rattle.dx_model.specs.declared.rules.Rule.{Rule}
use Rattle.dx_model.specs.Rules.{exported}
use Rattle.dx_script.specs.Generated.{out_of}
use Rattle.dx_scriptgen.proofs.inserts.outs_of.Given as goal

abbrev pub invariant-loop-cell : goal.invariant-loop-cell
invariant-loop-cell l = (d : Rule) → l.variables ≡ exported d → l.outs ≡ map (out_of d) (take l.cell-index l.cells)

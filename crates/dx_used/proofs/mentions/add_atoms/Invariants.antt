use Rattle.std.proofs.Common.{List, ◌++◌, take}
use Rattle.dx_model.specs.declared.rules.Cell.{Cell}
use Rattle.dx_model.specs.Rules.{cells_of}
use Rattle.dx_used.specs.Counting.{CountsCells}
use Rattle.dx_used.proofs.mentions.add_atoms.Given as goal

abbrev pub invariant-loop-atom : goal.invariant-loop-atom
invariant-loop-atom l = (before : List Cell) → CountsCells before l.initial.counts → CountsCells (before ++ cells_of (take l.atom-index l.atoms)) l.counts

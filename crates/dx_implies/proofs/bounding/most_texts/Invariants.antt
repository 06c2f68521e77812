use Rattle.std.proofs.Common.{◌≤◌, length, take}
use Rattle.dx_base.specs.Members.{Each}
use Rattle.dx_model.specs.declared.rules.Atom.{Atom}
use Rattle.dx_instance.specs.Stored.{rows_of}
use Rattle.dx_implies.proofs.bounding.most_texts.Given as goal

abbrev pub invariant-loop-atom : goal.invariant-loop-atom
invariant-loop-atom l = Each (take l.atom-index l.atoms) (λ (a : Atom). length (rows_of l.source a.table) ≤ l.rows)

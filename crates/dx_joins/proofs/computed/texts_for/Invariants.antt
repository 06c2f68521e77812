use Rattle.std.proofs.Common.{◌≡◌, take}
use Rattle.std.specs.Prelude.{map}
use Rattle.dx_model.specs.Rules.{text_of}
use Rattle.dx_joins.specs.Shown.{texts_of}
use Rattle.dx_joins.proofs.computed.texts_for.Given as goal

abbrev pub invariant-loop-x : goal.invariant-loop-x
invariant-loop-x l = l.texts ≡ map (text_of l.names (texts_of l.symbols l.row)) (take l.x-index l.variables)

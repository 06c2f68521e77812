use Rattle.std.proofs.Common.{take}
use Rattle.dx_model.specs.Rules.{cells_of}
use Rattle.dx_holds.proofs.Least.{least_atom, least_none, least_whole}
use Rattle.dx_holds.proofs.texts.least_variable.Goals as goal

pub loop-atom-init : goal.loop-atom-init
loop-atom-init c = least_none c.args.from

pub loop-atom-preserved : goal.loop-atom-preserved
loop-atom-preserved c =
    least_atom c.args.atoms.now c.loop-atom.atom-index c.args.from c.atom-item.result c.items.result.now _ c.loop-atom-test.true c.atom-item.is c.items.ensures
    (c.least_with-least.ensures (cells_of (take c.loop-atom.atom-index c.args.atoms.now)) c.loop-atom.invariant)

pub returns : goal.returns
returns c = least_whole c.args.atoms.now c.loop-atom.atom-index c.args.from c.loop-atom.least c.loop-atom-test.false c.loop-atom.invariant

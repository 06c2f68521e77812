use Rattle.std.proofs.Common.{◌<◌, arith, length}
use Rattle.dx_base.proofs.Loops.{each_more}
use Rattle.dx_solver.specs.Domains.{IsBound}
use Rattle.dx_solver.proofs.choosing.first_choice.Goals as goal

pub loop-atom-preserved : goal.loop-atom-preserved
loop-atom-preserved c =
    let atoms = c.args.atoms.now in
    let i = c.loop-atom.atom in
    let h : i < length atoms = omega arith in
    each_more (IsBound c.args.domains.now) atoms i c.index-atoms-atom.result h c.index-atoms-atom.is c.loop-atom.invariant
    (rw c.in_default.is at c.choose_in.ensures)

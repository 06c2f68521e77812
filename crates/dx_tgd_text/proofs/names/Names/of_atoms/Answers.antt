use Rattle.std.specs.Prelude.{length}
use Rattle.dx_tgd_text.specs.Numbering.{unknown_names, text_cells}
use Rattle.dx_tgd_text.proofs.Appearing.{atom_step}
use Rattle.dx_tgd_text.proofs.names.Names.of_atoms.Goals as goal

pub loop-atom-preserved : goal.loop-atom-preserved
loop-atom-preserved c =
    atom_step c.args.known.now c.loop-atom.names c.enter_new.new.self (unknown_names c.args.known.now c.args.atoms.now) c.args.atoms.now c.loop-atom.atom-index (length (text_cells c.args.atoms.now)) c.atom-item.result
    c.loop-atom-test.true c.atom-item.is (rw c.items.ensures at c.in_ok-enter_new.ensures) c.loop-atom.invariant.0 c.loop-atom.invariant.1

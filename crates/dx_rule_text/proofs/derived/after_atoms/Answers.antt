use Rattle.dx_model.proofs.Cells.{greatest_of_three, one_atom}
use Rattle.dx_rule_text.proofs.derived.after_atoms.Goals as goal

pub loop-atom-preserved : goal.loop-atom-preserved
loop-atom-preserved c = (
  greatest_of_three c.loop-atom.next _ _ _ _ _ c.loop-atom.invariant.0 (one_atom c.args.atoms.now c.loop-atom.atom-index c.atom-item.result c.items.result.now c.loop-atom-test.true c.atom-item.is c.items.ensures) c.after_cells-next.ensures.number,
  c.after_cells-next.ensures.low,
)

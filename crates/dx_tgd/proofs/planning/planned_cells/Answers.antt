use Rattle.dx_instance.proofs.ShownFacts.{extends_both}
use Rattle.dx_tgd.proofs.Saying.{var_there}
use Rattle.dx_tgd.proofs.Plans.{plans_more}
use Rattle.dx_tgd.proofs.planning.planned_cells.Goals as goal

pub planned_cell-requires : goal.planned_cell-requires
planned_cell-requires c = record {
  listed = λ x e. c.requires.listed x (var_there c.args.cells.now c.loop-cell.cell-index c.cell-item.result x c.loop-cell-test.true c.cell-item.is e);
}

pub loop-cell-preserved : goal.loop-cell-preserved
loop-cell-preserved c = record {
  planned = rw c.in_ok-push.ensures.items (plans_more c.loop-cell.symbols c.planned_cell.new.symbols c.args.at.now.rule c.args.at.now.variables.now c.args.at.now.places c.loop-cell.planned.items c.args.cells.now c.loop-cell.cell-index c.in_ok-planned_cell.field-0 c.cell-item.result
      c.loop-cell-test.true c.cell-item.is c.planned_cell.ensures.grows c.loop-cell.invariant.planned c.in_ok-planned_cell.ensures.planned);
  grows = extends_both c.args.symbols.now c.loop-cell.symbols c.planned_cell.new.symbols c.loop-cell.invariant.grows c.planned_cell.ensures.grows;
}

use Rattle.std.proofs.Common.{refl, subst, List}
use Rattle.std.specs.List.{AllZip}
use Rattle.dx_instance.proofs.ShownFacts.{extends_both}
use Rattle.dx_model.specs.declared.rules.Cell.{Cell}
use Rattle.dx_model.specs.declared.rules.Cell.TheVariants.{Var}
use Rattle.dx_base.specs.Members.{◌∈◌}
use Rattle.dx_base.proofs.Members.{item_in}
use Rattle.dx_tgd.specs.Planned.{IsCellPlan}
use Rattle.dx_tgd.proofs.Plans.{atoms_more}
use Rattle.dx_tgd.proofs.planning.planned_atoms.Goals as goal

pub planned_cells-requires : goal.planned_cells-requires
planned_cells-requires c = record {
  listed = λ x k. c.requires.listed c.atom-item.result (item_in c.args.atoms.now c.loop-atom.atom-index c.atom-item.result c.loop-atom-test.true c.atom-item.is) x
      (subst (λ (z : List Cell). Var x ∈ z) c.items.ensures k);
}

pub loop-atom-preserved : goal.loop-atom-preserved
loop-atom-preserved c = record {
  planned = rw c.in_ok-push.ensures.items (atoms_more c.loop-atom.symbols c.planned_cells.new.symbols c.args.at.now.rule c.args.at.now.variables.now c.args.at.now.places c.loop-atom.planned.items c.args.atoms.now c.loop-atom.atom-index _ c.atom-item.result
      c.loop-atom-test.true c.atom-item.is c.planned_cells.ensures.grows c.loop-atom.invariant.planned
      (record { table = refl; cells = subst (λ (z : List Cell). AllZip (IsCellPlan c.planned_cells.new.symbols c.args.at.now.rule c.args.at.now.variables.now c.args.at.now.places) c.in_ok-cells.cells.items z) c.items.ensures c.in_ok-cells.ensures.planned }));
  grows = extends_both c.args.symbols.now c.loop-atom.symbols c.planned_cells.new.symbols c.loop-atom.invariant.grows c.planned_cells.ensures.grows;
}

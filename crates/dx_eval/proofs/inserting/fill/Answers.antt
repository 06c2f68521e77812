use Rattle.std.proofs.Common.{◌∙◌, length}
use Rattle.dx_base.proofs.Loops.{each_item}
use Rattle.dx_instance.proofs.ShownFacts.{extends_both}
use Rattle.dx_joins.proofs.Growing.{texts_grow}
use Rattle.dx_eval.specs.Inserting.{OutStands}
use Rattle.dx_eval.proofs.Inserts.{filled_more}
use Rattle.dx_eval.proofs.inserting.fill.Goals as goal

pub number_of-requires-clause-stands : goal.number_of-requires-clause-stands
number_of-requires-clause-stands c = each_item (OutStands (length c.args.at.now.row.now)) c.args.cells.now c.loop-cell.cell-index c.cell-item.result c.loop-cell-test.true c.cell-item.is c.requires.stand

pub number_of-requires-clause-texts : goal.number_of-requires-clause-texts
number_of-requires-clause-texts c = texts_grow c.args.target.now.symbols c.loop-cell.target.symbols c.args.at.now.row.now c.loop-cell.invariant.grows c.requires.texts

pub loop-cell-preserved : goal.loop-cell-preserved
loop-cell-preserved c =
    let m = filled_more c.args.target.now.symbols c.loop-cell.target.symbols c.number_of.new.target.symbols c.args.at.now.row.now c.loop-cell.buffer.items c.push.new.self.items c.args.at.now.rule c.args.at.now.place c.args.cells.now c.loop-cell.cell-index
    c.in_ok-number_of.field-0 c.cell-item.result c.loop-cell-test.true c.cell-item.is c.loop-cell.invariant.grows c.in_ok-number_of.ensures.grows c.requires.texts c.loop-cell.invariant.below c.loop-cell.invariant.shown
    c.in_ok-number_of.ensures.number c.in_ok-push.ensures.items in
    record {
      below = m.0;
      shown = m.1;
      grows = extends_both c.args.target.now.symbols c.loop-cell.target.symbols c.number_of.new.target.symbols c.loop-cell.invariant.grows c.in_ok-number_of.ensures.grows;
      same = c.in_ok-number_of.ensures.same ∙ c.loop-cell.invariant.same;
    }

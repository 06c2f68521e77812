use Rattle.std.proofs.Common.{◌≡◌, length, take}
use Rattle.std.specs.Prelude.{map}
use Rattle.dx_instance.specs.Numbers.{Extends}
use Rattle.dx_instance.specs.Shown.{NumbersBelow, shown_row}
use Rattle.dx_joins.specs.Shown.{texts_of}
use Rattle.dx_script.specs.Meaning.{inserted}
use Rattle.dx_tgd.specs.Planned.{built}
use Rattle.dx_eval.proofs.inserting.fill.Given as goal

abbrev pub invariant-loop-cell : goal.invariant-loop-cell
invariant-loop-cell l = record {
  below : NumbersBelow (length l.target.symbols) l.buffer.items;
  shown : shown_row l.target.symbols l.buffer.items ≡ map (inserted l.at.rule l.at.place (texts_of l.fn.target.symbols l.at.row.now)) (take l.cell-index l.cells);
  grows : Extends l.fn.target.symbols l.target.symbols;
  same : built l.target ≡ built l.fn.target;
}

use Rattle.std.proofs.Common.{arith}
use Rattle.dx_base.proofs.Members.{item_in}
use Rattle.dx_used.specs.Used.{AsksOfValue}
use Rattle.dx_used.proofs.MarkFacts.{all_idle, asks_in, idle_item, keep_set, keep_trans, mark_none, mark_one, new_one, new_none, not_there}
use Rattle.dx_used.proofs.marking.mark_cells.Goals.{then-column-marks+then-not-is_idle, else-column-marks, else-column-marks-via-then-column-marks+else-not-is_idle, else-column-marks-via-else-column-marks}
use Rattle.dx_used.proofs.marking.mark_cells.Goals as goal

pub loop-column-init : goal.loop-column-init
loop-column-init c = record {
  marked = λ d h i b e. absurd (omega (arith, b));
  asks = λ d h p. new_none (AsksOfValue d c.args.cells.now) c.args.marks.now;
  keep = λ i e. e;
}

pub loop-column-preserved : goal.loop-column-preserved
loop-column-preserved c = elim c.if-column-marks.branch [
  | then-column-marks+then-not-is_idle w ↦ rw w.marks-is record {
    marked = λ d h. mark_one d c.args.cells.now c.loop-column.marks c.loop-column.column (omega (arith, w.if-column-marks.true)) (c.loop-column.invariant.marked d h);
    asks = λ d h p. new_one (AsksOfValue d c.args.cells.now) c.args.marks.now c.loop-column.marks c.loop-column.column
        (asks_in d c.args.cells.now c.loop-column.column w.index-cells-column.result c.loop-column-test.true w.index-cells-column.is
        (w.if-not-is_idle.ensures.asks d h (p _ (item_in c.args.cells.now c.loop-column.column w.index-cells-column.result c.loop-column-test.true w.index-cells-column.is))))
        (c.loop-column.invariant.asks d h p);
    keep = keep_trans c.args.marks.now c.loop-column.marks _ c.loop-column.invariant.keep (keep_set c.loop-column.marks c.loop-column.column (omega (arith, w.if-column-marks.true)));
  }
  | else-column-marks w ↦ elim w.else-column-marks.branch [
    | else-column-marks-via-then-column-marks+else-not-is_idle v ↦ rw w.marks-is record {
      marked = λ d h. mark_none d c.args.cells.now c.loop-column.marks c.loop-column.column (λ e. idle_item d c.args.cells.now c.loop-column.column v.index-cells-column.result c.loop-column-test.true v.index-cells-column.is (v.if-not-is_idle.ensures.idle d h)) (c.loop-column.invariant.marked d h);
      asks = c.loop-column.invariant.asks;
      keep = c.loop-column.invariant.keep;
    }
    | else-column-marks-via-else-column-marks v ↦ rw w.marks-is record {
      marked = λ d h. mark_none d c.args.cells.now c.loop-column.marks c.loop-column.column (not_there d _ c.loop-column.marks c.loop-column.column (omega (arith, v.if-column-marks.false))) (c.loop-column.invariant.marked d h);
      asks = c.loop-column.invariant.asks;
      keep = c.loop-column.invariant.keep;
    }
  ]
]

pub returns-clause-idle : goal.returns-clause-idle
returns-clause-idle c = λ d h. all_idle d c.loop-column.marks c.args.cells.now c.loop-column.column c.loop-column-test.false (c.loop-column.invariant.marked d h)

pub returns-clause-asks : goal.returns-clause-asks
returns-clause-asks c = c.loop-column.invariant.asks

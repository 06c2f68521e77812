use Rattle.dx_used.specs.Used.{IsUsedBy}
use Rattle.dx_used.proofs.MarkFacts.{atom_more, idle_lent, keep_trans, new_by_atom, new_none, new_trans, no_change}
use Rattle.dx_used.proofs.marking.mark_rule.Goals.{then-atom-table, else-atom-table}
use Rattle.dx_used.proofs.marking.mark_rule.Goals as goal

pub loop-atom-init : goal.loop-atom-init
loop-atom-init c = record {
  only = λ a m. elim m [ ];
  used = λ r. new_none (IsUsedBy c.args.rule.now c.args.table) c.args.marks.now;
  keep = no_change c.args.marks.now;
}

pub loop-atom-preserved : goal.loop-atom-preserved
loop-atom-preserved c = elim c.if-atom-table.branch [
  | then-atom-table w ↦ rw w.marks-is record {
    only =
        atom_more c.args.table c.args.rule.now c.items-atom-items.result.now c.loop-atom.marks w.mark_cells.new.marks c.loop-atom.atom-index c.atom-item.result
        c.items-atom-items.ensures c.loop-atom-test.true c.atom-item.is c.loop-atom.invariant.only w.mark_cells.ensures.keep
        (λ e. idle_lent c.args.rule.now w.mark_cells.new.marks c.in_ok-counts.counts.items w.deref.result.now c.atom-item.result.cells w.items.result.now
        w.deref.ensures.value w.items.ensures c.in_ok-counts.ensures.counts w.mark_cells.ensures.idle);
    used = λ r. new_trans (IsUsedBy c.args.rule.now c.args.table) c.args.marks.now c.loop-atom.marks w.mark_cells.new.marks (c.loop-atom.invariant.used r)
        (new_by_atom c.args.rule.now c.args.table c.items-atom-items.result.now c.loop-atom.atom-index c.atom-item.result c.in_ok-counts.counts.items w.deref.result.now w.items.result.now
        c.loop-atom.marks w.mark_cells.new.marks c.items-atom-items.ensures c.loop-atom-test.true c.atom-item.is w.if-atom-table.true
        w.deref.ensures.value w.items.ensures c.in_ok-counts.ensures.counts c.in_ok-counts.ensures.places r w.mark_cells.ensures.asks);
    keep = keep_trans c.args.marks.now c.loop-atom.marks w.mark_cells.new.marks c.loop-atom.invariant.keep w.mark_cells.ensures.keep;
  }
  | else-atom-table w ↦ rw w.marks-is record {
    only =
        atom_more c.args.table c.args.rule.now c.items-atom-items.result.now c.loop-atom.marks c.loop-atom.marks c.loop-atom.atom-index c.atom-item.result
        c.items-atom-items.ensures c.loop-atom-test.true c.atom-item.is c.loop-atom.invariant.only (no_change c.loop-atom.marks)
        (λ e. absurd (w.if-atom-table.false e));
    used = c.loop-atom.invariant.used;
    keep = c.loop-atom.invariant.keep;
  }
]

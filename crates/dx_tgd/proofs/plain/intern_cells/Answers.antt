use Rattle.dx_instance.proofs.ShownFacts.{extends_both}
use Rattle.dx_tgd.proofs.plain.intern_cells.Goals.{in-Lit+in_ok-copy+in_ok-intern, in_default}
use Rattle.dx_tgd.proofs.plain.intern_cells.Goals as goal

pub loop-cell-preserved : goal.loop-cell-preserved
loop-cell-preserved c = elim c.match-cell.branch [
  | in-Lit+in_ok-copy+in_ok-intern w ↦ rw w.symbols-is (record {
    grows = extends_both c.args.symbols.now c.loop-cell.symbols w.intern.new.self c.loop-cell.invariant.grows w.intern.ensures.grows;
    apart = w.intern.ensures.apart;
  })
  | in_default w ↦ rw w.symbols-is (record { grows = c.loop-cell.invariant.grows; apart = c.loop-cell.invariant.apart })
]

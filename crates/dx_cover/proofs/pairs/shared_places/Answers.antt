use Rattle.std.proofs.Common.{◌<◌, ap, sym, subst, length, ◌∙◌}
use Rattle.dx_base.specs.Members.{Each}
use Rattle.dx_cover.specs.Pairs.{IsShared}
use Rattle.dx_cover.proofs.Pairing.{each_pushed, same_at}
use Rattle.dx_cover.proofs.pairs.shared_places.Goals as goal
use Rattle.dx_cover.proofs.pairs.shared_places.Goals.{then-is_same_cell+then-not-has_met+in_ok-push, else-is_same_cell}

pub loop-its-preserved : goal.loop-its-preserved
loop-its-preserved c =
    let atom = c.args.atom.now in
    let next = c.args.next.now in
    elim c.if-is_same_cell.branch [
      | then-is_same_cell+then-not-has_met+in_ok-push w ↦
          each_pushed (IsShared atom next) c.loop-its.places.items _ _ (ap (λ (v : _). v.items) w.places-is ∙ w.in_ok-push.ensures.items) c.loop-its.invariant
          (same_at atom next c.loop-own.own c.loop-its.its c.index-own_cells-own.result c.index-its_cells-its.result
          (subst (λ z. c.loop-own.own < length z) c.items-own_cells.ensures c.loop-own-test.true)
          (subst (λ z. c.loop-its.its < length z) c.items-its_cells.ensures c.loop-its-test.true)
          (rw c.items-own_cells.ensures at c.index-own_cells-own.is)
          (rw c.items-its_cells.ensures at c.index-its_cells-its.is)
          (sym c.is_same_cell.ensures ∙ w.if-is_same_cell.true))
      | else-is_same_cell w ↦ subst (λ v. Each v.items (IsShared atom next)) (sym w.places-is) c.loop-its.invariant
    ]

use Rattle.std.proofs.Common.{◌<◌, ap, ◌∙◌, sym, subst, length}
use Rattle.dx_base.specs.Members.{Each}
use Rattle.dx_cover.proofs.Pairing.{each_pushed}
use Rattle.dx_cover.proofs.pairs.met_places.Goals as goal
use Rattle.dx_cover.proofs.pairs.met_places.Goals.{then-has_met+in_ok-push, else-has_met}

pub loop-place-preserved : goal.loop-place-preserved
loop-place-preserved c = elim c.if-has_met.branch [
  | then-has_met+in_ok-push w ↦
      each_pushed (λ p. p < length c.args.atom.now.cells) c.loop-place.places.items _ _ (ap (λ (v : _). v.items) w.places-is ∙ w.in_ok-push.ensures.items) c.loop-place.invariant
      (subst (λ z. c.loop-place.place < length z) c.items-cells.ensures c.loop-place-test.true)
  | else-has_met w ↦ subst (λ v. Each v.items (λ p. p < length c.args.atom.now.cells)) (sym w.places-is) c.loop-place.invariant
]

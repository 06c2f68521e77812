use Rattle.std.proofs.Common.{◌∙◌, ap, ◌++◌, ◌∷◌, []}
use Rattle.std.specs.Prelude.{map}
use Rattle.dx_base.proofs.Members.{in_at}
use Rattle.dx_model.specs.Covers.{used_maps}
use Rattle.dx_cover.proofs.Covering.{is_square, one_more, two_agree}
use Rattle.dx_cover.proofs.covers.Covers.compute.Goals as goal

pub maps_from-requires-clause-rule : goal.maps_from-requires-clause-rule
maps_from-requires-clause-rule c = c.requires.rules c.i-item.result (rw c.i-item.is (in_at c.args.rules.now c.loop-i.i-index c.i-item.result c.loop-i-test.true))

pub maps_from-requires-clause-widths : goal.maps_from-requires-clause-widths
maps_from-requires-clause-widths c = λ j m.
    two_agree c.args.rules.now c.i-item.result j c.requires.widths (rw c.i-item.is (in_at c.args.rules.now c.loop-i.i-index c.i-item.result c.loop-i-test.true)) m

pub loop-i-preserved : goal.loop-i-preserved
loop-i-preserved c =
    one_more (λ i. map (λ j. used_maps i j) c.args.rules.now) c.args.rules.now c.loop-i.i-index c.i-item.result c.loop-i.maps c.push.new.self c.loop-i-test.true c.i-item.is c.loop-i.invariant
    (c.in_ok-push.ensures.ok ∙ ap (λ z. c.loop-i.maps ++ z ∷ []) c.in_ok-maps_from.ensures)

pub invariant_of-result : goal.invariant_of-result
invariant_of-result c = is_square c.args.rules.now c.loop-i.i-index c.loop-i.maps c.loop-i-test.false c.loop-i.invariant

use Rattle.std.proofs.Common.{◌<◌, ◌∙◌, ◌++◌, ◌∷◌, [], ap, length, get_or}
use Rattle.std.specs.Prelude.{map, slice_index_or}
use Rattle.std.proofs.lemmas.List.{take_all, get_or_default}
use Rattle.dx_base.proofs.Members.{in_at}
use Rattle.dx_cover.proofs.Covering.{one_more}
use Rattle.dx_scriptgen.proofs.copies.cells_at.Goals as goal

pub bounds-cells-place : goal.bounds-cells-place
bounds-cells-place c = c.requires (get_or c.args.places.now c.loop-place.place-index 0) (in_at c.args.places.now c.loop-place.place-index 0 c.loop-place-test.true)

pub loop-place-preserved : goal.loop-place-preserved
loop-place-preserved c = λ none.
    let p = get_or c.args.places.now c.loop-place.place-index 0 in
    let within : p < length c.args.cells.now = c.requires p (in_at c.args.places.now c.loop-place.place-index 0 c.loop-place-test.true) in
    one_more (λ q. slice_index_or c.args.cells.now q none) c.args.places.now c.loop-place.place-index p c.loop-place.found c.push.new.self c.loop-place-test.true
    (get_or_default c.args.places.now c.loop-place.place-index 0 p c.loop-place-test.true) (c.loop-place.invariant none)
    (c.in_ok-push.ensures.ok ∙ ap (λ z. c.loop-place.found ++ z ∷ []) (c.in_ok-copy_cell.ensures ∙ (c.index-cells-place.is ∙ get_or_default c.args.cells.now p c.index-cells-place.result none within)))

pub returns : goal.returns
returns c = λ none. c.loop-place.invariant none ∙ ap (map (λ q. slice_index_or c.args.cells.now q none)) (take_all c.loop-place.place-index c.args.places.now c.loop-place-test.false)

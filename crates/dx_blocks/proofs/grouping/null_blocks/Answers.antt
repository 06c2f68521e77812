use Rattle.std.proofs.Common.{◌≡◌, ◌<◌, ◌++◌, ◌∷◌, [], ◌∙◌, ap, arith, length, get_or}
use Rattle.std.proofs.lemmas.List.{get_or_read}
use Rattle.dx_blocks.specs.declared.block.Block.{Block}
use Rattle.dx_model.specs.Values.{null_at}
use Rattle.dx_blocks.specs.Labels.{block_at}
use Rattle.dx_blocks.proofs.Filling.{null_filled}
use Rattle.dx_blocks.proofs.grouping.null_blocks.Goals as goal

pub loop-i-preserved : goal.loop-i-preserved
loop-i-preserved c =
    let l = get_or c.args.labels.now c.loop-i.i 0 in
    let b = c.index_mut.result.now in
    let inside : l < length c.loop-i.blocks.items =
    (let m = c.loop-i.invariant.many in let t = c.loop-i-test.true in let w = c.requires.labels.least c.loop-i.i t in omega arith) in
    let is : b ≡ block_at c.loop-i.blocks.items l =
    get_or_read c.loop-i.blocks.items l b inside c.index_mut.ensures.value (record { nulls = []; facts = [] }) in
    null_filled c.args.facts.now c.args.nulls.now c.args.labels.now c.loop-i.blocks.items c.loop-i.i
    (record { nulls = c.push.new.self; facts = b.facts }) c.requires.nulls c.requires.labels c.loop-i-test.true c.loop-i.invariant
    (c.in_ok-push.ensures.ok ∙ ap (λ (z : Block). z.nulls ++ null_at c.args.nulls.now c.loop-i.i ∷ []) is) (ap (λ (z : Block). z.facts) is)

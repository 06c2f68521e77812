use Rattle.std.proofs.Common.{◌≡◌, ◌∙◌, ◌<◌, length, arith}
use Rattle.dx_chase.specs.Joins.{nth}
use Rattle.dx_keys.proofs.RootMaps.{map_kept, map_none, map_set, map_whole}
use Rattle.dx_keys.proofs.reading.read_map.Goals as goal

pub loop-number-init : goal.loop-number-init
loop-number-init c = map_none c.args.symbols.now c.args.roots.now c.new-map.result c.new-map.ensures

pub loop-number-preserved : goal.loop-number-preserved
loop-number-preserved c =
    let h : c.loop-number.number < length c.args.symbols.now = omega (arith, c.loop-number-test.true, c.len-count.ensures.len) in
    let r : ¬ (nth c.args.roots.now c.loop-number.number ≡ c.loop-number.number) = λ q. omega (arith, c.if-root-number.false, q) in
    map_set c.args.symbols.now c.args.roots.now c.requires.ascend c.requires.roots c.loop-number.number c.loop-number.map c.set.new.self c.null_at.result
    c.in_ok-value.value h r c.null_at.ensures (c.in_ok-value.ensures ∙ c.value.ensures) c.in_ok-set.ensures.ok c.loop-number.invariant

pub loop-number-preserved-then-root-number : goal.loop-number-preserved-then-root-number
loop-number-preserved-then-root-number c =
    let h : c.loop-number.number < length c.args.symbols.now = omega (arith, c.loop-number-test.true, c.len-count.ensures.len) in
    let r : nth c.args.roots.now c.loop-number.number ≡ c.loop-number.number = omega (arith, c.if-root-number.true) in
    map_kept c.args.symbols.now c.args.roots.now c.loop-number.number c.loop-number.map h r c.loop-number.invariant

pub returns : goal.returns
returns c = map_whole c.args.symbols.now c.args.roots.now c.loop-number.number c.loop-number.map (omega (arith, c.loop-number-test.false, c.len-count.ensures.len)) c.loop-number.invariant

use Rattle.std.proofs.Common.{◌≡◌, ◌+◌, List, ap, arith, length}
use Rattle.dx_model.specs.declared.rules.Atom.{Atom}
use Rattle.dx_model.specs.Rules.{cells_of}
use Rattle.dx_implies.proofs.Bounds.{cells_longer, cells_whole}
use Rattle.dx_implies.proofs.bounding.conclusion_cells.Goals as goal

pub overflow_add-count : goal.overflow_add-count
overflow_add-count c =
    let more = cells_longer c.items-atom-items.result.now c.loop-atom.atom-index c.atom-item.result c.loop-atom-test.true c.atom-item.is in
    let few = cells_whole c.items-atom-items.result.now (c.loop-atom.atom-index + 1) in
    let e : length (cells_of c.items-atom-items.result.now) ≡ length (cells_of c.args.rule.now.conclusion) = ap (λ (z : List Atom). length (cells_of z)) c.items-atom-items.ensures in
    omega (arith, more, few, e, c.requires, c.len-count.ensures, c.loop-atom.invariant)

use Rattle.std.proofs.Common.{◌<◌, arith, length}
use Rattle.dx_base.proofs.Loops.{all_so, each_item, each_more, not_so}
use Rattle.dx_base.proofs.Members.{item_in}
use Rattle.dx_solver.specs.Questions.{HasImageRow, answered}
use Rattle.dx_solver.proofs.judging.all_stand.Goals as goal

pub stands-requires-clause-table : goal.stands-requires-clause-table
stands-requires-clause-table c =
    let atoms = c.args.question.now.atoms.now in
    let i = c.loop-atom.atom-index in
    (c.requires c.atom-item.result (item_in atoms i c.atom-item.result (omega arith) c.atom-item.is)).table

pub stands-requires-clause-width : goal.stands-requires-clause-width
stands-requires-clause-width c =
    let atoms = c.args.question.now.atoms.now in
    let i = c.loop-atom.atom-index in
    (c.requires c.atom-item.result (item_in atoms i c.atom-item.result (omega arith) c.atom-item.is)).width

pub returns-then-not-is_there : goal.returns-then-not-is_there
returns-then-not-is_there c =
    let atoms = c.args.question.now.atoms.now in
    let P = HasImageRow c.args.question.now.numbers.now.tables c.args.question.now.taken.now (answered c.args.xs.now) in
    let h : c.loop-atom.atom-index < length atoms = omega arith in
    not_so c.if-not-is_there.true c.in_ok-is_there.ensures (each_item P atoms c.loop-atom.atom-index c.atom-item.result h c.atom-item.is)

pub loop-atom-preserved : goal.loop-atom-preserved
loop-atom-preserved c =
    let atoms = c.args.question.now.atoms.now in
    let P = HasImageRow c.args.question.now.numbers.now.tables c.args.question.now.taken.now (answered c.args.xs.now) in
    let h : c.loop-atom.atom-index < length atoms = omega arith in
    each_more P atoms c.loop-atom.atom-index c.atom-item.result h c.atom-item.is c.loop-atom.invariant
    (c.in_ok-is_there.ensures.0 c.if-not-is_there.false)

pub returns : goal.returns
returns c =
    let atoms = c.args.question.now.atoms.now in
    let P = HasImageRow c.args.question.now.numbers.now.tables c.args.question.now.taken.now (answered c.args.xs.now) in
    all_so P atoms c.loop-atom.atom-index (omega arith) c.loop-atom.invariant (λ e. e)

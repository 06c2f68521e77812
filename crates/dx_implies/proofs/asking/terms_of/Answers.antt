use Rattle.dx_base.proofs.Members.{item_in}
use Rattle.dx_base.proofs.Options.{some_left, none_left}
use Rattle.dx_implies.proofs.Asked.{zip_more}
use Rattle.dx_model.specs.Following.{frozen_text}
use Rattle.dx_implies.specs.Asking.{SaysCell}
use Rattle.dx_implies.proofs.asking.terms_of.Goals as goal

pub returns-in_default : goal.returns-in_default
returns-in_default c =
    (c.cell-item.result, item_in c.args.cells.now c.loop-cell.cell-index c.cell-item.result c.loop-cell-test.true c.cell-item.is, none_left _ _ c.in_ok-term.field-0 c.in_ok-term.ensures c.in_default.not-Some)

pub loop-cell-preserved : goal.loop-cell-preserved
loop-cell-preserved c =
    rw c.in_ok-push.ensures.ok
    (zip_more (SaysCell c.args.numbers.now.symbols (frozen_text c.args.prefix.now)) c.args.cells.now c.loop-cell.terms c.loop-cell.cell-index c.cell-item.result c.in-Some.term c.loop-cell-test.true c.cell-item.is
    c.loop-cell.invariant (some_left _ _ c.in_ok-term.field-0 c.in-Some.term c.in-Some.is c.in_ok-term.ensures))

use Rattle.std.proofs.lemmas.Result.{err_from_is_err_and}
use Rattle.dx_base.proofs.Loops.{each_item}
use Rattle.dx_tgd_text.proofs.RuleSteps.{loop_more}
use Rattle.dx_query_text.specs.Naming.{PartHasFewCells, part_fault, part_of_text}
use Rattle.dx_query_text.proofs.Steps.{part_at_fault}
use Rattle.dx_query_text.proofs.naming.named_query.Goals as goal

pub read_part-requires : goal.read_part-requires
read_part-requires c = each_item PartHasFewCells c.args.parts.now c.loop-part.part-index c.part-item.result c.loop-part-test.true c.part-item.is c.requires

pub returns-in_err-read_part : goal.returns-in_err-read_part
returns-in_err-read_part c =
    let p = err_from_is_err_and c.from_residual.result c.from_residual.ensures.1 in
    rw (p.1, p.2) (part_at_fault c.args.target.now c.width-width.result c.args.parts.now c.loop-part.part-index c.part-item.result _ c.width-width.ensures c.loop-part-test.true c.part-item.is c.loop-part.invariant.1 c.in_err-read_part.ensures)

pub loop-part-preserved : goal.loop-part-preserved
loop-part-preserved c =
    loop_more (part_of_text c.args.target.now) (part_fault c.args.target.now c.width-width.result) c.args.parts.now c.loop-part.part-index c.part-item.result c.loop-part.read c.push.new.self _ c.loop-part-test.true c.part-item.is c.loop-part.invariant c.in_ok-read_part.ensures c.in_ok-push.ensures.ok

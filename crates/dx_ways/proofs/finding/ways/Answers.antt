use Rattle.std.proofs.Common.{◌∙◌}
use Rattle.std.proofs.lemmas.Result.{err_from_is_err_and}
use Rattle.dx_ways.proofs.Tries.{line_many, line_step, lines_done, still_ascends, ways_found}
use Rattle.dx_ways.proofs.finding.ways.Goals as goal

pub returns-in_err-add_line-clause-many : goal.returns-in_err-add_line-clause-many
returns-in_err-add_line-clause-many c =
    let p = err_from_is_err_and c.from_residual.result c.from_residual.ensures.1 in
    rw (p.1, p.2) (λ e.
    line_many c.args.from.now c.args.to.now c.args.lines.now c.loop-line.line-index c.line-item.result c.loop-line.found.items c.loop-line-test.true c.line-item.is c.loop-line.invariant.same (c.in_err-add_line.ensures.many e))

pub loop-line-preserved : goal.loop-line-preserved
loop-line-preserved c = record {
  same = line_step c.args.from.now c.args.to.now c.args.lines.now c.loop-line.line-index c.line-item.result c.loop-line.found.items c.add_line.new.found.items _ c.loop-line-test.true c.line-item.is c.in_ok-add_line.ensures.all c.loop-line.invariant.same;
  ascends = still_ascends c.args.from.now c.args.to.now c.line-item.result c.loop-line.found.items c.add_line.new.found.items c.loop-line.invariant.ascends c.in_ok-add_line.ensures.all;
  few = c.in_ok-add_line.ensures.few;
}

pub returns-clause-ways : goal.returns-clause-ways
returns-clause-ways c =
    lines_done c.args.from.now c.args.to.now c.args.lines.now c.loop-line.line-index c.loop-line.found.items _ c.loop-line-test.false c.loop-line.invariant.same ∙ ways_found c.args.from.now c.args.to.now c.args.lines.now

use Rattle.std.proofs.Common.{arith, ap, length}
use Rattle.dx_script.specs.Fits.{width_in}
use Rattle.dx_script.proofs.Widths.{none_found, none_passed, one_found, one_passed}
use Rattle.dx_script.proofs.before.match_width.Goals as goal
use Rattle.dx_script.proofs.before.match_width.Goals.{in-MatchRows+else-count-from, in_default}

pub returns-then-count-from : goal.returns-then-count-from
returns-then-count-from c =
    let w = one_found c.loop-step.count c.loop-step.step-index c.args.rule (length c.in-MatchRows.select) c.args.steps.now c.step-item.result c.loop-step-test.true c.step-item.is
    (ap width_in c.in-MatchRows.is) (omega (arith, c.if-count-from.true, c.from.ensures)) c.loop-step.invariant in
    rw (← c.len.ensures) at w

pub loop-step-preserved : goal.loop-step-preserved
loop-step-preserved c = elim c.match-step.branch [
  | in-MatchRows+else-count-from w ↦
      rw w.count-is (one_passed c.loop-step.count c.loop-step.step-index c.args.rule (length w.in-MatchRows.select) c.args.steps.now c.step-item.result c.loop-step-test.true c.step-item.is
      (ap width_in w.in-MatchRows.is) (λ e. omega (arith, w.if-count-from.false, w.from.ensures, e)) c.loop-step.invariant)
  | in_default w ↦
      rw w.count-is (none_passed c.loop-step.count c.loop-step.step-index c.args.rule c.args.steps.now c.step-item.result c.loop-step-test.true c.step-item.is w.in_default.not-MatchRows c.loop-step.invariant)
]

pub returns : goal.returns
returns c = none_found c.loop-step.count c.loop-step.step-index c.args.rule c.args.steps.now c.loop-step-test.false c.loop-step.invariant

use Rattle.std.proofs.Common.{◌<◌, ℕ, arith, get_or}
use Rattle.std.proofs.lemmas.List.{get_or_default}
use Rattle.dx_base.proofs.Loops.{each_more}
use Rattle.dx_base.proofs.Members.{each_all}
use Rattle.dx_joins.proofs.known.above.Goals as goal

pub loop-variable-preserved : goal.loop-variable-preserved
loop-variable-preserved c =
    let x = get_or c.args.variables.now c.loop-variable.variable-index 0 in
    record {
      least = omega (arith, c.loop-variable.invariant.least, c.greater-above.ensures.first);
      above = each_more (λ (z : ℕ). z < c.greater-above.result) c.args.variables.now c.loop-variable.variable-index x c.loop-variable-test.true
          (get_or_default c.args.variables.now c.loop-variable.variable-index 0 x c.loop-variable-test.true)
          (λ z m. let h = c.loop-variable.invariant.above z m in omega (arith, h, c.greater-above.ensures.first)) (omega (arith, c.greater-above.ensures.second));
    }

pub returns-clause-above : goal.returns-clause-above
returns-clause-above c = each_all (λ (z : ℕ). z < c.loop-variable.above) c.args.variables.now c.loop-variable.variable-index c.loop-variable-test.false c.loop-variable.invariant.above

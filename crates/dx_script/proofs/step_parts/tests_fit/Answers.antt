use Rattle.std.proofs.Common.{rules, tests}
use Rattle.std.proofs.lemmas.Iterator.{cases_from_all, YieldsList-from_slice}
use Rattle.dx_base.proofs.Asked.{all_tells}
use Rattle.dx_script.specs.Fits.{TestFits}
use Rattle.dx_script.proofs.step_parts.tests_fit.Goals as goal

pub returns : goal.returns
returns c =
    let by_call = cases_from_all _ _ _ (TestFits c.args.before.now c.args.rule c.args.other) (λ x. ¬ (TestFits c.args.before.now c.args.rule c.args.other) x) c.all.ensures.ran (YieldsList-from_slice c.args.tests.now (cc)) (λ x q k. search (rules, tests)) (λ x q k. search (rules, tests)) in
    all_tells (TestFits c.args.before.now c.args.rule c.args.other) (λ x. ¬ (TestFits c.args.before.now c.args.rule c.args.other) x) _ c.args.tests.now (λ x p q. q p) by_call

use Rattle.std.proofs.Common.{rules, tests}
use Rattle.std.proofs.lemmas.Iterator.{cases_from_all, YieldsList-from_slice}
use Rattle.dx_base.proofs.Asked.{all_tells}
use Rattle.dx_script.specs.Fits.{UnlessFits}
use Rattle.dx_script.proofs.step_parts.unless_fit.Goals as goal

pub returns : goal.returns
returns c =
    let by_call = cases_from_all _ _ _ (UnlessFits c.args.before.now c.args.rule) (λ x. ¬ (UnlessFits c.args.before.now c.args.rule) x) c.all.ensures.ran (YieldsList-from_slice c.args.unless.now (cc)) (λ x q k. search (rules, tests)) (λ x q k. search (rules, tests)) in
    all_tells (UnlessFits c.args.before.now c.args.rule) (λ x. ¬ (UnlessFits c.args.before.now c.args.rule) x) _ c.args.unless.now (λ x p q. q p) by_call

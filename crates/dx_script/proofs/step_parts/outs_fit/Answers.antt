use Rattle.std.proofs.Common.{rules, tests}
use Rattle.std.proofs.lemmas.Iterator.{cases_from_all, YieldsList-from_slice}
use Rattle.dx_base.proofs.Asked.{all_tells}
use Rattle.dx_script.specs.Fits.{OutFits}
use Rattle.dx_script.proofs.step_parts.outs_fit.Goals as goal

pub returns : goal.returns
returns c =
    let by_call = cases_from_all _ _ _ (OutFits c.args.before.now c.args.rule) (λ x. ¬ (OutFits c.args.before.now c.args.rule) x) c.all.ensures.ran (YieldsList-from_slice c.args.outs.now (cc)) (λ x q k. search (rules, tests)) (λ x q k. search (rules, tests)) in
    all_tells (OutFits c.args.before.now c.args.rule) (λ x. ¬ (OutFits c.args.before.now c.args.rule) x) _ c.args.outs.now (λ x p q. q p) by_call

use Rattle.std.proofs.Common.{rules, tests}
use Rattle.std.proofs.lemmas.Iterator.{cases_from_all, YieldsList-from_slice}
use Rattle.dx_base.proofs.Asked.{all_tells}
use Rattle.dx_model.specs.Solutions.{AtomFits}
use Rattle.dx_schema.specs.Tables.{model_tables}
use Rattle.dx_closing.proofs.checking.all_fit.Goals as goal

pub returns : goal.returns
returns c =
    let by_call = cases_from_all _ _ _ (AtomFits (model_tables c.args.target.now)) (λ a. ¬ AtomFits (model_tables c.args.target.now) a) c.all.ensures.ran (YieldsList-from_slice c.args.atoms.now (cc)) (λ x q k. search (rules, tests)) (λ x q k. search (rules, tests)) in
    all_tells (AtomFits (model_tables c.args.target.now)) (λ a. ¬ AtomFits (model_tables c.args.target.now) a) _ c.args.atoms.now (λ a p q. q p) by_call

use Rattle.std.proofs.Common.{rules, tests}
use Rattle.std.proofs.lemmas.Iterator.{cases_from_all, YieldsList-from_slice}
use Rattle.dx_base.proofs.Asked.{all_tells}
use Rattle.dx_schema.specs.Names.{table_names_of}
use Rattle.dx_funcs.specs.Serving.{offered}
use Rattle.dx_script.specs.Fits.{SelectFits}
use Rattle.dx_script.proofs.step_parts.selects_fit.Goals as goal

pub returns : goal.returns
returns g c =
    let by_call = cases_from_all _ _ _ (SelectFits (table_names_of c.args.source.now) (offered c.args.host.now) c.args.sources.now) (λ x. ¬ (SelectFits (table_names_of c.args.source.now) (offered c.args.host.now) c.args.sources.now) x) c.all.ensures.ran (YieldsList-from_slice c.args.selects.now (cc)) (λ x q k. search (rules, tests)) (λ x q k. search (rules, tests)) in
    all_tells (SelectFits (table_names_of c.args.source.now) (offered c.args.host.now) c.args.sources.now) (λ x. ¬ (SelectFits (table_names_of c.args.source.now) (offered c.args.host.now) c.args.sources.now) x) _ c.args.selects.now (λ x p q. q p) by_call

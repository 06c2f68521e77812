use Rattle.std.proofs.Common.{rules, tests}
use Rattle.std.proofs.lemmas.Iterator.{cases_from_all, YieldsList-from_slice}
use Rattle.dx_base.specs.Members.{◌∈◌}
use Rattle.dx_base.specs.Texts.{Text}
use Rattle.dx_base.proofs.Asked.{all_tells}
use Rattle.dx_schema.specs.Names.{table_names_of}
use Rattle.dx_script.specs.Names.{table_names}
use Rattle.dx_script.proofs.step_parts.are_tables.Goals as goal

pub returns : goal.returns
returns c =
    let is_name : Text → Type 0 = λ name. name ∈ table_names (table_names_of c.args.schema.now) in
    let by_call = cases_from_all _ _ _ is_name (λ x. ¬ is_name x) c.all.ensures.ran (YieldsList-from_slice c.args.names.now (cc)) (λ x q k. search (rules, tests)) (λ x q k. search (rules, tests)) in
    all_tells is_name (λ x. ¬ is_name x) _ c.args.names.now (λ x p q. q p) by_call

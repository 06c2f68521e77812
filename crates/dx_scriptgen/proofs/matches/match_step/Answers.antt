use Rattle.std.proofs.Common.{◌∙◌, ap, length}
use Rattle.dx_model.specs.Fitting.{premise_variables}
use Rattle.dx_schema.specs.Names.{table_names_of}
use Rattle.dx_script.specs.Generated.{first_spot, shows, spots}
use Rattle.dx_script.proofs.Fitted.{length_map_below}
use Rattle.dx_scriptgen.proofs.Premises.{premise_met}
use Rattle.dx_scriptgen.proofs.Selecting.{same_match}
use Rattle.dx_scriptgen.proofs.matches.match_step.Goals as goal

pub selects-requires-clause-firsts : goal.selects-requires-clause-firsts
selects-requires-clause-firsts g c =
    let w = premise_met (table_names_of c.args.source.now) c.args.rule.now c.in_ok-premise.premise c.requires.rule (rw c.items-atoms.ensures at c.in_ok-premise.ensures) in
    ap length (c.items.ensures ∙ w.0) ∙ length_map_below (λ x. shows (first_spot x (spots (table_names_of c.args.source.now) 0 c.args.rule.now.premise))) (premise_variables c.args.rule.now)

pub returns : goal.returns
returns g c =
    let all = spots (table_names_of c.args.source.now) 0 c.args.rule.now.premise in
    let w = premise_met (table_names_of c.args.source.now) c.args.rule.now c.in_ok-premise.premise c.requires.rule (rw c.items-atoms.ensures at c.in_ok-premise.ensures) in
    let s = c.in_ok-selects.ensures all (c.items.ensures ∙ w.0) in
    same_match c.args.number s (rw c.items-atoms.ensures at c.in_ok-table_names.ensures) w.1

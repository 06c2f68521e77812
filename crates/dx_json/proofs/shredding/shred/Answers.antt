use Rattle.dx_json.proofs.Fitting.{facts_fit}
use Rattle.dx_json.proofs.Streams.{has_fault, says_facts}
use Rattle.dx_json.proofs.shredding.shred.Goals as goal

pub returns-in_err-facts-clause-fault : goal.returns-in_err-facts-clause-fault
returns-in_err-facts-clause-fault c =
    has_fault c.from_residual-in_err-facts.result c.args.bytes.now c.in_ok-text.text.now c.args.schema.now c.args.root c.tree.result.now c.in_err-facts.field-0.0 c.in_ok-text.ensures.ok.0 c.in_ok-text.ensures.ok.1 c.tree.ensures.tree
    c.from_residual-in_err-facts.ensures.1 c.in_err-facts.ensures.fault

pub returns-clause-fit : goal.returns-clause-fit
returns-clause-fit c = λ top.
    facts_fit c.args.bytes.now c.args.schema.now c.args.root c.in_ok-shared.field-0 c.requires.root top
    (says_facts c.args.bytes.now c.in_ok-text.text.now c.args.schema.now c.args.root c.tree.result.now c.in_ok-facts.ensures.ok.0 c.in_ok-facts.facts c.in_ok-shared.field-0 c.in_ok-text.ensures.ok.0 c.in_ok-text.ensures.ok.1 c.tree.ensures.tree
    c.in_ok-facts.ensures.ok.1 c.in_ok-facts.ensures.ok.2 c.in_ok-shared.ensures)

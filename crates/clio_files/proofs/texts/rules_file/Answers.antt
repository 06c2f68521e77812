use Rattle.dx_funcs.specs.Serving.{offered}
use Rattle.clio_files.proofs.TextFiles.{codes_of, conclusions_of, premises_of}
use Rattle.clio_files.proofs.texts.rules_file.Goals as goal

pub print_rules-requires-clause-premise : goal.print_rules-requires-clause-premise
print_rules-requires-clause-premise g c =
    rw c.items-rules.ensures
    (premises_of c.args.mapping.now.source c.args.mapping.now.target (offered c.args.host.now) c.args.mapping.now.rules c.requires)

pub print_rules-requires-clause-conclusion : goal.print_rules-requires-clause-conclusion
print_rules-requires-clause-conclusion g c =
    rw c.items-rules.ensures
    (conclusions_of c.args.mapping.now.source c.args.mapping.now.target (offered c.args.host.now) c.args.mapping.now.rules c.requires)

pub print_rules-requires-clause-derived : goal.print_rules-requires-clause-derived
print_rules-requires-clause-derived g c =
    rw c.items-rules.ensures
    (codes_of c.args.mapping.now.source c.args.mapping.now.target (offered c.args.host.now) c.args.mapping.now.rules c.requires)

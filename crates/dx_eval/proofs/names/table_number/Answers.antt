use Rattle.std.proofs.lemmas.Bool.{false≢true}
use Rattle.dx_eval.proofs.NumberOfNames.{name_there, number_there}
use Rattle.dx_eval.proofs.names.table_number.Goals as goal

pub returns-clause-number : goal.returns-clause-number
returns-clause-number c = number_there c.args.schema.now c.in-Some.number c.args.name.now c.tables.ensures.facts c.in-Some.ensures.some.0 c.in-Some.ensures.some.1

pub unreachable-requires : goal.unreachable-requires
unreachable-requires c = false≢true (c.in-None.ensures.none.1 (name_there c.args.schema.now c.args.name.now c.requires))

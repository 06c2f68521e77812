use Rattle.dx_funcs.specs.Serving.{offered}
use Rattle.dx_base.proofs.Loops.{each_item}
use Rattle.dx_schema.specs.Names.{table_names_of}
use Rattle.dx_script.specs.Fits.{SelectFits}
use Rattle.dx_eval.proofs.QueryFits.{call_args}
use Rattle.dx_eval.proofs.query.derived_variables.Goals as goal

pub arguments-requires-clause-fit : goal.arguments-requires-clause-fit
arguments-requires-clause-fit g c =
    let f = each_item (SelectFits (table_names_of c.args.aliases.now.schema.now) (offered c.args.host.now) c.args.aliases.now.sources.now) c.args.select.now c.loop-one.one-index c.one-item.result c.loop-one-test.true c.one-item.is c.requires.fit in
    rw c.items.ensures (call_args (table_names_of c.args.aliases.now.schema.now) (offered c.args.host.now) c.args.aliases.now.sources.now c.one-item.result c.in-Call.name c.in-Call.args c.in-Call.is f)

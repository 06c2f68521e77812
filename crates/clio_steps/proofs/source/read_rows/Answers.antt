use Rattle.clio_steps.specs.Steps.{wanted}
use Rattle.clio_steps.proofs.SameExchange.{agreeing_said}
use Rattle.clio_steps.proofs.source.read_rows.Goals as goal

pub returns : goal.returns
returns g c =
    agreeing_said g.M.Meaning.passes c.args.used.now (wanted c.args.mapping.now) c.read_source.result c.with_source_refusal.result _ _ c.with_source_refusal.ensures
    (rw c.items-conditions.ensures at c.read_source.ensures.read)

pub read_source-requires-clause-listed : goal.read_source-requires-clause-listed
read_source-requires-clause-listed g c = rw c.items-conditions.ensures c.requires.listed

pub read_source-requires-clause-named : goal.read_source-requires-clause-named
read_source-requires-clause-named g c = rw c.items-conditions.ensures c.requires.named

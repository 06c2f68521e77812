use Rattle.std.proofs.Common.{rules, tests, arith}
use Rattle.std.proofs.lemmas.Iterator.{cases_from_all, YieldsList-from_slice}
use Rattle.std.proofs.lemmas.Iterator.Adapters.{serves_from_places}
use Rattle.dx_base.proofs.Members.{item_in}
use Rattle.dx_holds.proofs.Tables.{dep_fits}
use Rattle.dx_base.proofs.Asked.{all_tells}
use Rattle.dx_schema.specs.Tables.{schema_table}
use Rattle.dx_holds.specs.Columns.{RowsDetermine}
use Rattle.dx_holds.proofs.keys.table_deps_hold.Goals as goal

pub all-requires-clause-callable : goal.all-requires-clause-callable
all-requires-clause-callable c =
    serves_from_places (YieldsList-from_slice c.deps_of.result.now (cc)) (λ x q k. search (rules, tests))
    (λ x k h e.
    let fits = dep_fits c.args.schema.now c.args.instance.now c.args.table x.now c.requires.widths c.tables.ensures.facts c.requires.table
    (rw (← c.deps_of.ensures) (item_in c.deps_of.result.now k x.now h e)) in
    search (rules, fits))

pub returns : goal.returns
returns c =
    all_tells (λ x. RowsDetermine c.args.instance.now c.args.table x.columns x.decides) (λ x. ¬ (RowsDetermine c.args.instance.now c.args.table x.columns x.decides)) c.all.result (schema_table c.args.schema.now c.args.table).deps
    (λ x p q. q p)
    (cases_from_all _ _ _ (λ x. RowsDetermine c.args.instance.now c.args.table x.columns x.decides) (λ x. ¬ (RowsDetermine c.args.instance.now c.args.table x.columns x.decides)) c.all.ensures.ran (YieldsList-from_slice ((schema_table c.args.schema.now c.args.table).deps) (cc))
    (λ x q k. search (rules, tests)) (λ x q k. search (rules, tests)))

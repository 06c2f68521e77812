use Rattle.std.proofs.Common.{rules, tests, arith}
use Rattle.std.proofs.lemmas.Iterator.{cases_from_all, YieldsList-from_slice}
use Rattle.std.proofs.lemmas.Iterator.Adapters.{serves_from_places}
use Rattle.dx_base.proofs.Members.{item_in}
use Rattle.dx_holds.proofs.Tables.{key_fits}
use Rattle.dx_base.proofs.Asked.{all_tells}
use Rattle.dx_schema.specs.Tables.{schema_table}
use Rattle.dx_holds.specs.Columns.{RowsDiffer}
use Rattle.dx_holds.proofs.keys.table_keys_hold.Goals as goal

pub all-requires-clause-callable : goal.all-requires-clause-callable
all-requires-clause-callable c =
    serves_from_places (YieldsList-from_slice c.keys_of.result.now (cc)) (λ x q k. search (rules, tests))
    (λ x k h e.
    let fits = key_fits c.args.schema.now c.args.instance.now c.args.table x.now c.requires.widths c.tables.ensures.facts c.requires.table
    (rw (← c.keys_of.ensures) (item_in c.keys_of.result.now k x.now h e)) in
    search (rules, fits))

pub returns : goal.returns
returns c =
    all_tells (λ x. RowsDiffer c.args.instance.now c.args.table x.columns) (λ x. ¬ (RowsDiffer c.args.instance.now c.args.table x.columns)) c.all.result (schema_table c.args.schema.now c.args.table).keys
    (λ x p q. q p)
    (cases_from_all _ _ _ (λ x. RowsDiffer c.args.instance.now c.args.table x.columns) (λ x. ¬ (RowsDiffer c.args.instance.now c.args.table x.columns)) c.all.ensures.ran (YieldsList-from_slice ((schema_table c.args.schema.now c.args.table).keys) (cc))
    (λ x q k. search (rules, tests)) (λ x q k. search (rules, tests)))

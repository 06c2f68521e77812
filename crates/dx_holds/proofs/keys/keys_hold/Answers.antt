use Rattle.std.proofs.Common.{rules, tests, arith, ◌<◌, length}
use Rattle.std.proofs.lemmas.Iterator.{cases_from_all, YieldsList-from_range}
use Rattle.dx_holds.proofs.Asking.{range_tells}
use Rattle.dx_model.specs.Tables.{KeysHold}
use Rattle.dx_schema.specs.Tables.{model_tables, schema_table}
use Rattle.dx_instance.specs.Stored.{facts}
use Rattle.dx_holds.specs.Columns.{TableHolds}
use Rattle.dx_holds.proofs.Tables.{keys_hold_all, table_holds}
use Rattle.dx_holds.proofs.keys.keys_hold.Goals as goal

pub returns : goal.returns
returns c =
    range_tells (λ x. TableHolds c.args.instance.now x (schema_table c.args.schema.now x)) (λ x. ¬ (TableHolds c.args.instance.now x (schema_table c.args.schema.now x))) (KeysHold (model_tables c.args.schema.now) (facts c.args.instance.now)) c.all.result 0 c.tables.result
    (λ each. keys_hold_all c.args.schema.now c.args.instance.now c.tables.result c.requires (omega (arith, c.tables.ensures.number)) (λ t h. each t (omega arith) (omega (arith, h))))
    (λ x l u no d. no (table_holds c.args.schema.now c.args.instance.now x c.requires c.tables.ensures.rows c.tables.ensures.distinct (omega (arith, u, c.tables.ensures.number)) d))
    (cases_from_all _ _ _ (λ x. TableHolds c.args.instance.now x (schema_table c.args.schema.now x)) (λ x. ¬ (TableHolds c.args.instance.now x (schema_table c.args.schema.now x))) c.all.ensures.ran (YieldsList-from_range 0 c.tables.result c.tables.result (cc) (omega arith))
    (λ x q k. search (rules, tests)) (λ x q k. search (rules, tests)))

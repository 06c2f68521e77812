use Rattle.std.proofs.Common.{rules, tests, arith}
use Rattle.std.proofs.lemmas.Iterator.{cases_from_all, YieldsList-from_slice}
use Rattle.std.proofs.lemmas.Iterator.Adapters.{serves_from_places}
use Rattle.dx_base.proofs.Members.{item_in}
use Rattle.dx_holds.proofs.Tables.{link_fits}
use Rattle.dx_base.proofs.Asked.{all_tells}
use Rattle.dx_schema.specs.Tables.{schema_table}
use Rattle.dx_holds.specs.Columns.{RowsLead}
use Rattle.dx_holds.proofs.links.table_links_hold.Goals as goal

pub all-requires-clause-callable : goal.all-requires-clause-callable
all-requires-clause-callable c =
    serves_from_places (YieldsList-from_slice c.links_of.result.now (cc)) (λ x q k. search (rules, tests))
    (λ x k h e.
    let fits = link_fits c.args.schema.now c.args.instance.now c.args.table x.now c.requires.widths c.tables.ensures.facts c.requires.table
    (rw (← c.links_of.ensures) (item_in c.links_of.result.now k x.now h e)) in
    search (rules, fits))

pub returns : goal.returns
returns c =
    all_tells (λ x. RowsLead c.args.instance.now c.args.table x) (λ x. ¬ (RowsLead c.args.instance.now c.args.table x)) c.all.result (schema_table c.args.schema.now c.args.table).links
    (λ x p q. q p)
    (cases_from_all _ _ _ (λ x. RowsLead c.args.instance.now c.args.table x) (λ x. ¬ (RowsLead c.args.instance.now c.args.table x)) c.all.ensures.ran (YieldsList-from_slice ((schema_table c.args.schema.now c.args.table).links) (cc))
    (λ x q k. search (rules, tests)) (λ x q k. search (rules, tests)))

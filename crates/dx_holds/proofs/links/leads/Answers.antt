use Rattle.std.proofs.Common.{rules, tests, arith, ◌<◌, length}
use Rattle.std.proofs.lemmas.Iterator.{cases_from_all, YieldsList-from_range}
use Rattle.dx_holds.proofs.Asking.{range_tells}
use Rattle.dx_holds.specs.Columns.{RowLeads, RowsLead}
use Rattle.dx_holds.proofs.links.leads.Goals as goal

pub returns : goal.returns
returns c =
    range_tells (λ x. RowLeads c.args.instance.now c.args.table c.args.link.now x) (λ x. ¬ (RowLeads c.args.instance.now c.args.table c.args.link.now x)) (RowsLead c.args.instance.now c.args.table c.args.link.now) c.all.result 0 c.count.result
    (λ each p h. each p (omega arith) (omega (arith, h, c.count.ensures)))
    (λ x l u no d. no (d x (omega (arith, u, c.count.ensures))))
    (cases_from_all _ _ _ (λ x. RowLeads c.args.instance.now c.args.table c.args.link.now x) (λ x. ¬ (RowLeads c.args.instance.now c.args.table c.args.link.now x)) c.all.ensures.ran (YieldsList-from_range 0 c.count.result c.count.result (cc) (omega arith))
    (λ x q k. search (rules, tests)) (λ x q k. search (rules, tests)))

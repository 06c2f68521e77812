use Rattle.std.proofs.Common.{rules, tests, arith, ◌<◌, length}
use Rattle.std.proofs.lemmas.Iterator.{cases_from_all, YieldsList-from_range}
use Rattle.dx_holds.proofs.Asking.{range_tells}
use Rattle.dx_holds.specs.Columns.{RowsDetermine}
use Rattle.dx_holds.proofs.Determining.{AgreesWithFirst, DiffersFromFirst, all_determine, not_determine}
use Rattle.dx_holds.proofs.keys.determine.Goals as goal

pub returns : goal.returns
returns c =
    range_tells (λ x. AgreesWithFirst c.args.instance.now c.args.table c.args.left.now c.args.right.now x) (λ x. DiffersFromFirst c.args.instance.now c.args.table c.args.left.now c.args.right.now x) (RowsDetermine c.args.instance.now c.args.table c.args.left.now c.args.right.now) c.all.result 0 c.count.result
    (λ each. all_determine c.args.instance.now c.args.table c.args.left.now c.args.right.now (λ x h. each x (omega arith) (omega (arith, h, c.count.ensures))))
    (λ x l u no d. no.2 (not_determine c.args.instance.now c.args.table c.args.left.now c.args.right.now x no.0 (omega (arith, u, c.count.ensures)) no.1 d))
    (cases_from_all _ _ _ (λ x. AgreesWithFirst c.args.instance.now c.args.table c.args.left.now c.args.right.now x) (λ x. DiffersFromFirst c.args.instance.now c.args.table c.args.left.now c.args.right.now x) c.all.ensures.ran (YieldsList-from_range 0 c.count.result c.count.result (cc) (omega arith))
    (λ x q k. search (rules, tests)) (λ x q k. search (rules, tests)))

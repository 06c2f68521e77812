use Rattle.std.proofs.Common.{rules, tests, arith, ◌<◌, length}
use Rattle.std.proofs.lemmas.Iterator.{cases_from_all, YieldsList-from_range}
use Rattle.dx_holds.proofs.Asking.{range_tells}
use Rattle.dx_holds.specs.Columns.{IsFirstLike, RowsDiffer}
use Rattle.dx_holds.proofs.Determining.{all_differ, each_first}
use Rattle.dx_holds.proofs.keys.differ_in.Goals as goal

pub returns : goal.returns
returns c =
    range_tells (λ x. IsFirstLike c.args.instance.now c.args.table c.args.columns.now x x) (λ x. ¬ (IsFirstLike c.args.instance.now c.args.table c.args.columns.now x x)) (RowsDiffer c.args.instance.now c.args.table c.args.columns.now) c.all.result 0 c.count.result
    (λ each. all_differ c.args.instance.now c.args.table c.args.columns.now (λ x h. each x (omega arith) (omega (arith, h, c.count.ensures))))
    (λ x l u no d. no (each_first c.args.instance.now c.args.table c.args.columns.now x (omega (arith, u, c.count.ensures)) d))
    (cases_from_all _ _ _ (λ x. IsFirstLike c.args.instance.now c.args.table c.args.columns.now x x) (λ x. ¬ (IsFirstLike c.args.instance.now c.args.table c.args.columns.now x x)) c.all.ensures.ran (YieldsList-from_range 0 c.count.result c.count.result (cc) (omega arith))
    (λ x q k. search (rules, tests)) (λ x q k. search (rules, tests)))

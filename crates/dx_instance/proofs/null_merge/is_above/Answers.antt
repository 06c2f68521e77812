use Rattle.std.proofs.Common.{◌∙◌, ap}
use Rattle.std.specs.Ordering.{is_lt}
use Rattle.dx_instance.proofs.MergeFacts.{on_last}
use Rattle.dx_instance.proofs.null_merge.is_above.Goals as goal

pub returns-in-Some : goal.returns-in-Some
returns-in-Some c = on_last c.args.pairs.now c.in-Some.pair.now c.args.null.now c.is_lt.result c.requires c.in-Some.ensures.item.1 (c.is_lt.ensures ∙ ap is_lt c.cmp.ensures)

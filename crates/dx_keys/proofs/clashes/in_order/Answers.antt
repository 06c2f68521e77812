use Rattle.std.proofs.Common.{ap, sym, ◌∙◌}
use Rattle.std.specs.Cmp.Lexicographic.{slice_cmp}
use Rattle.std.specs.declared.cmp.Ordering.{Ordering}
use Rattle.dx_model.specs.declared.values.Value.{Value}
use Rattle.dx_instance.proofs.NumberFacts.{value_order_is}
use Rattle.dx_keys.proofs.Answering.{row_turned}
use Rattle.dx_keys.proofs.clashes.in_order.Goals as goal

pub returns-in-Greater-clause-order : goal.returns-in-Greater-clause-order
returns-in-Greater-clause-order c =
    row_turned c.args.one c.args.other (ap (λ (R : Value → Value → Ordering). slice_cmp R c.args.one c.args.other) (sym value_order_is) ∙ (sym c.cmp.ensures ∙ c.in-Greater.is))

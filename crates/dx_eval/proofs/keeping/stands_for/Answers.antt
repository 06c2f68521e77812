use Rattle.std.proofs.Common.{◌∙◌, sym}
use Rattle.dx_instance.specs.Numbers.{value_of}
use Rattle.dx_eval.proofs.Partners.{const_is, null_is_not}
use Rattle.dx_eval.proofs.keeping.stands_for.Goals as goal

pub returns-in-Const : goal.returns-in-Const
returns-in-Const c = const_is (value_of c.args.symbols.now c.args.number) _ c.args.text.now c.is.result (sym c.value.ensures ∙ c.in-Const.is) c.is.ensures

pub returns-in-Null : goal.returns-in-Null
returns-in-Null c = null_is_not (value_of c.args.symbols.now c.args.number) _ c.args.text.now (sym c.value.ensures ∙ c.in-Null.is)

use Rattle.std.proofs.Common.{arith, subst}
use Rattle.dx_base.specs.Members.{◌∈◌}
use Rattle.dx_base.proofs.Members.{in_at, item_in}
use Rattle.dx_base.proofs.Options.{some_left, none_left}
use Rattle.dx_model.specs.declared.values.Value.{Value}
use Rattle.dx_judge.specs.Asking.{SaysValue}
use Rattle.dx_judge.proofs.Asked.{value_in, values_more}
use Rattle.dx_judge.proofs.asking.terms_of.Goals as goal

pub bounds-row-column : goal.bounds-row-column
bounds-row-column c = c.requires.order _ (in_at c.args.order.now c.loop-column.column-index 0 (omega arith))

pub term_of-requires-clause-known : goal.term_of-requires-clause-known
term_of-requires-clause-known c = λ n e.
    c.requires.known n (subst (λ (v : Value). v ∈ c.args.row.now) e
    (item_in c.args.row.now _ c.index-row-column.result (c.requires.order _ (in_at c.args.order.now c.loop-column.column-index 0 (omega arith))) c.index-row-column.is))

pub returns-in_default : goal.returns-in_default
returns-in_default c = (
  c.index-row-column.result,
  value_in c.args.order.now c.args.row.now c.loop-column.column-index c.index-row-column.result (omega arith)
      (c.requires.order _ (in_at c.args.order.now c.loop-column.column-index 0 (omega arith))) c.index-row-column.is,
  none_left _ _ c.term_of.result c.term_of.ensures c.in_default.not-Some,
)

pub loop-column-preserved : goal.loop-column-preserved
loop-column-preserved c =
    rw c.in_ok-push.ensures.ok
    (values_more (SaysValue c.args.numbers.now.symbols c.args.nulls.now) c.args.order.now c.args.row.now c.loop-column.terms c.loop-column.column-index
    c.index-row-column.result c.in-Some.term (omega arith)
    (c.requires.order _ (in_at c.args.order.now c.loop-column.column-index 0 (omega arith))) c.index-row-column.is c.loop-column.invariant
    (some_left _ _ c.term_of.result c.in-Some.term c.in-Some.is c.term_of.ensures))

use Rattle.std.proofs.Common.{refl, sym}
use Rattle.dx_base.proofs.Members.{item_in}
use Rattle.dx_base.proofs.Options.{some_left, none_left}
use Rattle.dx_judge.specs.Asking.{SaysTurned}
use Rattle.dx_judge.proofs.Asked.{order_same, zip_more}
use Rattle.dx_judge.proofs.asking.atoms_of.Goals as goal

pub bounds-orders-fact : goal.bounds-orders-fact
bounds-orders-fact c =
    (c.requires.orders c.fact-item.result (item_in c.args.facts.now c.loop-fact.fact-index c.fact-item.result c.loop-fact-test.true c.fact-item.is)).table

pub terms_of-requires-clause-order : goal.terms_of-requires-clause-order
terms_of-requires-clause-order c =
    let can = c.requires.orders c.fact-item.result (item_in c.args.facts.now c.loop-fact.fact-index c.fact-item.result c.loop-fact-test.true c.fact-item.is) in
    rw (c.items-order.ensures, c.items.ensures, sym (order_same c.args.orders.now c.fact-item.result.table c.index-orders-fact.result can.table c.index-orders-fact.is))
    can.columns

pub terms_of-requires-clause-known : goal.terms_of-requires-clause-known
terms_of-requires-clause-known c =
    rw c.items.ensures (c.requires.known c.fact-item.result (item_in c.args.facts.now c.loop-fact.fact-index c.fact-item.result c.loop-fact-test.true c.fact-item.is))

pub returns-in_default : goal.returns-in_default
returns-in_default c =
    let here = item_in c.args.facts.now c.loop-fact.fact-index c.fact-item.result c.loop-fact-test.true c.fact-item.is in
    let is = order_same c.args.orders.now c.fact-item.result.table c.index-orders-fact.result (c.requires.orders c.fact-item.result here).table c.index-orders-fact.is in
    (c.fact-item.result, here, rw is (rw (c.items-order.ensures, c.items.ensures) at (none_left _ _ c.in_ok-terms.field-0 c.in_ok-terms.ensures c.in_default.not-Some)))

pub loop-fact-preserved : goal.loop-fact-preserved
loop-fact-preserved c =
    let here = item_in c.args.facts.now c.loop-fact.fact-index c.fact-item.result c.loop-fact-test.true c.fact-item.is in
    let is = order_same c.args.orders.now c.fact-item.result.table c.index-orders-fact.result (c.requires.orders c.fact-item.result here).table c.index-orders-fact.is in
    rw c.in_ok-push.ensures.items
    (zip_more (SaysTurned c.args.numbers.now.symbols c.args.orders.now c.args.nulls.now) c.args.facts.now c.loop-fact.atoms.items c.loop-fact.fact-index
    c.fact-item.result _ c.loop-fact-test.true c.fact-item.is c.loop-fact.invariant
    (record {
      table = refl;
      terms = rw is (rw (c.items-order.ensures, c.items.ensures) at (some_left _ _ c.in_ok-terms.field-0 c.in-Some.terms c.in-Some.is c.in_ok-terms.ensures));
    }))

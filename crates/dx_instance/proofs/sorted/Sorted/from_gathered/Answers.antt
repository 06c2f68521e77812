use Rattle.std.proofs.Common.{subst, sym, arith, ℕ}
use Rattle.dx_base.specs.Members.{Each}
use Rattle.dx_instance.specs.Shown.{NumberRowsFit, shown_tables}
use Rattle.dx_instance.proofs.SortFacts.{if_ok, ranks_show, same_sorting}
use Rattle.dx_instance.proofs.sorted.Sorted.from_gathered.Goals as goal

pub of_ranks-requires-clause-ascend : goal.of_ranks-requires-clause-ascend
of_ranks-requires-clause-ascend c = c.in_ok-into_order.ensures.ascend

pub of_ranks-requires-clause-within : goal.of_ranks-requires-clause-within
of_ranks-requires-clause-within c n h = let o = c.in_ok-into_order.ensures in let w = o.within n (omega (arith, h, o.ranked)) in omega (arith, w)

pub of_ranks-requires-clause-fit : goal.of_ranks-requires-clause-fit
of_ranks-requires-clause-fit c = subst (λ (n : ℕ). Each c.args.tables.items (NumberRowsFit n)) (sym c.in_ok-into_order.ensures.ranked) c.requires.fit

pub returns : goal.returns
returns c =
    let o = c.in_ok-into_order.ensures in
    let is = ranks_show c.args.values c.in_ok-into_order.field-0.symbols c.in_ok-into_order.field-0.ranks.items c.args.tables.items o c.requires.fit in
    if_ok c.of_ranks.result (λ K s. same_sorting _ _ (shown_tables K.symbols K.tables) is s) c.of_ranks.ensures

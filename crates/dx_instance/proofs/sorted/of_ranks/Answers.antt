use Rattle.std.proofs.Common.{ap, subst, sym, length, List}
use Rattle.dx_base.specs.Members.{Each}
use Rattle.dx_instance.specs.Cells.{NumberTable}
use Rattle.dx_instance.specs.Shown.{NumberRowsFit, shown_tables}
use Rattle.dx_instance.proofs.SortFacts.{if_ok, images_fit, same_sorting}
use Rattle.dx_instance.proofs.sorted.of_ranks.Goals as goal

pub all_renumbered-requires : goal.all_renumbered-requires
all_renumbered-requires c = rw c.deref.ensures.value c.requires.fit

pub of_ordered-requires-clause-fit : goal.of_ordered-requires-clause-fit
of_ordered-requires-clause-fit c =
    let symbols = c.args.ordered.symbols in
    let ranks = c.args.ordered.ranks.items in
    subst (λ (l : List NumberTable). Each l (NumberRowsFit (length symbols))) (sym c.in_ok-ranked.ensures)
    (rw c.deref.ensures.value (images_fit (length symbols) (length ranks) ranks c.args.tables.items c.requires.within c.requires.fit))

pub returns : goal.returns
returns c =
    let all = rw c.deref.ensures.value at c.in_ok-ranked.ensures in
    if_ok c.of_ordered.result (λ K s. same_sorting _ _ (shown_tables K.symbols K.tables) (ap (λ (l : List NumberTable). shown_tables c.args.ordered.symbols l) all) s) c.of_ordered.ensures

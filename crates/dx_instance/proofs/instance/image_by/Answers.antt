use Rattle.std.proofs.Common.{sym, ap, subst, arith, length, List, map}
use Rattle.std.proofs.lemmas.List.{length-map}
use Rattle.dx_model.specs.declared.values.Value.{Value}
use Rattle.dx_base.specs.Members.{Each}
use Rattle.dx_instance.specs.Cells.{NumberTable}
use Rattle.dx_instance.specs.Shown.{NumberRowsFit, renumbered, shown_tables}
use Rattle.dx_instance.specs.Stored.{IsSorting}
use Rattle.dx_instance.proofs.SortFacts.{if_ok, images_fit, parts_rows}
use Rattle.dx_instance.proofs.instance.image_by.Goals as goal

pub row_images-requires : goal.row_images-requires
row_images-requires c = rw c.requires.long c.requires.fit.each

pub from_rows-requires-clause-fit : goal.from_rows-requires-clause-fit
from_rows-requires-clause-fit c =
    let n = length c.args.symbols.now in
    let fit = images_fit n n c.args.images.now c.args.tables.now c.requires.within (parts_rows c.args.symbols.now c.args.tables.now c.requires.fit) in
    subst (λ (l : List NumberTable). Each l (NumberRowsFit (length c.in_ok-copy.field-0))) (sym c.in_ok-rows.ensures)
    (subst (λ (s : List Value). Each (map (renumbered c.args.images.now) c.args.tables.now) (NumberRowsFit (length s))) (sym c.in_ok-copy.ensures) fit)

pub from_rows-requires-clause-few : goal.from_rows-requires-clause-few
from_rows-requires-clause-few c =
    omega (arith, ap length c.in_ok-rows.ensures, length-map c.args.tables.now (renumbered c.args.images.now), c.requires.fit.few)

pub returns : goal.returns
returns c =
    let e = c.in_ok-copy.ensures in
    if_ok c.from_rows.result (λ K s. subst (λ (l : List NumberTable). IsSorting (shown_tables c.args.symbols.now l) K) c.in_ok-rows.ensures
    (subst (λ (v : List Value). IsSorting (shown_tables v c.in_ok-rows.rows.items) K) e s)) c.from_rows.ensures

use Rattle.std.proofs.Common.{◌≡◌, ◌∙◌, sym, ap, subst, arith, length, List, ℕ, map}
use Rattle.std.proofs.lemmas.List.{length-map}
use Rattle.dx_base.specs.Members.{Each}
use Rattle.dx_instance.specs.Cells.{NumberTable}
use Rattle.dx_instance.specs.Shown.{NumbersFit, NumberRowsFit, renumbered, shown_tables}
use Rattle.dx_instance.specs.Stored.{IsSorting}
use Rattle.dx_instance.proofs.SortFacts.{if_ok, instance_maps, images_fit, parts_rows}
use Rattle.dx_instance.proofs.instance.Instance.map_anew.Goals as goal

pub row_images-requires : goal.row_images-requires
row_images-requires c =
    let o = c.in_ok-images.ensures.images in
    let many : length c.self.inside.symbols ≡ length c.deref-2.result.now = sym (ap length c.deref-2.ensures.value ∙ o.many) in
    rw c.deref.ensures.value (subst (λ (n : ℕ). Each c.self.inside.tables.items (NumbersFit n)) many c.self.invariant.each)

pub from_rows-requires-clause-fit : goal.from_rows-requires-clause-fit
from_rows-requires-clause-fit c =
    let o = c.in_ok-images.ensures.images in
    let all = c.in_ok-tables.ensures ∙ ap (λ (l : List NumberTable). map (renumbered c.deref-2.result.now) l) c.deref.ensures.value in
    subst (λ (l : List NumberTable). Each l (NumberRowsFit (length c.images_of.new.into))) (sym all)
    (rw c.deref-2.ensures.value (images_fit (length c.images_of.new.into) (length c.self.inside.symbols) c.in_ok-images.images.items c.self.inside.tables.items o.within (parts_rows c.self.inside.symbols c.self.inside.tables.items c.self.invariant)))

pub from_rows-requires-clause-few : goal.from_rows-requires-clause-few
from_rows-requires-clause-few c =
    omega (arith, ap length c.in_ok-tables.ensures, length-map c.deref.result.now (renumbered c.deref-2.result.now), ap length c.deref.ensures.value, c.self.invariant.few)

pub returns : goal.returns
returns c =
    let all = c.in_ok-tables.ensures ∙ ap (λ (l : List NumberTable). map (renumbered c.deref-2.result.now) l) c.deref.ensures.value in
    let is = rw c.deref-2.ensures.value at all in
    if_ok c.from_rows.result (λ K s. instance_maps c.args.map.now c.self.inside.symbols c.images_of.new.into c.in_ok-images.images.items c.self.inside.tables.items c.args.self.now K c.self.view_is c.in_ok-images.ensures.images c.self.invariant
    (subst (λ (l : List NumberTable). IsSorting (shown_tables c.images_of.new.into l) K) is s)) c.from_rows.ensures

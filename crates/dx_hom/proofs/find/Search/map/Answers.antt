use Rattle.std.proofs.Common.{◌≡◌, ◌<◌, ◌∙◌, ◌+◌, ◌-◌, ℕ, List, ap, arith, get_or, length, subst}
use Rattle.std.proofs.lemmas.List.{get_or_default}
use Rattle.dx_base.specs.Members.{◌∈◌}
use Rattle.dx_base.proofs.Loops.{each_item}
use Rattle.dx_hom.specs.declared.matching.Found.{Found}
use Rattle.dx_hom.specs.Narrowing.{IsNullCell}
use Rattle.dx_hom.specs.Room.{Room}
use Rattle.dx_hom.proofs.Placing.{MadeFrom, made_all, made_more, made_none}
use Rattle.dx_hom.proofs.find.Search.map.Goals as goal

pub loop-left-init : goal.loop-left-init
loop-left-init c = record {
  within = omega (arith, c.len-left.ensures);
  made = made_none c.args.into.now c.self.inside.found.cells c.len-left.result c.new-map.result (omega (arith, c.len-left.ensures))
      c.new-map.ensures;
}

pub cell-value-requires : goal.cell-value-requires
cell-value-requires c =
    let cells = c.self.inside.found.cells in
    let entry = c.at-entry.result in
    let i = c.loop-left.left - 1 in
    let same : cells ≡ c.args.self.now.found = ap (λ (r : Room). r.found) c.self.view_is in
    let h : i < length cells = omega (arith, c.loop-left.invariant.within, c.loop-left-test.true) in
    let at : entry ≡ get_or cells i entry = c.at-entry.ensures ∙ get_or_default cells i _ _ h in
    let cell = each_item (IsNullCell c.args.into.now) cells i entry h at (λ b m. c.requires b (subst (λ (l : List Found). b ∈ l) same m)) in
    record { table = cell.table; place = cell.place; column = cell.column }

pub loop-left-preserved : goal.loop-left-preserved
loop-left-preserved c =
    let I = c.args.into.now in
    let cells = c.self.inside.found.cells in
    let entry = c.at-entry.result in
    let i = c.loop-left.left - 1 in
    let h : i < length cells = omega (arith, c.loop-left.invariant.within, c.loop-left-test.true) in
    let at : entry ≡ get_or cells i entry = c.at-entry.ensures ∙ get_or_default cells i _ _ h in
    let up : c.loop-left.left ≡ i + 1 = omega (arith, c.loop-left-test.true) in
    let made = subst (λ (k : ℕ). MadeFrom I cells k c.loop-left.map) up c.loop-left.invariant.made in
    record {
      within = omega (arith, c.loop-left.invariant.within);
      made = made_more I cells i entry c.loop-left.map c.set.new.self c.in_ok-copy_value.field-0 h at
          (c.in_ok-copy_value.ensures ∙ c.cell-value.ensures) c.in_ok-set.ensures.ok made;
    }

pub returns : goal.returns
returns c =
    made_all c.args.into.now c.self.inside.found.cells c.args.self.now.found c.loop-left.left c.loop-left.map
    (omega (arith, c.loop-left-test.false)) (ap (λ (r : Room). r.found) c.self.view_is) c.loop-left.invariant.made

use Rattle.std.proofs.Common.{◌≡◌, ◌∙◌, ◌++◌, ℕ, List, ap, sym, take}
use Rattle.std.specs.Prelude.{nat_eq}
use Rattle.std.specs.List.{dedup}
use Rattle.std.proofs.lemmas.List.Filters.{dedup_is}
use Rattle.std.proofs.lemmas.List.{take_all}
use Rattle.dx_model.specs.declared.rules.Cell.{Cell}
use Rattle.dx_model.specs.declared.rules.Atom.{Atom}
use Rattle.dx_model.specs.Rules.{cells_of}
use Rattle.dx_tgd.proofs.Numbers.{variables_append, cells_more, sorted_is}
use Rattle.dx_tgd.proofs.variables.exported.Goals as goal
use Rattle.dx_tgd.specs.Variables.{variables_in}

pub loop-atom-preserved : goal.loop-atom-preserved
loop-atom-preserved c =
    c.in_ok-push_variables.ensures ∙ (ap (λ (z : List ℕ). z ++ variables_in c.items.result.now) c.loop-atom.invariant
    ∙ (ap (λ (z : List Cell). variables_in (cells_of (take c.loop-atom.atom-index c.items-atom-items.result.now)) ++ variables_in z) c.items.ensures
    ∙ sym (ap variables_in (cells_more c.items-atom-items.result.now c.loop-atom.atom-index c.atom-item.result c.loop-atom-test.true c.atom-item.is) ∙ variables_append (cells_of (take c.loop-atom.atom-index c.items-atom-items.result.now)) c.atom-item.result.cells)))

pub returns : goal.returns
returns c =
    let d : c.dedup.new.self.items ≡ dedup nat_eq c.sort.new.self.items = dedup_is nat_eq c.sort.new.self.items c.dedup.new.self.items c.dedup.ensures.filtered in
    d ∙ sorted_is c.args.rule.now c.loop-atom.variables.items c.sort.new.self.items
    (c.loop-atom.invariant ∙ ap (λ (z : List Atom). variables_in (cells_of z)) (take_all c.loop-atom.atom-index c.items-atom-items.result.now c.loop-atom-test.false ∙ c.items-atom-items.ensures))
    c.in_ok-sort.ensures.permutation c.in_ok-sort.ensures.sorted

use Rattle.std.proofs.Common.{◌∙◌, ◌<◌, length, get_or, subst, sym, rules}
use Rattle.std.proofs.lemmas.List.{get_or_default}
use Rattle.dx_model.specs.declared.facts.Fact.{Fact}
use Rattle.dx_base.specs.Members.{◌∈◌}
use Rattle.dx_base.proofs.Members.{in_at}
use Rattle.dx_hom.proofs.candidates.fact_at_turn.Goals as goal

pub bounds-from-at : goal.bounds-from-at
bounds-from-at c = c.requires.within _ (in_at c.args.order.now c.args.place 0 c.requires.place)

pub offset_bounds-from-at : goal.offset_bounds-from-at
offset_bounds-from-at c =
    let within : get_or c.args.order.now c.args.place 0 < length c.args.from.now =
    c.requires.within _ (in_at c.args.order.now c.args.place 0 c.requires.place) in
    search rules

pub returns-clause-fact : goal.returns-clause-fact
returns-clause-fact c =
    let within = c.requires.within _ (in_at c.args.order.now c.args.place 0 c.requires.place) in
    c.index-from-at.is ∙ get_or_default c.args.from.now (get_or c.args.order.now c.args.place 0) _ _ within

pub returns-clause-member : goal.returns-clause-member
returns-clause-member c =
    let at = get_or c.args.order.now c.args.place 0 in
    let within = c.requires.within at (in_at c.args.order.now c.args.place 0 c.requires.place) in
    let there = in_at c.args.from.now at c.index-from-at.result within in
    subst (λ (f : Fact). f ∈ c.args.from.now) (sym c.index-from-at.is) there

use Rattle.std.proofs.Common.{◌≡◌, ◌∙◌, sym, ap, rules, tests}
use Rattle.std.specs.Prelude.{Bool, ◌&&◌}
use Rattle.std.specs.List.{list_all}
use Rattle.std.proofs.lemmas.Bool.{eq-eqb}
use Rattle.std.proofs.lemmas.Iterator.{YieldsList-from_slice}
use Rattle.std.proofs.lemmas.Iterator.Search.{all_from_yields_List}
use Rattle.dx_ways.specs.Tried.{agrees_in}
use Rattle.dx_ways.proofs.seen.is_like.Goals as goal

pub returns-then-one-other : goal.returns-then-one-other
returns-then-one-other c =
    let o = c.args.one.now in
    let p = c.args.other.now in
    all_from_yields_List (agrees_in o p) _ _ _ c.all.ensures.ran (YieldsList-from_slice c.args.places.now (cc)) (λ x b q k. search (rules, tests))
    ∙ sym (ap (λ (b : Bool). b && list_all (agrees_in o p) c.args.places.now) (eq-eqb o.table p.table c.if-one-other.true))

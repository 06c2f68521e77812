use Rattle.std.proofs.Common.{◌≡◌, Bor, rules, tests}
use Rattle.std.proofs.lemmas.Iterator.{YieldsList-from_slice}
use Rattle.std.proofs.lemmas.Iterator.Search.{any_from_yields_List}
use Rattle.dx_logical.specs.declared.relation.Occurrence.{Occurrence}
use Rattle.dx_ways.specs.Tried.{is_like}
use Rattle.dx_ways.proofs.Unlike.{any_map}
use Rattle.dx_ways.proofs.seen.has_like.Goals as goal

pub returns : goal.returns
returns c =
    rw (any_map (λ o. is_like c.args.places.now o c.args.occurrence.now) (λ (r : Bor Occurrence). r.now) c.args.found.now)
    (any_from_yields_List (λ (r : Bor Occurrence). is_like c.args.places.now r.now c.args.occurrence.now) _ _ _ c.any.ensures.ran (YieldsList-from_slice c.args.found.now (cc)) (λ x b q k. search (rules, tests)))

use Rattle.std.proofs.Common.{◌<◌, length, rules, tests}
use Rattle.std.proofs.lemmas.Iterator.{cases_from_all, YieldsList-from_slice}
use Rattle.std.proofs.lemmas.Iterator.Adapters.{serves_from_places}
use Rattle.dx_base.proofs.Members.{item_in}
use Rattle.dx_cover.specs.declared.pairs.Place.{Place}
use Rattle.dx_cover.specs.Pairs.{IsSameAt, IsWithin}
use Rattle.dx_cover.proofs.Asked.{told_some}
use Rattle.dx_cover.proofs.Pairing.{not_same_at}
use Rattle.dx_cover.proofs.pairs.agree.Goals as goal

pub all-requires-clause-callable : goal.all-requires-clause-callable
all-requires-clause-callable c =
    serves_from_places (YieldsList-from_slice c.args.places.now (cc)) (λ x q m. search rules) (λ x k h e.
    let w = c.requires x.now (item_in c.args.places.now k x.now h e) in
    let own : x.now.own < length c.items-own_cells.result.now = rw c.items-own_cells.ensures w.0 in
    let its : x.now.its < length c.items-its_cells.result.now = rw c.items-its_cells.ensures w.1 in
    search (rules, own, its))

pub returns : goal.returns
returns c =
    let differs : Place → Type 0 = λ p. IsWithin c.args.chosen.now c.args.next.now p → ¬ (IsSameAt c.args.chosen.now c.args.next.now p) in
    let by_call = cases_from_all _ _ _ (λ p. Unit {0}) differs c.all.ensures.ran (YieldsList-from_slice c.args.places.now (cc)) (λ x q k. search (rules, tests)) (λ x q k w. search (rules, tests, not_same_at, w)) in
    λ e. let w = told_some (λ (p : Place). Unit {0}) differs _ c.args.places.now by_call e in
    (w.0, w.1, w.2 (c.requires w.0 w.1))

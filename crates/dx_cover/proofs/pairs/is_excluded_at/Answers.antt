use Rattle.std.proofs.Common.{◌<◌, ℕ, length, rules, tests}
use Rattle.std.proofs.lemmas.Iterator.{cases_from_any, YieldsList-from_slice}
use Rattle.std.proofs.lemmas.Iterator.Adapters.{serves_from_places}
use Rattle.dx_base.proofs.Members.{item_in}
use Rattle.dx_cover.specs.Partners.{IsExcluded}
use Rattle.dx_cover.proofs.Asked.{told_one}
use Rattle.dx_cover.proofs.Choosing.{excluded_at}
use Rattle.dx_cover.proofs.pairs.is_excluded_at.Goals as goal

pub returns-then-is_forbidden : goal.returns-then-is_forbidden
returns-then-is_forbidden c = λ e. c.is_forbidden.ensures c.if-is_forbidden.true c.args.bound.now

pub any-requires-clause-callable : goal.any-requires-clause-callable
any-requires-clause-callable c =
    serves_from_places (YieldsList-from_slice c.args.places.now (cc)) (λ x q m. search rules) (λ x k h e.
    let below = c.requires.within x.now (item_in c.args.places.now k x.now h e) in
    let own : x.now < length c.items-cells.result.now = rw c.items-cells.ensures below in
    let its : x.now < length c.items-others.result.now = rw c.items-others.ensures (rw c.requires.width at below) in
    search (rules, own, its))

pub returns : goal.returns
returns c =
    let shut : ℕ → Type 0 = λ p. p < length c.args.atom.now.cells → IsExcluded c.args.bound.now c.args.atom.now c.args.other.now in
    let width = c.requires.width in
    let by_call = cases_from_any _ _ _ shut (λ p. Unit {0}) c.any.ensures.ran (YieldsList-from_slice c.args.places.now (cc)) (λ x q k w. search (rules, tests, excluded_at, w, width)) (λ x q k. search (rules, tests)) in
    λ e. let w = told_one shut (λ (p : ℕ). Unit {0}) _ c.args.places.now by_call e in
    w.2 (c.requires.within w.0 w.1)

use Rattle.std.proofs.Common.{Bor, rules, tests}
use Rattle.std.proofs.lemmas.Iterator.{cases_from_any, YieldsList-from_slice}
use Rattle.std.proofs.lemmas.Iterator.Adapters.{serves_from_places}
use Rattle.dx_base.specs.Members.{Each}
use Rattle.dx_model.specs.declared.rules.Atom.{Atom}
use Rattle.dx_cover.specs.Pairs.{Disagree, IsWithin}
use Rattle.dx_cover.proofs.Asked.{told_none}
use Rattle.dx_cover.proofs.Pairing.{behind_item, each_behind}
use Rattle.dx_cover.proofs.pairs.is_supported.Goals as goal

pub any-requires-clause-callable : goal.any-requires-clause-callable
any-requires-clause-callable c =
    serves_from_places (YieldsList-from_slice c.args.left.now (cc)) (λ x q m. search rules) (λ x k h e.
    let within : Each c.args.places.now (IsWithin c.args.chosen.now x.now.now) = c.requires x.now.now (behind_item c.args.left.now k x.now h e) in
    search (rules, within))

pub returns : goal.returns
returns c =
    let apart : Bor Atom → Type 0 = λ r. Disagree c.args.places.now c.args.chosen.now r.now in
    let by_call = cases_from_any _ _ _ (λ r. Unit {0}) apart c.any.ensures.ran (YieldsList-from_slice c.args.left.now (cc)) (λ x q k. tt) (λ x q k. search (rules, tests)) in
    λ e. each_behind (Disagree c.args.places.now c.args.chosen.now) c.args.left.now (told_none (λ (r : Bor Atom). Unit {0}) apart _ c.args.left.now by_call e)

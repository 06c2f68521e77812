use Rattle.std.proofs.Common.{◌≡◌, length, rules, tests}
use Rattle.std.proofs.lemmas.Iterator.{cases_from_any, YieldsList-from_slice}
use Rattle.std.proofs.lemmas.Iterator.Adapters.{serves_from_places}
use Rattle.dx_cover.proofs.Asked.{told_none}
use Rattle.dx_base.proofs.Members.{item_in}
use Rattle.dx_model.specs.declared.rules.Atom.{Atom}
use Rattle.dx_cover.specs.Partners.{IsExcluded}
use Rattle.dx_cover.proofs.partners.has_partner.Goals as goal

pub any-requires-clause-callable : goal.any-requires-clause-callable
any-requires-clause-callable c =
    serves_from_places (YieldsList-from_slice c.args.others.now (cc)) (λ x q m. search rules) (λ x k h e.
    let wide : c.args.atom.now.table ≡ x.now.table → length c.args.atom.now.cells ≡ length x.now.cells = c.requires x.now (item_in c.args.others.now k x.now h e) in
    search (rules, wide))

pub returns : goal.returns
returns c =
    let shut : Atom → Type 0 = λ b. c.args.atom.now.table ≡ b.table → IsExcluded c.args.bound.now c.args.atom.now b in
    let by_call = cases_from_any _ _ _ (λ b. Unit {0}) shut c.any.ensures.ran (YieldsList-from_slice c.args.others.now (cc)) (λ x q k. tt) (λ x q k. search (rules, tests)) in
    λ e. told_none (λ (b : Atom). Unit {0}) shut _ c.args.others.now by_call e

use Rattle.std.proofs.Common.{◌≡◌, length, rules, tests}
use Rattle.std.proofs.lemmas.Iterator.{cases_from_all, YieldsList-from_slice}
use Rattle.std.proofs.lemmas.Iterator.Adapters.{serves_from_places}
use Rattle.dx_base.specs.Members.{Each}
use Rattle.dx_base.proofs.Members.{item_in}
use Rattle.dx_model.specs.declared.rules.Atom.{Atom}
use Rattle.dx_cover.specs.Partners.{HasNoChoice}
use Rattle.dx_cover.proofs.Asked.{told_some}
use Rattle.dx_cover.proofs.Choosing.{no_partner}
use Rattle.dx_cover.proofs.partners.have_partners.Goals as goal

pub all-requires-clause-callable : goal.all-requires-clause-callable
all-requires-clause-callable c =
    serves_from_places (YieldsList-from_slice c.args.rest.now (cc)) (λ x q m. search rules) (λ x k h e.
    let wide : Each c.args.others.now (λ b. x.now.table ≡ b.table → length x.now.cells ≡ length b.cells) = λ b n t. c.requires x.now b (item_in c.args.rest.now k x.now h e) n t in
    search (rules, wide))

pub returns : goal.returns
returns c =
    let alone : Atom → Type 0 = HasNoChoice c.args.bound.now c.args.others.now in
    let by_call = cases_from_all _ _ _ (λ a. Unit {0}) alone c.all.ensures.ran (YieldsList-from_slice c.args.rest.now (cc)) (λ x q k. search (rules, tests)) (λ x q k. search (rules, tests)) in
    λ e i. let w = told_some (λ (a : Atom). Unit {0}) alone _ c.args.rest.now by_call e in
    no_partner i c.args.bound.now c.args.rest.now c.args.others.now w.0 w.1 w.2

use Rattle.std.proofs.Common.{◌≡◌, ◌∙◌, rules, tests, sym}
use Rattle.std.proofs.lemmas.Iterator.{cases_from_all, YieldsList-from_slice, YieldsList-from_zip}
use Rattle.dx_instance.proofs.AskedFacts.{maps_to}
use Rattle.dx_solver.specs.Questions.{answered, number_under}
use Rattle.dx_solver.proofs.judging.is_row.Goals as goal

pub returns : goal.returns
returns c =
    let terms = c.args.terms.now in
    let row = c.args.row.now in
    let at = number_under (answered c.args.xs.now) in
    let by_call = cases_from_all c.all.new.self _ _ (λ p. at p.0 ≡ p.1) (λ p. ¬ (at p.0 ≡ p.1)) c.all.ensures.ran (YieldsList-from_zip (YieldsList-from_slice terms (cc)) (YieldsList-from_slice row (cc))) (λ x q k. search (rules, tests)) (λ x q k. search (rules, tests)) in
    let both = maps_to at c.all.result terms row c.requires by_call in
    ((λ t. sym (both.0 t)), (λ e. both.1 (sym e)))

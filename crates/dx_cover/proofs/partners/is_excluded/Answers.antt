use Rattle.std.proofs.Common.{sym, rules, tests}
use Rattle.std.proofs.lemmas.Iterator.{cases_from_any, YieldsList-from_slice, YieldsList-from_zip}
use Rattle.dx_model.specs.declared.rules.Cell.{Cell}
use Rattle.dx_cover.specs.Partners.{NeverMeet}
use Rattle.dx_cover.proofs.Asked.{told_one}
use Rattle.dx_cover.proofs.Choosing.{excluded_by}
use Rattle.dx_cover.proofs.partners.is_excluded.Goals as goal

pub returns : goal.returns
returns c =
    let never : Cell × Cell → Type 0 = λ p. NeverMeet c.args.bound.now p.0 p.1 in
    let by_call = cases_from_any c.any.new.self _ _ never (λ p. Unit {0}) c.any.ensures.ran (YieldsList-from_zip (YieldsList-from_slice c.items-cells.result.now (cc)) (YieldsList-from_slice c.items-others.result.now (cc))) (λ x q k. search (rules, tests)) (λ x q k. search (rules, tests)) in
    λ e. let w = told_one never (λ (p : Cell × Cell). Unit {0}) _ _ by_call e in
    excluded_by c.args.bound.now c.args.atom.now c.args.other.now w.0 (rw (sym c.items-cells.ensures, sym c.items-others.ensures) w.1) w.2

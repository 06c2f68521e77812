use Rattle.std.proofs.Common.{◌≤◌, ◌<◌, arith, length, rules, tests}
use Rattle.std.proofs.lemmas.Iterator.{cases_from_all, YieldsList-from_slice}
use Rattle.dx_base.proofs.Asked.{all_tells}
use Rattle.clio_answer.proofs.answering.have_few_atoms.Goals as goal

pub returns : goal.returns
returns c =
    let xs = c.args.parts.now in
    let by_call = cases_from_all _ _ _ (λ p. length p.atoms ≤ 64) (λ p. 64 < length p.atoms) c.all.ensures.ran (YieldsList-from_slice xs cc) (λ x q k. search (rules, tests)) (λ x q k. search (rules, tests)) in
    all_tells (λ p. length p.atoms ≤ 64) (λ p. 64 < length p.atoms) _ xs (λ x p q. omega (arith, p, q)) by_call

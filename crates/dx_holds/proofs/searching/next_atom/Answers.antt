use Rattle.std.proofs.Common.{ℕ, rules, tests}
use Rattle.std.proofs.lemmas.Iterator.{first_from_Range}
use Rattle.dx_holds.proofs.Finding.{IsNext, next_tells}
use Rattle.dx_holds.proofs.searching.next_atom.Goals as goal

pub returns : goal.returns
returns c =
    next_tells c.args.atoms.now c.args.found.now c.args.done.now c.args.since c.find.result
    (first_from_Range _ _ _ _ (λ (k : ℕ). IsNext c.args.atoms.now c.args.found.now c.args.done.now c.args.since k) (λ (k : ℕ). ¬ (IsNext c.args.atoms.now c.args.found.now c.args.done.now c.args.since k)) c.find.ensures.ran
    (λ x q k. search (rules, tests)) (λ x q k. search (rules, tests)))

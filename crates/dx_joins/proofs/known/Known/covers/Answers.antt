use Rattle.std.proofs.lemmas.Iterator.{cases_from_all, YieldsList-from_slice}
use Rattle.dx_base.proofs.Asked.{all_tells}
use Rattle.std.proofs.Common.{ℕ, rules, tests}
use Rattle.dx_joins.specs.Knowing.{IsKnown}
use Rattle.dx_joins.proofs.known.Known.covers.Goals as goal

pub returns : goal.returns
returns c =
    let xs = c.args.pattern.now.variables.items in
    let by_call = cases_from_all _ _ _ (λ (z : ℕ). IsKnown c.args.self.now z) (λ z. ¬ (IsKnown c.args.self.now z)) c.all.ensures.ran (YieldsList-from_slice xs cc) (λ x q k. search (rules, tests)) (λ x q k. search (rules, tests)) in
    all_tells (λ (z : ℕ). IsKnown c.args.self.now z) (λ z. ¬ (IsKnown c.args.self.now z)) _ xs (λ z p n. n p) by_call

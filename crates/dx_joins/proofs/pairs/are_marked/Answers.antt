use Rattle.std.proofs.Common.{◌≡◌, ℕ, true, get_or, false, rules, tests}
use Rattle.std.proofs.lemmas.Iterator.{cases_from_all, YieldsList-from_slice}
use Rattle.std.proofs.lemmas.Iterator.Adapters.{serves_from_places}
use Rattle.dx_base.proofs.Asked.{all_tells}
use Rattle.dx_base.proofs.Members.{item_in}
use Rattle.dx_joins.proofs.pairs.are_marked.Goals as goal

pub all-requires-clause-callable : goal.all-requires-clause-callable
all-requires-clause-callable c =
    serves_from_places (YieldsList-from_slice c.args.row.now (cc)) (λ x q m. search rules) (λ x k h e.
    let b = c.requires x.now (item_in c.args.row.now k x.now h e) in
    search (rules, b))

pub returns : goal.returns
returns c =
    let row = c.args.row.now in
    let P : ℕ → Type 0 = λ n. get_or c.args.marks.now n false ≡ true in
    let by_call = cases_from_all _ _ _ P (λ n. ¬ (P n)) c.all.ensures.ran (YieldsList-from_slice row cc) (λ x q k. search (rules, tests)) (λ x q k. search (rules, tests)) in
    all_tells P (λ n. ¬ (P n)) _ row (λ z p n. n p) by_call

use Rattle.std.proofs.Common.{◌≤◌, ◌<◌, rules, tests}
use Rattle.std.proofs.lemmas.Iterator.{first_from_find, YieldsList-from_slice}
use Rattle.std.proofs.lemmas.Iterator.Consumers.{YieldsList-from_copied}
use Rattle.dx_blocks.proofs.NullRowFacts.{none_found, some_found}
use Rattle.dx_blocks.proofs.null_rows.null_in.Goals as goal

pub returns-clause-none : goal.returns-clause-none
returns-clause-none c =
    let row = c.args.row.now in
    let by_call = first_from_find _ _ _ (λ n. c.args.first ≤ n) (λ n. n < c.args.first) c.find.ensures.ran (YieldsList-from_copied (YieldsList-from_slice row (cc))) (λ x q k. search (rules, tests)) (λ x q k. search (rules, tests)) in
    none_found (λ n. c.args.first ≤ n) (λ n. n < c.args.first) row _ by_call

pub returns-clause-some : goal.returns-clause-some
returns-clause-some c =
    let row = c.args.row.now in
    let by_call = first_from_find _ _ _ (λ n. c.args.first ≤ n) (λ n. n < c.args.first) c.find.ensures.ran (YieldsList-from_copied (YieldsList-from_slice row (cc))) (λ x q k. search (rules, tests)) (λ x q k. search (rules, tests)) in
    some_found (λ n. c.args.first ≤ n) (λ n. n < c.args.first) row _ by_call

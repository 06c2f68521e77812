use Rattle.std.proofs.Common.{◌≡◌, ◌<◌, length, arith, rules, tests}
use Rattle.std.proofs.lemmas.Iterator.{first_from_Range, serves_from_Range}
use Rattle.dx_instance.specs.Indexes.{number_in}
use Rattle.dx_instance.proofs.AskedFacts.{first_until}
use Rattle.dx_instance.proofs.table.next_in.Goals as goal

pub find-requires-clause-callable : goal.find-requires-clause-callable
find-requires-clause-callable c =
    serves_from_Range (λ x q m. search rules) (λ x l u.
    let b : x < length c.args.rows.now.rows = omega (arith, u, c.count.ensures.count) in
    search (rules, b, c.requires))

pub returns : goal.returns
returns c =
    let rows = c.args.rows.now.rows in
    let by_call = first_from_Range _ _ _ _ (λ x. number_in rows c.args.column x ≡ c.args.number) (λ x. ¬ (number_in rows c.args.column x ≡ c.args.number)) c.find.ensures.ran (λ x q k. search (rules, tests)) (λ x q k. search (rules, tests)) in
    first_until (λ x. number_in rows c.args.column x ≡ c.args.number) _ c.args.from c.count.result (length rows) c.count.ensures.count by_call

use Rattle.std.proofs.Common.{◌<◌, ℕ, length, arith, rules, tests}
use Rattle.std.proofs.lemmas.Iterator.{first_from_Range, serves_from_Range}
use Rattle.dx_instance.specs.Places.{HasValues}
use Rattle.dx_instance.specs.Stored.{rows_of}
use Rattle.dx_instance.proofs.PlaceFacts.{first_with}
use Rattle.dx_instance.proofs.instance.Instance.scan_columns.Goals as goal

pub find-requires-clause-callable : goal.find-requires-clause-callable
find-requires-clause-callable c =
    serves_from_Range (λ x q m. search rules) (λ x l u.
    let b : x < length (rows_of c.args.self.now c.args.table) = omega (arith, u, c.count.ensures) in
    search (rules, b, c.requires.table, c.requires.columns, c.requires.lengths))

pub returns : goal.returns
returns c =
    let has : ℕ → Type 0 = λ x. HasValues c.args.self.now c.args.table c.args.columns.now c.args.values.now x in
    let by_call = first_from_Range _ _ _ _ has (λ x. ¬ (has x)) c.find.ensures.ran (λ x q k. search (rules, tests)) (λ x q k. search (rules, tests)) in
    first_with c.args.self.now c.args.table c.args.columns.now c.args.values.now c.args.from c.count.result _ c.count.ensures by_call

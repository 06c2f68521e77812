use Rattle.std.proofs.Common.{◌≡◌, ◌≤◌, ◌<◌, ℕ, List, None, Some, Option, length, arith, rules, tests, slice_index}
use Rattle.std.specs.Prelude.{MatchOption, IfSome}
use Rattle.std.proofs.lemmas.Iterator.{first_from_Range, serves_from_Range}
use Rattle.dx_csv.specs.Plain.{FirstQuote}
use Rattle.dx_csv.proofs.plain.first_quote.Goals as goal

first : (bytes : List ℕ) (from end : ℕ) (o : Option ℕ) → end ≤ length bytes
    → MatchOption o ((k : ℕ) → from ≤ k → k < end → ¬ (slice_index bytes k ≡ 34)) (λ i. (from ≤ i) × (i < end) × (slice_index bytes i ≡ 34) × ((k : ℕ) → from ≤ k → k < i → ¬ (slice_index bytes k ≡ 34)))
    → IfSome o (FirstQuote bytes from)
first bytes from end None l h = tt
first bytes from end (Some q) l h = record { order = h.0; within = omega (arith, h.1, l); here = h.2; before = h.3 }

pub find-requires-clause-callable : goal.find-requires-clause-callable
find-requires-clause-callable c = serves_from_Range (λ x q m. search rules) (λ x l u. search (rules, u))

pub returns : goal.returns
returns c =
    let bytes = c.args.bytes.now in
    let by_call = first_from_Range _ _ _ _ (λ x. slice_index bytes x ≡ 34) (λ x. ¬ (slice_index bytes x ≡ 34)) c.find.ensures.ran (λ x q k. search (rules, tests)) (λ x q k. search (rules, tests)) in
    first bytes c.args.from (length bytes) _ (omega arith) by_call

use Rattle.std.proofs.Common.{◌≡◌, ◌<◌, ℕ, length, get_or, true, false, arith, rules, tests}
use Rattle.std.proofs.lemmas.Iterator.{cases_from_all, YieldsList-from_range, serves_from_Range}
use Rattle.dx_instance.specs.Cells.{numbers_at}
use Rattle.dx_instance.proofs.AskedFacts.{all_in_range, on_true}
use Rattle.dx_rigid.specs.Alone.{number_rows}
use Rattle.dx_rigid.proofs.holding.hold_marked.Goals as goal

pub all-requires-clause-callable : goal.all-requires-clause-callable
all-requires-clause-callable c =
    serves_from_Range (λ x q m. search rules) (λ x l u.
    let b : x < length c.args.numbers.now.tables = omega (arith, u, c.tables.ensures) in
    search (rules, b))

pub returns : goal.returns
returns c =
    let s = c.args.numbers.now in
    let marks = c.args.marks.now in
    let holds : ℕ → Type 0 = λ t. (p : ℕ) → p < length (number_rows s t) → (k : ℕ) → k < length (numbers_at (number_rows s t) p)
    → get_or marks (get_or (numbers_at (number_rows s t) p) k 0) false ≡ true in
    let n = c.tables.result in
    let by_call = cases_from_all _ _ _ holds (λ t. Unit {0}) c.all.ensures.ran (YieldsList-from_range 0 n n (cc) (omega arith)) (λ x q k. search (rules, tests)) (λ x q k. tt) in
    on_true c.all.result ((t p : ℕ) → t < length s.tables → p < length (number_rows s t) → (k : ℕ) → k < length (numbers_at (number_rows s t) p)
    → get_or marks (get_or (numbers_at (number_rows s t) p) k 0) false ≡ true) (λ e t p h. all_in_range holds (λ t. Unit {0}) _ 0 n by_call e t (omega arith) (omega (arith, h, c.tables.ensures)) p)

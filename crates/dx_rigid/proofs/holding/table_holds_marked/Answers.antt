use Rattle.std.proofs.Common.{◌≡◌, ◌<◌, ℕ, length, get_or, true, false, arith, rules, tests}
use Rattle.std.proofs.lemmas.Iterator.{cases_from_all, YieldsList-from_range, serves_from_Range}
use Rattle.dx_instance.specs.Cells.{numbers_at}
use Rattle.dx_instance.proofs.AskedFacts.{all_in_range, on_true}
use Rattle.dx_rigid.specs.Alone.{number_rows}
use Rattle.dx_rigid.proofs.holding.table_holds_marked.Goals as goal

pub all-requires-clause-callable : goal.all-requires-clause-callable
all-requires-clause-callable c =
    serves_from_Range (λ x q m. search rules) (λ x l u.
    let b : x < length (number_rows c.args.numbers.now c.args.table) = omega (arith, u, c.count.ensures) in
    search (rules, b))

pub returns : goal.returns
returns c =
    let rows = number_rows c.args.numbers.now c.args.table in
    let marks = c.args.marks.now in
    let holds : ℕ → Type 0 = λ p. (k : ℕ) → k < length (numbers_at rows p) → get_or marks (get_or (numbers_at rows p) k 0) false ≡ true in
    let n = c.count.result in
    let by_call = cases_from_all _ _ _ holds (λ p. Unit {0}) c.all.ensures.ran (YieldsList-from_range 0 n n (cc) (omega arith)) (λ x q k. search (rules, tests)) (λ x q k. tt) in
    on_true c.all.result ((p : ℕ) → p < length rows → holds p) (λ e p h. all_in_range holds (λ p. Unit {0}) _ 0 n by_call e p (omega arith) (omega (arith, h, c.count.ensures)))

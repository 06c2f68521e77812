use Rattle.std.proofs.Common.{◌≡◌, ◌∙◌, ◌<◌, ◌-◌, ℕ, sym, ap, length, arith, rules, tests, true}
use Rattle.std.specs.Ordering.{is_lt}
use Rattle.std.proofs.lemmas.Iterator.{cases_from_all, YieldsList-from_range, serves_from_Range}
use Rattle.dx_instance.specs.Cells.{NumberTable, numbers_at}
use Rattle.dx_instance.proofs.AskedFacts.{all_in_range, on_true}
use Rattle.dx_instance.proofs.TableFacts.{numbers_cmp}
use Rattle.dx_instance.proofs.CellFacts.{length_rows, ascends_by_steps}
use Rattle.dx_instance.proofs.cells.Rows.is_ascending.Goals as goal

pub all-requires-clause-callable : goal.all-requires-clause-callable
all-requires-clause-callable c =
    let many = sym (length_rows c.self.inside.count c.self.inside.width c.self.inside.cells.items) ∙ ap (λ (t : NumberTable). length t.rows) c.self.view_is in
    serves_from_Range (λ x q m. search rules) (λ x l u.
    let before : x - 1 < length c.args.self.now.rows = omega (arith, many, u) in
    let here : x < length c.args.self.now.rows = omega (arith, many, u) in
    search (rules, l, before, here))

pub returns : goal.returns
returns c =
    let many = sym (length_rows c.self.inside.count c.self.inside.width c.self.inside.cells.items) ∙ ap (λ (t : NumberTable). length t.rows) c.self.view_is in
    let rows = c.args.self.now.rows in
    let count = c.self.inside.count in
    let rises : ℕ → Type 0 = λ x. true ≡ is_lt (numbers_cmp (numbers_at rows (x - 1)) (numbers_at rows x)) in
    let by_call = cases_from_all _ _ _ rises (λ x. Unit {0}) c.all.ensures.ran
    (YieldsList-from_range 1 count (count - 1) (cc) (cc)) (λ x q k. search (rules, tests)) (λ x q k. tt) in
    on_true _ _ (λ e. ascends_by_steps rows (λ k l u. all_in_range rises (λ x. Unit {0}) _ 1 (count - 1) by_call e k l (omega (arith, many, l, u))))

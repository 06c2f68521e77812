use Rattle.std.proofs.Common.{◌∙◌, sym, ap, subst, length, arith}
use Rattle.dx_base.specs.Members.{Each}
use Rattle.std.proofs.Common.{◌≡◌, List, ℕ}
use Rattle.dx_instance.specs.Cells.{NumberTable}
use Rattle.dx_instance.proofs.CellFacts.{length_rows, rows_wide}
use Rattle.dx_instance.proofs.cells.Rows.count.Goals as goal

pub returns-clause-count : goal.returns-clause-count
returns-clause-count c = sym (length_rows c.self.inside.count c.self.inside.width c.self.inside.cells.items) ∙ ap (λ (t : NumberTable). length t.rows) c.self.view_is

pub returns-clause-wide : goal.returns-clause-wide
returns-clause-wide c = subst (λ (t : NumberTable). Each t.rows (λ (r : List ℕ). length r ≡ t.width)) c.self.view_is (rows_wide c.self.inside.count c.self.inside.width c.self.inside.cells.items c.self.invariant)

pub returns-clause-few : goal.returns-clause-few
returns-clause-few c =
    let many = sym (length_rows c.self.inside.count c.self.inside.width c.self.inside.cells.items) ∙ ap (λ (t : NumberTable). length t.rows) c.self.view_is in
    omega (arith, many)

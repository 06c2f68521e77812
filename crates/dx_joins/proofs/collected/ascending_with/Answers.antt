use Rattle.std.proofs.Common.{◌∙◌, ◌-◌, sym, ap, arith, ℕ, List}
use Rattle.dx_instance.specs.Cells.{numbers_at}
use Rattle.dx_instance.proofs.TableFacts.{numbers_cmp}
use Rattle.dx_joins.proofs.Ascending.{first_more}
use Rattle.dx_joins.proofs.Loops.{is_less}
use Rattle.dx_joins.proofs.collected.ascending_with.Goals as goal

pub returns-then-eq : goal.returns-then-eq
returns-then-eq c =
    let less = sym c.cmp.ensures ∙ is_less c.cmp.result c.if-eq.ensures in
    let at = ap (λ (n : ℕ). numbers_at c.args.rows.now.rows (n - 1)) c.count-count.ensures.count in
    first_more c.args.ascending c.args.rows.now.rows c.args.row.now (omega (arith, c.count-count.ensures.count)) (omega (arith, c.count-count.ensures.count))
    (ap (λ (r : List ℕ). numbers_cmp r c.args.row.now) (sym at ∙ sym c.row.ensures.row) ∙ less) c.requires.first

use Rattle.dx_instance.specs.Cells.{numbers_at}
use Rattle.std.proofs.Common.{◌∙◌, ◌-◌, sym, ap, subst, arith, ℕ, List, [], length}
use Rattle.dx_base.specs.Members.{◌∈◌}
use Rattle.dx_base.proofs.Members.{in_at}
use Rattle.dx_base.proofs.Loops.{on_true}
use Rattle.std.proofs.lemmas.Slice.Eq.{bytes_eq-Decides}
use Rattle.dx_joins.proofs.collected.ends_with.Goals as goal

pub returns-then-count-gt0 : goal.returns-then-count-gt0
returns-then-count-gt0 c = on_true _ _ (λ e.
    let at = in_at c.args.rows.now.rows (length c.args.rows.now.rows - 1) [] (omega (arith, c.count-count.ensures.count)) in
    let same = sym c.row.ensures.row ∙ (bytes_eq-Decides c.row.result.now c.args.row.now).0 (sym c.eq.ensures ∙ e) in
    subst (λ (r : List ℕ). r ∈ c.args.rows.now.rows) (ap (λ (n : ℕ). numbers_at c.args.rows.now.rows (n - 1)) (sym c.count-count.ensures.count) ∙ same) at)

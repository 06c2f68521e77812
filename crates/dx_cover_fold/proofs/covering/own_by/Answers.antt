use Rattle.std.proofs.Common.{sym, ◌∙◌, ap, map}
use Rattle.dx_model.specs.declared.rules.Cell.TheVariants.{Var}
use Rattle.dx_cover_fold.proofs.covering.own_by.Goals as goal

pub returns : goal.returns
returns c =
    rw (← (c.deref-2.ensures.value ∙ c.in_ok-variables.ensures), ← (c.deref-3.ensures.value ∙ c.in_ok-cells.ensures ∙ ap (map Var) (c.deref.ensures.value ∙ sym c.deref-2.ensures.value))) c.plan_cells.ensures

use Rattle.std.proofs.Common.{◌∙◌, sym}
use Rattle.dx_cover.proofs.Choosing.{met_another, not_allowed, turned}
use Rattle.dx_cover.proofs.partners.never_meets.Goals as goal

pub returns-then-not-is_allowed : goal.returns-then-not-is_allowed
returns-then-not-is_allowed c = λ e. not_allowed c.args.bound.now c.args.cell.now c.args.met.now (sym c.is_allowed.ensures ∙ c.if-not-is_allowed.true)

pub returns-then-has_met : goal.returns-then-has_met
returns-then-has_met c = λ e.
    met_another c.args.bound.now c.args.cell.now c.args.met.now (sym c.has_met.ensures ∙ c.if-has_met.true) (sym c.first_is.ensures ∙ turned c.first_is.result e)

use Rattle.std.proofs.Common.{subst}
use Rattle.dx_model.specs.declared.values.Value.TheVariants.{Const}
use Rattle.dx_base.specs.Texts.{Text}
use Rattle.dx_cover_fold.specs.Codes.{IsCode}
use Rattle.dx_cover_fold.proofs.PlanFacts.{plan_literal, plan_outside}
use Rattle.dx_cover_fold.proofs.plan.plan_cell.Goals as goal

pub returns-in-Ex : goal.returns-in-Ex
returns-in-Ex c = rw c.in-Ex.is (plan_outside c.args.matches.now.symbols c.args.variables.now c.args.width c.outside.result _ c.outside.ensures)

pub returns-in_ok-copy-in-Lit : goal.returns-in_ok-copy-in-Lit
returns-in_ok-copy-in-Lit c = rw c.in-Lit.is (plan_literal c.args.matches.now.symbols c.args.variables.now c.args.width c.code.result _ (subst (λ (t : Text). IsCode c.args.matches.now.symbols (Const t) c.code.result) c.in_ok-copy-in-Lit.ensures c.code.ensures))

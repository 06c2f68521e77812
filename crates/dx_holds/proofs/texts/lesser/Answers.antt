use Rattle.std.proofs.Common.{arith, sym, ◌∙◌}
use Rattle.dx_holds.proofs.Least.{least_first, least_kept, least_lower, least_stays, same_var}
use Rattle.dx_holds.proofs.texts.lesser.Goals as goal

pub returns-then-variable-from : goal.returns-then-variable-from
returns-then-variable-from c = λ cells k e m. least_stays cells k c.args.from c.args.least (λ x d. let s = same_var c.args.variable x (sym e ∙ d) in omega (arith, s, c.if-variable-from.true)) m

pub returns-in_default : goal.returns-in_default
returns-in_default c = λ cells k e m. least_first cells k c.args.from c.args.variable e c.if-variable-from.false (rw c.in_default.is at m)

pub returns-then-other-variable : goal.returns-then-other-variable
returns-then-other-variable c = λ cells k e m. least_kept cells k c.args.from c.in-Some.other c.args.variable e c.if-other-variable.true (rw c.in-Some.is at m)

pub returns : goal.returns
returns c = λ cells k e m. least_lower cells k c.args.from c.in-Some.other c.args.variable e c.if-variable-from.false (omega (arith, c.if-other-variable.false)) (rw c.in-Some.is at m)

use Rattle.std.proofs.Common.{◌∙◌, ◌+◌, ◌++◌, ◌∷◌, [], List, ℕ, ap, sym}
use Rattle.dx_base.proofs.Ranges.{range_more}
use Rattle.dx_eval.proofs.variables.fresh.Goals as goal

pub loop-i-preserved : goal.loop-i-preserved
loop-i-preserved c = c.in_ok-push.ensures.ok ∙ ap (λ (l : List ℕ). l ++ ((c.args.first + c.loop-i.i) ∷ [])) c.loop-i.invariant ∙ sym (range_more c.args.first c.loop-i.i)

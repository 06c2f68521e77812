use Rattle.std.proofs.Common.{◌∙◌, subst, ℕ, List}
use Rattle.std.proofs.lemmas.List.{take_all}
use Rattle.dx_joins.specs.Knowing.{NowKnown}
use Rattle.dx_joins.proofs.Knowing.{now_more}
use Rattle.dx_joins.proofs.known.Known.add.Goals as goal

pub loop-variable-preserved : goal.loop-variable-preserved
loop-variable-preserved c =
    now_more c.args.self.now c.loop-variable.self c.mark.new.self c.deref-variable-items.result.now c.loop-variable.variable-index c.loop-variable-test.true c.loop-variable.invariant c.mark.ensures

pub returns : goal.returns
returns c = subst (λ (l : List ℕ). NowKnown c.args.self.now c.loop-variable.self l) (take_all c.loop-variable.variable-index c.deref-variable-items.result.now c.loop-variable-test.false ∙ c.deref-variable-items.ensures.value) c.loop-variable.invariant

use Rattle.std.proofs.Common.{◌++◌, map, take}
use Rattle.dx_model.specs.declared.rules.Cell.TheVariants.{Var}
use Rattle.dx_used.proofs.MarkFacts.{counted_all, counted_variable}
use Rattle.dx_used.proofs.mentions.add_variables.Goals as goal

pub loop-variable-preserved : goal.loop-variable-preserved
loop-variable-preserved c before h = counted_variable before c.args.variables.now c.loop-variable.variable-index c.add_mention.new.counts c.loop-variable-test.true (c.add_mention.ensures.counts (before ++ map Var (take c.loop-variable.variable-index c.args.variables.now)) (c.loop-variable.invariant before h))

pub returns : goal.returns
returns c = record { counts = λ before h. counted_all (map Var) before c.args.variables.now c.loop-variable.variable-index c.loop-variable.counts c.loop-variable-test.false (c.loop-variable.invariant before h) }

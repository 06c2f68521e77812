use Rattle.std.proofs.Common.{◌++◌, subst, take, map, flat_map}
use Rattle.dx_model.specs.declared.rules.Cell.TheVariants.{Var}
use Rattle.dx_model.specs.declared.rules.Derived.{Derived}
use Rattle.dx_used.specs.Counting.{CountsCells}
use Rattle.dx_used.proofs.MarkFacts.{counted_all, counted_item}
use Rattle.dx_used.proofs.mentions.add_arguments.Goals as goal

pub loop-conversion-preserved : goal.loop-conversion-preserved
loop-conversion-preserved c before h = counted_item (λ (e : Derived). map Var e.args) before c.args.conversions.now c.loop-conversion.conversion-index c.conversion-item.result c.add_variables.new.counts c.loop-conversion-test.true c.conversion-item.is (subst (λ xs. CountsCells ((before ++ flat_map (λ (e : Derived). map Var e.args) (take c.loop-conversion.conversion-index c.args.conversions.now)) ++ map Var xs) c.add_variables.new.counts) c.items.ensures (c.add_variables.ensures.counts (before ++ flat_map (λ (e : Derived). map Var e.args) (take c.loop-conversion.conversion-index c.args.conversions.now)) (c.loop-conversion.invariant before h)))

pub returns : goal.returns
returns c = record { counts = λ before h. counted_all (λ ds. flat_map (λ (e : Derived). map Var e.args) ds) before c.args.conversions.now c.loop-conversion.conversion-index c.loop-conversion.counts c.loop-conversion-test.false (c.loop-conversion.invariant before h) }

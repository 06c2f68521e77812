use Rattle.std.proofs.Common.{◌≡◌, take}
use Rattle.dx_model.specs.Instances.{values}
use Rattle.dx_blocks.specs.Nulls.{row_nulls}
use Rattle.dx_blocks.proofs.nulls.nulls_of.Given as goal

abbrev pub invariant-loop-fact : goal.invariant-loop-fact
invariant-loop-fact l = l.nulls.items ≡ row_nulls (values (take l.fact-index l.facts))

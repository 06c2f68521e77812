use Rattle.std.proofs.Common.{◌≡◌, [], replicate}
use Rattle.dx_blocks.proofs.grouping.empty_blocks.Given as goal

abbrev pub invariant-loop : goal.invariant-loop
invariant-loop l = l.blocks.items ≡ replicate l.counter (record { nulls = []; facts = [] })

use Rattle.std.proofs.Common.{◌≡◌, [], replicate}
use Rattle.dx_blocks.proofs.number_filling.empty_number_blocks.Given as goal

abbrev pub invariant-loop : goal.invariant-loop
invariant-loop l = l.blocks.items ≡ replicate l.counter (record { nulls = []; rows = [] })

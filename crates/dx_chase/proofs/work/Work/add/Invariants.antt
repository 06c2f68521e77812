use Rattle.std.proofs.Common.{◌++◌, take}
use Rattle.std.specs.List.{range_with_len}
use Rattle.dx_chase.specs.Work.{AddsNumbers}
use Rattle.dx_chase.proofs.work.Work.add.Given as goal

abbrev pub invariant-loop-one : goal.invariant-loop-one
invariant-loop-one l =
    AddsNumbers (take l.one-index l.more) (range_with_len 0 l.initial.self-inside.fresh ++ l.initial.self-inside.woken.items)
    (range_with_len 0 l.self-inside.fresh ++ l.self-inside.woken.items)

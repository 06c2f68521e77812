use Rattle.std.proofs.Common.{◌≡◌, ◌≤◌, ◌+◌, drop, length}
use Rattle.dx_tgd_text.specs.Numbering.{appeared, new_names}
use Rattle.dx_tgd_text.proofs.names.Names.enter_new.Given as goal

-- with the names in the rest, all have appeared
abbrev pub invariant-loop-cell : goal.invariant-loop-cell
invariant-loop-cell l =
    (appeared l.self (new_names l.known (drop l.cell-index l.cells)) ≡ appeared l.fn.self (new_names l.known l.cells))
    × (length l.self ≤ length l.fn.self + l.cell-index)

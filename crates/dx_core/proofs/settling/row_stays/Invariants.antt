use Rattle.std.proofs.Common.{◌≡◌, ◌<◌, ℕ, get_or}
use Rattle.dx_model.specs.Instances.{moved}
use Rattle.dx_instance.specs.NullMaps.{becomes}
use Rattle.dx_instance.specs.Numbers.{value_of}
use Rattle.dx_core.proofs.settling.row_stays.Given as goal

abbrev pub invariant-loop-number : goal.invariant-loop-number
invariant-loop-number l = (c : ℕ) → c < l.number-index
    → moved (becomes l.map) (value_of l.numbers.symbols (get_or l.row c 0)) ≡ value_of l.numbers.symbols (get_or l.row c 0)

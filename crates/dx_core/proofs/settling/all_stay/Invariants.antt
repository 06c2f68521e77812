use Rattle.std.proofs.Common.{◌≡◌, ◌<◌, ℕ, get_or, length}
use Rattle.dx_model.specs.Instances.{moved}
use Rattle.dx_instance.specs.Cells.{numbers_at}
use Rattle.dx_instance.specs.NullMaps.{becomes}
use Rattle.dx_instance.specs.Numbers.{value_of}
use Rattle.dx_rigid.specs.Alone.{number_rows}
use Rattle.dx_core.proofs.settling.all_stay.Given as goal

abbrev pub invariant-loop-table : goal.invariant-loop-table
invariant-loop-table l = (t : ℕ) → t < l.table → (p : ℕ) → p < length (number_rows l.numbers t) → (c : ℕ)
    → c < length (numbers_at (number_rows l.numbers t) p)
    → moved (becomes l.map) (value_of l.numbers.symbols (get_or (numbers_at (number_rows l.numbers t) p) c 0))
    ≡ value_of l.numbers.symbols (get_or (numbers_at (number_rows l.numbers t) p) c 0)

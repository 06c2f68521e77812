use Rattle.std.proofs.Common.{◌≡◌, ◌<◌, ℕ, get_or, length}
use Rattle.dx_model.specs.Instances.{moved}
use Rattle.dx_instance.specs.Cells.{numbers_at}
use Rattle.dx_instance.specs.NullMaps.{becomes}
use Rattle.dx_instance.specs.Numbers.{value_of}
use Rattle.dx_rigid.specs.Alone.{number_rows}
use Rattle.dx_core.proofs.settling.table_stays.Given as goal

abbrev pub invariant-loop-place : goal.invariant-loop-place
invariant-loop-place l = (p : ℕ) → p < l.place → (c : ℕ) → c < length (numbers_at (number_rows l.numbers l.table) p)
    → moved (becomes l.map) (value_of l.numbers.symbols (get_or (numbers_at (number_rows l.numbers l.table) p) c 0))
    ≡ value_of l.numbers.symbols (get_or (numbers_at (number_rows l.numbers l.table) p) c 0)

use Rattle.std.proofs.Common.{◌≡◌, ◌++◌, take}
use Rattle.dx_model.specs.Instances.{nulls_in}
use Rattle.dx_instance.specs.Shown.{shown_row}
use Rattle.clio_files.proofs.nulls.push_row.Given as goal

abbrev pub invariant-loop-number : goal.invariant-loop-number
invariant-loop-number l = l.nulls.items ≡ l.fn.nulls.items ++ nulls_in (shown_row l.target.symbols (take l.number-index l.row))

use Rattle.std.proofs.Common.{◌≡◌, map, take}
use Rattle.dx_model.specs.declared.tables.Key.{Key}
use Rattle.dx_model.specs.Tables.{key_of}
use Rattle.dx_keys.specs.Numbers.{determination_of}
use Rattle.dx_keys.proofs.tables.keys_as_columns.Given as goal

abbrev pub invariant-loop-key : goal.invariant-loop-key
invariant-loop-key l = map determination_of l.all ≡ map (λ (k : Key). key_of l.width k.columns) (take l.key-index l.key-items)

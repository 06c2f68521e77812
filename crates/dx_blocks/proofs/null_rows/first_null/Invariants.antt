use Rattle.std.proofs.Common.{◌≡◌, ℕ, ◌<◌}
use Rattle.dx_model.specs.declared.values.NullId.{NullId}
use Rattle.dx_model.specs.declared.values.Value.TheVariants.{Null}
use Rattle.dx_instance.specs.Numbers.{value_of}
use Rattle.dx_blocks.proofs.null_rows.first_null.Given as goal

abbrev pub invariant-loop-number : goal.invariant-loop-number
invariant-loop-number l = (n : ℕ) → n < l.number → (k : NullId) → ¬ (value_of l.numbers.symbols n ≡ Null k)

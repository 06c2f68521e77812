use Rattle.std.proofs.Common.{◌≡◌, ◌≤◌, ◌++◌, [], drop, length}
use Rattle.std.specs.Prelude.{flat_map, slice_index_or}
use Rattle.dx_model.specs.Covers.{below}
use Rattle.dx_script.specs.Generated.{keep_step}
use Rattle.dx_scriptgen.proofs.generate.push_keeps.Given as goal

abbrev pub invariant-loop-number : goal.invariant-loop-number
invariant-loop-number l =
    (l.number-iterator.iter.rest.items ≡ drop l.number-iterator.count l.fn.parts.items)
    × (l.number-iterator.iter.rest.len ≡ length l.number-iterator.iter.rest.items)
    × (l.number-iterator.count ≤ length l.fn.parts.items)
    × (l.steps ≡ l.initial.steps ++ flat_map (λ r. keep_step r (slice_index_or l.fn.parts.items r [])) (below l.number-iterator.count))

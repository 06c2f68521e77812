use Rattle.std.proofs.Common.{◌≡◌}
use Rattle.std.specs.Prelude.{map, slice_index_or}
use Rattle.dx_model.specs.declared.rules.Cell.TheVariants.{Ex}
use Rattle.dx_model.specs.Covers.{below}
use Rattle.dx_scriptgen.specs.Parts.{test_for}
use Rattle.dx_scriptgen.proofs.keeps.tests_of.Given as goal

abbrev pub invariant-loop-own : goal.invariant-loop-own
invariant-loop-own l = l.tests ≡ map (λ own. test_for l.others own (slice_index_or l.cells own (Ex 0))) (below l.own)

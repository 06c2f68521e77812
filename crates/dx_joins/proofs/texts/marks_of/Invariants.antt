use Rattle.std.proofs.Common.{◌≡◌, take}
use Rattle.std.specs.Prelude.{map}
use Rattle.dx_joins.specs.Shown.{is_text}
use Rattle.dx_joins.proofs.texts.marks_of.Given as goal

abbrev pub invariant-loop-number : goal.invariant-loop-number
invariant-loop-number l = l.marks.items ≡ map is_text (take l.number l.source.symbols)

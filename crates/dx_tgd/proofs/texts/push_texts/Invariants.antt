use Rattle.std.proofs.Common.{◌≡◌, ◌++◌, take}
use Rattle.dx_joins.specs.Shown.{texts_of}
use Rattle.dx_tgd.proofs.texts.push_texts.Given as goal

abbrev pub invariant-loop-number : goal.invariant-loop-number
invariant-loop-number l = l.texts.items ≡ l.fn.texts.items ++ texts_of l.symbols (take l.number-index l.row)

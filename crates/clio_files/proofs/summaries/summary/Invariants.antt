use Rattle.std.proofs.Common.{◌≡◌, take, flat_map}
use Rattle.clio_files.proofs.SheetLists.{printed_line}
use Rattle.clio_files.proofs.summaries.summary.Given as goal

abbrev pub invariant-loop-one : goal.invariant-loop-one
invariant-loop-one l = l.text.items ≡ flat_map printed_line (take l.one-index l.printed)

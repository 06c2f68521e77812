use Rattle.std.proofs.Common.{◌≡◌, take, flat_map}
use Rattle.clio_files.proofs.TextFiles.{printed_bytes}
use Rattle.clio_files.proofs.summaries.contents.Given as goal

abbrev pub invariant-loop-one : goal.invariant-loop-one
invariant-loop-one l = l.text.items ≡ flat_map printed_bytes (take l.one-index l.printed)

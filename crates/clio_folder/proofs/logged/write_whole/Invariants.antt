use Rattle.std.proofs.Common.{◌≡◌, ◌++◌, ◌≤◌, length, take}
use Rattle.clio_folder.proofs.logged.write_whole.Given as goal

-- what is done was taken, and nothing else
abbrev pub invariant-writes : goal.invariant-writes
invariant-writes g l = (l.done ≤ length l.bytes) × (l.to.log.written.said ≡ l.fn.to.log.written.said ++ take l.done l.bytes)
